-- The readers use a width only by its attribute's number, so that zeros beyond the last width change nothing.
--   row_in-same, rows_in-same, contents_in-same, table_in-same, tables_in-same == two lists with the same width at every number read alike
use mathlib.Core.Path.{◌≡◌, refl}
use mathlib.Core.List.{List, [], ◌∷◌}
use Prim.Native.Nat.{ℕ, zero, suc}
use lib.ListN.{get_or}
use Rattle.questions.specs.Questions.{Table, row_in, rows_in, contents_in, table_in, tables_in}

module _ (ws vs : List ℕ) (same : (a : ℕ) → get_or ws a 0 ≡ get_or vs a 0) where
  pub row_in-same : (xs above r s : List ℕ) → row_in ws xs above r s ≡ row_in vs xs above r s
  unfolding row_in
  row_in-same [] above r s = refl
  row_in-same (a ∷ xs) above r s = simp (same, row_in-same xs)

  pub rows_in-same : (l : ℕ) (xs above : List ℕ) (rs : List (List ℕ)) (s : List ℕ) → rows_in l ws xs above rs s ≡ rows_in l vs xs above rs s
  unfolding rows_in
  rows_in-same zero xs above rs s = refl
  rows_in-same (suc l) xs above rs s = simp (row_in-same, rows_in-same l)

  contents_in-same : (k m : ℕ) (xs s : List ℕ) → contents_in k m ws xs s ≡ contents_in k m vs xs s
  unfolding contents_in
  contents_in-same k m xs s = simp (same, rows_in-same)

  pub table_in-same : (n : ℕ) (s : List ℕ) → table_in n ws s ≡ table_in n vs s
  unfolding table_in
  table_in-same n s = simp contents_in-same

  pub tables_in-same : (l n : ℕ) (ts : List Table) (s : List ℕ) → tables_in l n ws ts s ≡ tables_in l n vs ts s
  unfolding tables_in
  tables_in-same zero n ts s = refl
  tables_in-same (suc l) n ts s = simp (table_in-same, tables_in-same l)
