-- What a table has, by its first word and its number of rows: the mark of an open table is asked first, so that question 8 lets it pass and nothing follows
-- it; then that of a range table.
--   rows-mark, rows_few  == question 8 lets the mark pass, and a number that is not too high
--   rows-low, rows-asked == what a passed question 8 says
--   contents-open, contents-rows, contents-pairs == what is read after the mark of an open table, after an arity, and after the mark of a range table
use mathlib.Core.Path.{◌≡◌, refl}
use mathlib.Core.Bool.{true, false, ◌&&◌, not}
use mathlib.Core.List.{List, []}
use Prim.Native.Nat.{ℕ, ◌≤◌}
use native.Mathlib.Omega.{arith}
use borrow.Author.Tests.{eq-eqb, ne_eqb, le-ltb, ltb-false}
use lib.Dec.{eqb, ltb}
use lib.ListN.{get_or}
use Rattle.questions.specs.Limits.{max_rows, open_mark, range_mark}
use Rattle.questions.specs.Orders.{is_in}
use Rattle.questions.specs.Questions.{with_rows, unfilled, with_pairs, got, then_g, rows_in, pairs_in, rows_check, contents_in}
use Rattle.questions.specs.Reads.{Few}
use Rattle.questions.proofs.Yields.{Check, check-when, check-map}

module _ (m : ℕ) where
  pub rows-mark : m ≡ open_mark → rows_check m ≡ 0
  rows-mark e = rw (eq-eqb m open_mark e)

  pub rows_few : m ≤ max_rows → rows_check m ≡ 0
  rows_few h = rw (ne_eqb m open_mark (λ e. omega arith), le-ltb max_rows m h)

  pub rows-low : (not (eqb m open_mark) && ltb max_rows m) ≡ false → Few m
  rows-low f n = let low : (true && ltb max_rows m) ≡ false = rw (ne_eqb m open_mark n) at f in ltb-false max_rows m low

  pub rows-asked : Check (Few m) (rows_check m)
  unfolding is_in
  rows-asked = check-map rows-low (check-when (not (eqb m open_mark) && ltb max_rows m) 8 refl)

  module _ (k : ℕ) (ws xs s : List ℕ) where
    pub contents-open : m ≡ open_mark → contents_in k m ws xs s ≡ got unfilled s
    unfolding contents_in
    contents-open e = rw (eq-eqb m open_mark e)

    pub contents-rows : (k ≡ range_mark → ⊥) → (m ≡ open_mark → ⊥) → contents_in k m ws xs s ≡ then_g (rows_in m ws xs [] [] s) (λ rs t. got (with_rows rs) t)
    unfolding contents_in
    contents-rows plain n = rw (ne_eqb m open_mark n, ne_eqb k range_mark plain)

    pub contents-pairs : k ≡ range_mark → (m ≡ open_mark → ⊥) → contents_in k m ws xs s ≡ then_g (pairs_in m (get_or ws (get_or xs 0 0) 0) 0 [] s) (λ ps t. got (with_pairs ps) t)
    unfolding contents_in
    contents-pairs mark n = rw (ne_eqb m open_mark n, eq-eqb k range_mark mark)
