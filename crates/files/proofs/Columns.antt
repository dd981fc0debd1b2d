-- The words of a column, k apart.
--   column-rows  == the column of a number in rows that stand one after the other
--   column-turn, column-end == the highest value of the column, value by value; at its end
use mathlib.Core.Path.{◌≡◌, refl, ap, ap₂, ◌∙◌}
use mathlib.Core.List.{List, [], ◌∷◌, map}
use Prim.Native.Nat.{ℕ, zero, suc, ◌+◌, ◌-◌, ◌<◌, max}
use native.Mathlib.Omega.{arith}
use lib.ListN.{get_or, take, drop}
use lib.Seq.{get_or-take, get_or-drop}
use Rattle.questions.specs.Directories.{rows_of}
use Rattle.questions.proofs.Laws.{rows_of-none, rows_of-turn}
use Rattle.files.specs.Raising.{highest, column_words}
use Rattle.files.proofs.Highest.{highest-none, highest-more}

module _ (s : List ℕ) where
  column-none : (b k : ℕ) → column_words s b k 0 ≡ []
  unfolding column_words
  column-none b k = refl

  column-suc : (b k m : ℕ) → column_words s b k (suc m) ≡ get_or s b 0 ∷ column_words s (b + k) k m
  unfolding column_words
  column-suc b k m = refl

  column-more : (b k m : ℕ) → 0 < m → column_words s b k m ≡ get_or s b 0 ∷ column_words s (b + k) k (m - 1)
  column-more b k m h = let one : m ≡ suc (m - 1) = omega arith in ap (column_words s b k) one ∙ column-suc b k (m - 1)

  pub column-rows : (b k m j c : ℕ) → j < k → c ≡ b + j → column_words s c k m ≡ map (λ r. get_or r j 0) (rows_of s b k m)
  column-rows b k zero j c h e = rw (rows_of-none s b k) (column-none c k)
  column-rows b k (suc m) j c h e =
      let first : get_or s c 0 ≡ get_or (take k (drop b s)) j 0 = rw (get_or-take k (drop b s) j 0 h, get_or-drop b s j 0) (ap (λ (i : ℕ). get_or s i 0) e) in
      rw (rows_of-turn s b k m) (column-suc c k m ∙ ap₂ ◌∷◌ first (column-rows (b + k) k m j (c + k) h (omega arith)))

  -- at a place with `left` rows left, none of which ends beyond the words
  module _ (at k left : ℕ) (some : 0 < left) where
    pub column-turn : (h h' : ℕ) → h' ≡ max h (get_or s at 0) → max h' (highest (column_words s (at + k) k (left - 1))) ≡ max h (highest (column_words s at k left))
    column-turn h h' e = omega (arith, ap highest (column-more at k left some), highest-more (get_or s at 0) (column_words s (at + k) k (left - 1)))

  pub column-end : (at k left h : ℕ) → (0 < left → ⊥) → max h (highest (column_words s at k left)) ≡ h
  column-end at k left h none = let past : left ≡ 0 = omega arith in omega (arith, ap (λ (m : ℕ). highest (column_words s at k m)) past, ap highest (column-none at k), highest-none)
