-- Attribute numbers, one above the other, and the checks of one.
--   above_last-end, above_last-read        == the least number above the last, after one more; the same of an array
--   number-high, number-low, number-good == what the check answers
use mathlib.Core.Path.{◌≡◌, refl}
use mathlib.Core.List.{List, [], ◌∷◌, ◌++◌}
use Prim.Native.Nat.{ℕ, suc, ◌+◌, ◌≤◌, ◌<◌}
use native.Mathlib.Numerals.{add-one}
use borrow.Author.Tests.{le-leb, lt-leb, lt-ltb, le-ltb}
use lib.Dec.{leb}
use lib.ListN.{take, set}
use Rattle.boxes.specs.Limits.{max_attributes}
use Rattle.boxes.proofs.Tests.{or_right}
use Rattle.questions.specs.Questions.{above_last, attribute_check}
use Rattle.questions.specs.Directories.{Filled}
use Rattle.questions.proofs.Arrays.{filled-take}

pub above_last-end : (xs : List ℕ) (a : ℕ) → above_last (xs ++ (a ∷ [])) ≡ suc a
unfolding above_last
above_last-end [] a = refl
above_last-end (x ∷ []) a = refl
above_last-end (x ∷ (y ∷ ys)) a = above_last-end (y ∷ ys) a

pub above_last-read : {xs : List ℕ} {i : ℕ} (a : ℕ) → Filled max_attributes 0 xs i → i < max_attributes → a + 1 ≡ above_last (take (i + 1) (set xs i a))
above_last-read {xs} {i} a f h = rw (filled-take f a h, above_last-end (take i xs) a) (add-one a)

module _ (n : ℕ) (xs : List ℕ) (a : ℕ) where
  pub number-high : n ≤ a → attribute_check n xs a ≡ 7
  number-high h = rw (le-leb n a h)

  pub number-low : a < above_last xs → attribute_check n xs a ≡ 7
  number-low h = rw (or_right (leb n a) (lt-ltb a (above_last xs) h))

  pub number-good : a < n → above_last xs ≤ a → attribute_check n xs a ≡ 0
  number-good h k = rw (lt-leb n a h, le-ltb a (above_last xs) k)
