-- Names: 1 to 12 small letters.
--   is_name-none, is_name-long == no letter, too many
--   is_name-by               == neither none nor too many: whether all are letters
--   name-letters                         == a name has small letters only
use mathlib.Core.Path.{◌≡◌}
use mathlib.Core.Bool.{true, false, ◌&&◌, and-false}
use mathlib.Core.List.{List}
use Prim.Native.Nat.{ℕ, ◌≤◌, ◌<◌}
use borrow.Author.Tests.{le-leb, lt-leb}
use lib.Dec.{leb}
use lib.ListN.{length}
use Rattle.boxes.proofs.Tests.{and_right}
use Rattle.fields.specs.Limits.{max_name}
use Rattle.fields.specs.Fields.{every, is_letter, is_name}

module _ (f : List ℕ) where
  pub is_name-none : length f < 1 → is_name f ≡ false
  unfolding is_name
  is_name-none h = rw (lt-leb 1 (length f) h)

  pub is_name-long : max_name < length f → is_name f ≡ false
  unfolding is_name
  is_name-long h = rw (lt-leb (length f) max_name h) (and-false (leb 1 (length f)))

  pub is_name-by : 1 ≤ length f → length f ≤ max_name → is_name f ≡ every is_letter f
  unfolding is_name
  is_name-by h k = rw (le-leb 1 (length f) h, le-leb (length f) max_name k)

  pub name-letters : is_name f ≡ true → every is_letter f ≡ true
  unfolding is_name
  name-letters e = and_right (leb (length f) max_name) (every is_letter f) (and_right (leb 1 (length f)) (leb (length f) max_name && every is_letter f) e)
