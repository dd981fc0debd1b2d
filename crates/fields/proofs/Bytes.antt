-- How many bytes lines and fields take, each with the separator or the end behind it.
--   bytes_in ps    == the bytes of parts, and one more for each; bytes_in-more: one part and then others
--   split-bytes   == the parts of a text take its bytes, and one more
--   name-some, number-some == a name and a number have at least one byte
--   fields-few    == so two bytes for each field of a line of them
--   HalfFields l  == a line has at most half as many fields as bytes with its end
--   names-half, numbers-half == lines of names and lines of numbers
use mathlib.Core.Path.{◌≡◌, refl}
use mathlib.Core.Bool.{true}
use mathlib.Core.List.{List, [], ◌∷◌, ◌++◌}
use Prim.Native.Nat.{ℕ, suc, ◌+◌, ◌*◌, ◌≤◌}
use native.Mathlib.Omega.{arith}
use borrow.Author.Tests.{leb-true}
use lib.Dec.{eqb, leb}
use lib.ListN.{length}
use Rattle.boxes.specs.Fits.{Each, none, more}
use Rattle.boxes.proofs.Tests.{by, and_left}
use Rattle.boxes.proofs.Lists.{length-end, each-imp}
use Rattle.fields.specs.Fields.{space, every, split_from, split, fields_of, is_name, is_number}
use Rattle.boxes.proofs.Every.{every-each}

unfoldable pub bytes_in : List (List ℕ) → ℕ
bytes_in [] = 0
bytes_in (p ∷ ps) = suc (length p) + bytes_in ps

pub bytes_in-more : (p : List ℕ) (ps : List (List ℕ)) → bytes_in (p ∷ ps) ≡ suc (length p) + bytes_in ps
unfolding bytes_in
bytes_in-more p ps = refl

module _ (c : ℕ) where
  split_from-bytes : (f s : List ℕ) → bytes_in (split_from c f s) ≡ length f + suc (length s)
  unfolding split_from bytes_in
  split_from-bytes f [] = omega arith
  split_from-bytes f (b ∷ s) =
      by (eqb b c)
      (λ t. rw t (omega (arith, split_from-bytes [] s)))
      (λ e. rw e (omega (arith, split_from-bytes (f ++ (b ∷ [])) s, length-end f b)))

  pub split-bytes : (s : List ℕ) → bytes_in (split c s) ≡ suc (length s)
  split-bytes s = omega (arith, split_from-bytes [] s)

-- ---- fields

name-some : (f : List ℕ) → is_name f ≡ true → 1 ≤ length f
unfolding is_name
name-some f e = leb-true 1 (length f) (and_left (leb 1 (length f)) _ e)

number-some : (f : List ℕ) → is_number f ≡ true → 1 ≤ length f
unfolding is_number
number-some f e = leb-true 1 (length f) (and_left (leb 1 (length f)) _ e)

fields-few : {fs : List (List ℕ)} → Each (λ f. 1 ≤ length f) fs → 2 * length fs ≤ bytes_in fs
unfolding bytes_in
fields-few none = omega arith
fields-few (more h r) = omega (arith, h, fields-few r)

abbrev pub HalfFields : List ℕ → Type 0
HalfFields l = 2 * length (fields_of l) ≤ suc (length l)

module _ (l : List ℕ) where
  pub names-half : every is_name (fields_of l) ≡ true → HalfFields l
  names-half e = omega (arith, split-bytes space l, fields-few (each-imp name-some (every-each is_name (fields_of l) e)))

  pub numbers-half : every is_number (fields_of l) ≡ true → HalfFields l
  numbers-half e = omega (arith, split-bytes space l, fields-few (each-imp number-some (every-each is_number (fields_of l) e)))
