-- An array that is filled from its front.
--   filled_none, filled-set, filled-take == no place is filled; one more is, and what is filled then
--   filled-end                    == the array is what is filled, and the rest as before
--   get_d_beyond                   == what is beyond a list's end is 0, also where zeros are put there
use mathlib.Core.Path.{◌≡◌, refl, sym, ◌∙◌}
use mathlib.Core.List.{List, [], ◌∷◌, ◌++◌}
use Prim.Native.Nat.{ℕ, zero, suc, ◌+◌, ◌-◌, ◌<◌}
use native.Mathlib.Numerals.{add-one}
use native.Mathlib.Omega.{arith}
use lib.ListN.{get_or, take, drop, set, replicate, length-set, length-replicate, take-append-drop}
use lib.Seq.{drop-cons, drop-set-lt, take-suc-set}
use Rattle.questions.specs.Directories.{Filled}

tail_of : {A : Type 0} {x y : A} {xs ys : List A} → x ∷ xs ≡ y ∷ ys → xs ≡ ys
tail_of e = cc

module _ {A : Type 0} {n : ℕ} {d : A} where
  pub filled_none : Filled n d (replicate n d) 0
  filled_none = let e : n - 0 ≡ n = omega arith in record { long = length-replicate n d; most = omega arith; beyond = rw e }

  module _ {xs : List A} {i : ℕ} (f : Filled n d xs i) where
    pub filled-set : (v : A) → i < n → Filled n d (set xs i v) (i + 1)
    filled-set v h =
        let e : n - i ≡ suc (n - (i + 1)) = omega arith in
        let b : get_or xs i d ∷ drop (suc i) xs ≡ replicate (suc (n - (i + 1))) d = sym (drop-cons xs i d (omega (arith, f.long))) ∙ rw e at f.beyond in
        record {
          long = length-set xs i v ∙ f.long;
          most = omega arith;
          beyond = rw (add-one, drop-set-lt (suc i) xs i v (omega arith)) (rw add-one at (tail_of b));
        }

    pub filled-take : (v : A) → i < n → take (i + 1) (set xs i v) ≡ take i xs ++ (v ∷ [])
    filled-take v h = rw add-one (take-suc-set xs i v (omega (arith, f.long)))

    pub filled-end : xs ≡ take i xs ++ replicate (n - i) d
    filled-end = sym (take-append-drop i xs) ∙ rw f.beyond

pub get_d_beyond : (xs : List ℕ) (m i : ℕ) → get_or (xs ++ replicate m 0) i 0 ≡ get_or xs i 0
get_d_beyond (x ∷ xs) m zero = refl
get_d_beyond (x ∷ xs) m (suc i) = get_d_beyond xs m i
get_d_beyond [] zero i = refl
get_d_beyond [] (suc m) zero = refl
get_d_beyond [] (suc m) (suc i) = get_d_beyond [] m i
