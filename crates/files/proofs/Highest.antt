-- The highest of some values, and the least width that holds one value.
--   highest-none, highest-more, highest-append, highest-flat == of no value, of one and more, of two lists one after the other, of many
--   highest-least == the least width that holds some values is that of the highest
--   width-on, width-here == the definition tries one width after the other: the width that is tried does not hold the value, or does
--   power-low, climbs == of a value from 2 ^ j on below 2 ^ suc j, only suc j does
--   width-is       == the width by the value's leading zeros
use mathlib.Core.Path.{◌≡◌, refl, sym, ap, ◌∙◌}
use mathlib.Core.Bool.{true}
use mathlib.Core.List.{List, [], ◌∷◌, ◌++◌}
use Prim.Native.Nat.{ℕ, zero, suc, ◌+◌, ◌-◌, ◌^◌, ◌≤◌, ◌<◌, max}
use native.Mathlib.Numerals.{add-one}
use native.Mathlib.Omega.{arith}
use borrow.Author.Tests.{eqb-true, eqb-false}
use lib.Dec.{eqb}
use Rattle.std.specs.Int.Count.{count_leading_zeros, leading_of_zero}
use Rattle.std.proofs.lemmas.Nat.{leading_top}
use lib.Pow.{pow_pos, pow-lt}
use Rattle.boxes.specs.Limits.{max_width}
use Rattle.boxes.specs.Fits.{Each, none, more}
use Rattle.boxes.proofs.Tests.{by, same_tests}
use Rattle.boxes.proofs.Lists.{each_at}
use Rattle.questions.specs.Words.{flat}
use Rattle.questions.proofs.Laws.{flat-more}
use Rattle.files.specs.Widths.{holds_all, least_from, least_width}
use Rattle.files.specs.Raising.{highest}
use Rattle.files.proofs.LeastWidths.{holds_all-each, each-holds_all, least-none, least-here, least_on}

pub highest-none : highest [] ≡ 0
unfolding highest
highest-none = refl

pub highest-more : (v : ℕ) (vs : List ℕ) → highest (v ∷ vs) ≡ max v (highest vs)
unfolding highest
highest-more v vs = refl

pub highest-append : (xs ys : List ℕ) → highest (xs ++ ys) ≡ max (highest xs) (highest ys)
highest-append [] ys = omega (arith, highest-none)
highest-append (x ∷ xs) ys = omega (arith, highest-more x (xs ++ ys), highest-more x xs, highest-append xs ys)

pub highest-flat : (p : List ℕ) (ps : List (List ℕ)) → highest (flat (p ∷ ps)) ≡ max (highest p) (highest (flat ps))
highest-flat p ps = ap highest (flat-more p ps) ∙ highest-append p (flat ps)

module _ {b : ℕ} where
  highest-below : {vs : List ℕ} → 0 < b → Each (λ v. v < b) vs → highest vs < b
  highest-below h none = omega (arith, highest-none)
  highest-below h (more {x = v} {xs = vs} k r) = omega (arith, highest-more v vs, highest-below h r)

  below-highest : (vs : List ℕ) → highest vs < b → Each (λ v. v < b) vs
  below-highest [] h = none
  below-highest (v ∷ vs) h = more {x = v} {xs = vs} (omega (arith, highest-more v vs)) (below-highest vs (omega (arith, highest-more v vs)))

one_each : (w v : ℕ) → v < 2 ^ w → holds_all w (v ∷ []) ≡ true
one_each w v h = each-holds_all w (v ∷ []) (more h none)

each-one : (w v : ℕ) → holds_all w (v ∷ []) ≡ true → v < 2 ^ w
each-one w v e = each_at (holds_all-each w (v ∷ []) e) 0 0 (omega arith)

module _ (vs : List ℕ) where
  highest-holds : (w : ℕ) → holds_all w (highest vs ∷ []) ≡ holds_all w vs
  highest-holds w =
      same_tests (holds_all w (highest vs ∷ [])) (holds_all w vs)
      (λ t. each-holds_all w vs (below-highest vs (each-one w (highest vs) t)))
      (λ t. one_each w (highest vs) (highest-below (pow_pos w) (holds_all-each w vs t)))

  least_from-highest : (f w : ℕ) → least_from f w (highest vs ∷ []) ≡ least_from f w vs
  least_from-highest zero w = least-none w (highest vs ∷ []) ∙ sym (least-none w vs)
  least_from-highest (suc f) w =
      by (holds_all w vs)
      (λ t. least-here w (highest vs ∷ []) (suc f) (highest-holds w ∙ t) ∙ sym (least-here w vs (suc f) t))
      (λ e. least_on w (highest vs ∷ []) f (highest-holds w ∙ e) ∙ least_from-highest f (suc w) ∙ sym (least_on w vs f e))

  pub highest-least : least_width (highest vs ∷ []) ≡ least_width vs
  highest-least = least_from-highest (max_width - 1) 1

module _ (w v : ℕ) where
  pub width-on : w < max_width → 2 ^ w ≤ v → least_from (max_width - (w + 1)) (w + 1) (v ∷ []) ≡ least_from (max_width - w) w (v ∷ [])
  width-on h k =
      let left : max_width - w ≡ suc (max_width - (w + 1)) = omega arith in
      rw (left, add-one w)
      (by (holds_all w (v ∷ [])) (λ t. absurd (omega (arith, each-one w v t))) (λ e. sym (least_on w (v ∷ []) (max_width - suc w) e)))

  pub width-here : v < 2 ^ w → least_from (max_width - w) w (v ∷ []) ≡ w
  width-here h = least-here w (v ∷ []) (max_width - w) (one_each w v h)

module _ (v j : ℕ) (low : 2 ^ j ≤ v) (high : v < 2 ^ suc j) (most : suc j ≤ max_width) where
  power-low : (w : ℕ) → w ≤ j → 2 ^ w ≤ v
  power-low w h = by (eqb w j) (λ t. let same : w ≡ j = eqb-true w j t in rw same low) (λ f. omega (arith, low, pow-lt {i = w} {j = j} (let no = eqb-false w j f in omega arith)))

  climbs : (d w : ℕ) → w + d ≡ suc j → least_from (max_width - w) w (v ∷ []) ≡ suc j
  climbs zero w e = let here : w ≡ suc j = omega arith in width-here w v (rw here high) ∙ here
  climbs (suc d) w e = sym (width-on w v (omega arith) (power-low w (omega arith))) ∙ climbs d (w + 1) (omega arith)

-- the width by the leading zeros
pub width-is : (v : ℕ) → v < 65536 → least_width (v ∷ []) ≡ max (16 - count_leading_zeros 16 v) 1
width-is zero h = width-here 1 0 (omega arith) ∙ omega (arith, leading_of_zero 16)
width-is (suc v) h = let top = leading_top 16 (suc v) (omega arith) (omega arith) in climbs (suc v) top.0 top.2 top.3 (omega (arith, top.1)) top.0 1 (omega arith) ∙ omega (arith, top.1)
