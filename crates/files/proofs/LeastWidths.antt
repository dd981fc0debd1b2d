-- The least width that holds some values.
--   holds_all-each, each-holds_all == a width that holds all values, as a fact at each of them, and the other way round
--   least-here, least_on, least-none == the first width tried holds them; it does not; no further one is tried
--   least-width == the least width is from 1 to the widest
--   least-holds == it holds the values
--   least-least == no width from 1 on that is below it does
use mathlib.Core.Path.{◌≡◌, refl}
use mathlib.Core.Bool.{true, false}
use mathlib.Core.List.{List}
use Prim.Native.Nat.{ℕ, zero, suc, ◌+◌, ◌-◌, ◌^◌, ◌≤◌, ◌<◌}
use native.Mathlib.Omega.{arith}
use borrow.Author.Tests.{ltb-true, lt-ltb, eqb-true, eqb-false}
use lib.Dec.{eqb, ltb}
use Rattle.boxes.specs.Limits.{max_width}
use Rattle.boxes.specs.Fits.{Each}
use Rattle.boxes.proofs.Tests.{by, clash}
use Rattle.boxes.proofs.Lists.{each-imp}
use Rattle.questions.specs.Good.{Width}
use Rattle.fields.specs.Limits.{max_value}
use Rattle.fields.proofs.Laws.{every-each, each-every}
use Rattle.files.specs.Widths.{holds_all, least_from, least_width}

module _ (w : ℕ) (vs : List ℕ) where
  pub holds_all-each : holds_all w vs ≡ true → Each (λ v. v < 2 ^ w) vs
  holds_all-each e = each-imp (λ v t. ltb-true v (2 ^ w) t) (every-each (λ v. ltb v (2 ^ w)) vs e)

  pub each-holds_all : Each (λ v. v < 2 ^ w) vs → holds_all w vs ≡ true
  each-holds_all r = each-every (λ v. ltb v (2 ^ w)) (each-imp (λ v h. lt-ltb v (2 ^ w) h) r)

  pub least-none : least_from 0 w vs ≡ w
  unfolding least_from
  least-none = refl

  pub least-here : (f : ℕ) → holds_all w vs ≡ true → least_from f w vs ≡ w
  unfolding least_from
  least-here zero e = refl
  least-here (suc f) e = rw e

  pub least_on : (f : ℕ) → holds_all w vs ≡ false → least_from (suc f) w vs ≡ least_from f (suc w) vs
  unfolding least_from
  least_on f e = rw e

-- the least from w on, tried up to f further ones: none below the first and none above the last of them; if the last holds the values, it does; and it is the least that does
module _ (vs : List ℕ) where
  least_from-low : (f w : ℕ) → w ≤ least_from f w vs
  least_from-low zero w = omega (arith, least-none w vs)
  least_from-low (suc f) w =
      by (holds_all w vs)
      (λ t. omega (arith, least-here w vs (suc f) t))
      (λ e. omega (arith, least_on w vs f e, least_from-low f (suc w)))

  least_from-high : (f w : ℕ) → least_from f w vs ≤ w + f
  least_from-high zero w = omega (arith, least-none w vs)
  least_from-high (suc f) w =
      by (holds_all w vs)
      (λ t. omega (arith, least-here w vs (suc f) t))
      (λ e. omega (arith, least_on w vs f e, least_from-high f (suc w)))

  least_from-holds : (f w u : ℕ) → w + f ≡ u → Each (λ v. v < 2 ^ u) vs → Each (λ v. v < 2 ^ least_from f w vs) vs
  least_from-holds zero w u e r = let same : w ≡ u = omega arith in rw (least-none w vs, same) r
  least_from-holds (suc f) w u e r =
      by (holds_all w vs)
      (λ t. rw (least-here w vs (suc f) t) (holds_all-each w vs t))
      (λ n. rw (least_on w vs f n) (least_from-holds f (suc w) u (omega arith) r))

  least_from-least : (f w u : ℕ) → w ≤ u → Each (λ v. v < 2 ^ u) vs → least_from f w vs ≤ u
  least_from-least zero w u h r = omega (arith, least-none w vs)
  least_from-least (suc f) w u h r =
      by (holds_all w vs)
      (λ t. omega (arith, least-here w vs (suc f) t))
      (λ n.
      by (eqb w u)
      (λ t. clash (rw (eqb-true w u t) (each-holds_all u vs r)) n)
      (λ e.
      let beyond : suc w ≤ u = omega (arith, eqb-false w u e) in
      omega (arith, least_on w vs f n, least_from-least f (suc w) u beyond r)))

  -- the least from 1 on
  pub least-width : Width (least_width vs)
  least-width = (least_from-low (max_width - 1) 1, least_from-high (max_width - 1) 1)

  pub least-holds : Each (λ v. v ≤ max_value) vs → Each (λ v. v < 2 ^ least_width vs) vs
  least-holds r = least_from-holds (max_width - 1) 1 max_width (omega arith) (each-imp (λ v h. omega arith) r)

  pub least-least : (w : ℕ) → 1 ≤ w → Each (λ v. v < 2 ^ w) vs → least_width vs ≤ w
  least-least w h r = least_from-least (max_width - 1) 1 w h r
