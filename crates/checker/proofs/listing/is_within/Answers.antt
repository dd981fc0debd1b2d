-- `checker::listing::is_within` meets its contract: a value of 16 bits is within every width from 16 on, and else one
-- shift tells.
-- Assumes nothing.
use mathlib.Core.Path.{◌≡◌, sym}
use Prim.Native.Nat.{ℕ, ◌/◌, ◌^◌}
use native.Mathlib.Nat.{lt_of_lt_of_le, div-lt_iff_lt-mul}
use native.Mathlib.Omega.{arith}
use borrow.Author.Tests.{eqb-true, eq-eqb, ltb-true, lt-ltb}
use lib.Dec.{eqb, ltb}
use lib.Pow.{pow_mono, pow_pos}
use Rattle.boxes.proofs.Tests.{same_tests}
use Rattle.checker.proofs.listing.is_within.Goals as goal

shift-tells : (w v : ℕ) → eqb (v / 2 ^ w) 0 ≡ ltb v (2 ^ w)
shift-tells w v =
    same_tests (eqb (v / 2 ^ w) 0) (ltb v (2 ^ w))
    (λ t. lt-ltb v (2 ^ w) (omega (arith, (div-lt_iff_lt-mul {x = v} {y = 1} (pow_pos w)).0 (omega (arith, eqb-true (v / 2 ^ w) 0 t)))))
    (λ t. eq-eqb (v / 2 ^ w) 0 (omega (arith, (div-lt_iff_lt-mul {x = v} {y = 1} (pow_pos w)).1 (omega (arith, ltb-true v (2 ^ w) t)))))

pub returns-then-width-ge-MAX_WIDTH : goal.returns-then-width-ge-MAX_WIDTH
returns-then-width-ge-MAX_WIDTH c = sym (lt-ltb _ _ (lt_of_lt_of_le c.ranges.value.fits (pow_mono c.if-width-ge-MAX_WIDTH.true)))

pub returns : goal.returns
returns c = shift-tells c.args.width c.args.value
