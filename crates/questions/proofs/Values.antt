-- Values within widths.
--   point-low == they have at most as many bits as the widest width
use mathlib.Core.List.{List}
use Prim.Native.Nat.{ℕ, ◌^◌, ◌≤◌, ◌<◌}
use native.Mathlib.Nat.{pow-le-pow_right}
use native.Mathlib.Omega.{arith}
use Rattle.boxes.specs.Limits.{max_width}
use Rattle.boxes.specs.Fits.{Each, Point, none, more}
use Rattle.questions.specs.Good.{Width}

pub point-low : {ws p : List ℕ} → Each Width ws → Point ws p → Each (λ v. v < 2 ^ max_width) p
point-low none none = none
point-low (more {x = w} h r) (more {y = v} l s) =
    let most : 2 ^ w ≤ 2 ^ max_width = pow-le-pow_right {n = 2} (omega arith) h.1 in
    let low : v < 2 ^ max_width = omega arith in
    more low (point-low r s)
