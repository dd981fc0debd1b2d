-- Widths in an array.
--   narrow-none, narrow-set == no width is above the widest in an array of zeros, and after one more that is not
use mathlib.Core.List.{List, [], ◌∷◌}
use Prim.Native.Nat.{ℕ, zero, suc, ◌≤◌}
use native.Mathlib.Omega.{arith}
use lib.ListN.{set, replicate}
use Rattle.boxes.specs.Limits.{max_attributes, max_width}
use Rattle.questions.specs.Narrow.{Narrow}

replicate-narrow : (m : ℕ) → Narrow (replicate m 0)
replicate-narrow zero i = omega arith
replicate-narrow (suc m) zero = omega arith
replicate-narrow (suc m) (suc i) = replicate-narrow m i

pub narrow-none : Narrow (replicate max_attributes 0)
narrow-none = replicate-narrow max_attributes

pub narrow-set : (ws : List ℕ) {w : ℕ} (i : ℕ) → Narrow ws → w ≤ max_width → Narrow (set ws i w)
narrow-set [] i n h j = n j
narrow-set (x ∷ ws) zero n h zero = h
narrow-set (x ∷ ws) zero n h (suc j) = n (suc j)
narrow-set (x ∷ ws) (suc i) n h zero = n 0
narrow-set (x ∷ ws) (suc i) n h (suc j) = narrow-set ws i (λ k. n (suc k)) h j
