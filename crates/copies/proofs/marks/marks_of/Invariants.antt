use mathlib.Core.Path.{◌≡◌}
use Prim.Native.Nat.{◌≤◌}
use lib.ListN.{length, take}
use Rattle.copies.specs.Puts.{marks_of}
use Rattle.copies.proofs.marks.marks_of.Given as goal

abbrev pub invariant-loop-number : goal.invariant-loop-number
invariant-loop-number l = (l.number-index ≤ length l.hidden) × (l.marks ≡ marks_of (take l.number-index l.hidden))
