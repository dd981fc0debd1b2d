use mathlib.Core.Path.{◌≡◌}
use Prim.Native.Nat.{◌+◌, ◌-◌, ◌*◌, max}
use Rattle.files.specs.Raising.{highest, column_words}
use Rattle.files.proofs.widths.highest_in.Given as goal

abbrev pub invariant-loop-i : goal.invariant-loop-i
invariant-loop-i l =
    max l.high (highest (column_words l.words (l.from + l.i * l.step) l.step (l.count - l.i))) ≡ max l.least (highest (column_words l.words l.from l.step l.count))
