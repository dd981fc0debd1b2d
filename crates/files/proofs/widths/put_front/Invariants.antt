use mathlib.Core.Path.{◌≡◌}
use lib.Seq.{paste}
use Rattle.files.specs.Raising.{widths_of}
use Rattle.files.proofs.widths.put_front.Given as goal

abbrev pub invariant-loop-j : goal.invariant-loop-j
invariant-loop-j l = l.words ≡ paste l.initial.words 1 (widths_of l.highest) l.j
