use mathlib.Core.Path.{◌≡◌}
use lib.ListN.{take}
use Rattle.questions.specs.Questions.{above_last}
use Rattle.questions.proofs.ListReading.{attributes_reader, ReadSoFar}
use Rattle.questions.proofs.reader.read_attributes.Given as goal

abbrev pub invariant-loop-i : goal.invariant-loop-i
invariant-loop-i l = ReadSoFar (attributes_reader l.n l.arity) l.question l.from l.i l.schema × (l.next ≡ above_last (take l.i l.schema))
