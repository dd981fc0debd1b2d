use Rattle.questions.specs.Narrow.{Narrow}
use Rattle.questions.proofs.ListReading.{widths_reader, ReadSoFar}
use Rattle.questions.proofs.reader.read_widths.Given as goal

abbrev pub invariant-loop-i : goal.invariant-loop-i
invariant-loop-i l = ReadSoFar (widths_reader l.n) l.question l.from l.i l.values × Narrow l.values
