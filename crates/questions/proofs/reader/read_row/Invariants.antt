use lib.ListN.{length}
use Rattle.questions.proofs.RowReading.{ValuesSoFar}
use Rattle.questions.proofs.reader.read_row.Given as goal

abbrev pub invariant-loop-i : goal.invariant-loop-i
invariant-loop-i l = ValuesSoFar l.question l.widths.values l.schema (length l.schema) l.from l.row l.i
