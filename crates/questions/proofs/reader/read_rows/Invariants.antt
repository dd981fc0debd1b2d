use lib.ListN.{length}
use Rattle.questions.proofs.RowsReading.{RowsSoFar}
use Rattle.questions.proofs.reader.read_rows.Given as goal

abbrev pub invariant-loop : goal.invariant-loop
invariant-loop l = RowsSoFar l.question l.widths.values l.schema (length l.schema) l.from l.rows l.at l.counter l.above
