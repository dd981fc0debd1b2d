use Rattle.questions.proofs.TablesReading.{TablesSoFar}
use Rattle.questions.proofs.reader.read_tables.Given as goal

abbrev pub invariant-loop-i : goal.invariant-loop-i
invariant-loop-i l = TablesSoFar l.question l.widths.values l.from l.n l.tables l.at l.i l.entries
