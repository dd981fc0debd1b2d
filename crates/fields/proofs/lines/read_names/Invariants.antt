use Rattle.fields.proofs.NameLines.{Named}
use Rattle.fields.proofs.lines.read_names.Given as goal

abbrev pub invariant-loop-field : goal.invariant-loop-field
invariant-loop-field l = Named (goal.iterator-loop-field).next_gives l.line l.field-iterator l.count l.named l.distinct
