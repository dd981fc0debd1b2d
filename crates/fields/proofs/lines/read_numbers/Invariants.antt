use Rattle.fields.specs.Fields.{is_number, field_number}
use Rattle.fields.proofs.ValueLines.{Valued}
use Rattle.fields.proofs.lines.read_numbers.Given as goal

abbrev pub invariant-loop-field : goal.invariant-loop-field
invariant-loop-field l = Valued (goal.iterator-loop-field).next_gives is_number field_number l.line l.field-iterator l.count l.right l.values
