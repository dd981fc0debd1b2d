use Rattle.fields.proofs.Numbers.{NumberSoFar}
use Rattle.fields.proofs.field.number_in.Given as goal

abbrev pub invariant-loop-byte : goal.invariant-loop-byte
invariant-loop-byte l = NumberSoFar l.field l.byte-index l.value
