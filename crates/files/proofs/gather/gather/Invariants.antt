use Rattle.files.proofs.Gathering.{SoFar}
use Rattle.files.proofs.gather.gather.Given as goal

abbrev pub invariant-loop-i : goal.invariant-loop-i
invariant-loop-i l = SoFar l.names l.files l.dimension l.ends l.words l.size l.from l.i
