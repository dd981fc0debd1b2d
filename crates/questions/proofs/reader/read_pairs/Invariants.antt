use Rattle.questions.proofs.PairReading.{PairsSoFar}
use Rattle.questions.proofs.reader.read_pairs.Given as goal

abbrev pub invariant-loop : goal.invariant-loop
invariant-loop l = PairsSoFar l.question l.from l.pairs l.width l.least l.at l.counter
