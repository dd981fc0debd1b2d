use Prim.Native.Nat.{suc, ◌-◌}
use lib.ListN.{length}
use Rattle.text.proofs.AllLines.{Reaches}
use Rattle.text.proofs.reader.read_lines.Given as goal

abbrev pub invariant-loop-progress : goal.invariant-loop-progress
invariant-loop-progress l = Reaches l.text l.top l.initial.words l.words l.progress l.at

abbrev pub decreases-loop-progress : goal.decreases-loop-progress
decreases-loop-progress l = suc (length l.text) - l.at
