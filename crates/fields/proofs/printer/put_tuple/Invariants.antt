use Prim.Native.Nat.{◌≤◌}
use lib.ListN.{length}
use Rattle.fields.specs.Puts.{Puts}
use Rattle.fields.proofs.WrittenLines.{values_by}
use Rattle.fields.proofs.printer.put_tuple.Given as goal

abbrev pub invariant-loop-i : goal.invariant-loop-i
invariant-loop-i l = (l.i ≤ length l.tuple) × Puts (values_by l.between l.tuple l.i) l.at l.initial.out l.out l.end
