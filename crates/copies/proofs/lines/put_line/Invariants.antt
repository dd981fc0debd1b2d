use Prim.Native.Nat.{◌≤◌}
use Rattle.copies.specs.Puts.{marked_fields}
use Rattle.copies.proofs.LinePuts.{LinePut}
use Rattle.copies.proofs.lines.put_line.Given as goal

abbrev pub invariant-loop-i : goal.invariant-loop-i
invariant-loop-i l = (l.i ≤ l.last) × LinePut (marked_fields l.marks l.tuple) l.at l.initial.out l.out l.end l.i
