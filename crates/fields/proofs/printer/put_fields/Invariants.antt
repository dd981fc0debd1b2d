use Prim.Native.Nat.{◌≤◌}
use lib.ListN.{length}
use Rattle.fields.specs.Puts.{Puts}
use Rattle.fields.proofs.WrittenLines.{swaps}
use Rattle.fields.proofs.printer.put_fields.Given as goal

abbrev pub invariant-loop-byte : goal.invariant-loop-byte
invariant-loop-byte l = (l.byte-index ≤ length l.line) × Puts (swaps l.between l.line l.byte-index) l.at l.initial.out l.out l.end
