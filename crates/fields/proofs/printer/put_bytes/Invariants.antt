use Prim.Native.Nat.{◌≤◌}
use lib.ListN.{length, take}
use Rattle.fields.specs.Puts.{Puts}
use Rattle.fields.proofs.printer.put_bytes.Given as goal

abbrev pub invariant-loop-byte : goal.invariant-loop-byte
invariant-loop-byte l = (l.byte-index ≤ length l.bytes) × Puts (take l.byte-index l.bytes) l.at l.initial.out l.out l.end
