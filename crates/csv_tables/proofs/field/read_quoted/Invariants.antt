use Prim.Native.Nat.{◌-◌}
use lib.ListN.{length}
use Rattle.csv_tables.proofs.FieldEnds.{QuotedOpen}
use Rattle.csv_tables.proofs.field.read_quoted.Given as goal

abbrev pub invariant-loop-at : goal.invariant-loop-at
invariant-loop-at l = QuotedOpen l.file l.from l.at l.doubled

abbrev pub decreases-loop-at : goal.decreases-loop-at
decreases-loop-at l = length l.file - l.at
