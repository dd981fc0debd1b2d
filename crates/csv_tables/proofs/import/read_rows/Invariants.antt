use Prim.Native.Nat.{◌-◌}
use lib.ListN.{length}
use Rattle.csv_tables.specs.Importing.{RowsAsk}
use Rattle.csv_tables.proofs.BodyRows.{BodyOpen}
use Rattle.csv_tables.proofs.import.read_rows.Given as goal

abbrev pub invariant-loop-at : goal.invariant-loop-at
invariant-loop-at l =
    (a : RowsAsk l.file l.from l.columns l.initial.rows l.initial.order) → BodyOpen a.names l.columns l.file l.from l.at l.rows l.order l.kept l.place

abbrev pub decreases-loop-at : goal.decreases-loop-at
decreases-loop-at l = length l.file - l.at
