use Prim.Native.Nat.{◌-◌}
use lib.ListN.{length}
use Rattle.csv_tables.specs.Keeping.{rows_in}
use Rattle.csv_tables.proofs.Placing.{Between}
use Rattle.csv_tables.proofs.rows.find_place.Given as goal

abbrev pub invariant-loop-low : goal.invariant-loop-low
invariant-loop-low l = Between (rows_in (length l.row) l.rows l.order) l.row l.low l.high

abbrev pub decreases-loop-low : goal.decreases-loop-low
decreases-loop-low l = l.high - l.low
