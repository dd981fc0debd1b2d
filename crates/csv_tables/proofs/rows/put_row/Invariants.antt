use mathlib.Core.Path.{◌≡◌}
use lib.ListN.{take}
use Rattle.csv_tables.specs.Columns.{sourced}
use Rattle.csv_tables.proofs.rows.put_row.Given as goal

abbrev pub invariant-loop-i : goal.invariant-loop-i
invariant-loop-i l = take l.i l.row ≡ sourced (take l.i l.columns) l.values
