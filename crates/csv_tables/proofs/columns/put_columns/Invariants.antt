use Rattle.csv_tables.proofs.HeaderPlaces.{Gathered}
use Rattle.csv_tables.proofs.columns.put_columns.Given as goal

abbrev pub invariant-loop-attribute : goal.invariant-loop-attribute
invariant-loop-attribute l = Gathered l.dimension l.attribute l.header l.count l.columns
