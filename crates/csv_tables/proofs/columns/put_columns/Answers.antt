-- `csv_tables::columns::put_columns` meets its contract. The loop's invariant: `columns` begins with those of the attributes before `attribute`.
-- Assumes nothing.
use mathlib.Core.Path.{sym, ap, ◌∙◌}
use native.Mathlib.Omega.{arith}
use lib.ListN.{length}
use lib.Seq.{length-take-le}
use Rattle.csv_tables.proofs.HeaderPlaces.{gathered-start, gathered-here, gathered-past, gathered-end}
use Rattle.csv_tables.proofs.columns.put_columns.Goals as goal
use Rattle.csv_tables.proofs.columns.put_columns.Goals.{in-Some, in_default}

pub loop-attribute-init : goal.loop-attribute-init
loop-attribute-init c = gathered-start c.args.dimension c.args.header.now c.args.columns.now (omega (arith, c.told-columns, c.requires.few_attributes))

pub loop-attribute-preserved : goal.loop-attribute-preserved
loop-attribute-preserved c =
    elim c.match-column_of.branch [
      | in-Some w ↦ rw (w.columns-is, w.count-is) (gathered-here c.loop-attribute.invariant (omega arith) w.in-Some.ensures)
      | in_default w ↦ rw (w.columns-is, w.count-is) (gathered-past c.loop-attribute.invariant (omega arith) w.in_default.ensures)
    ]

pub returns-clause-count : goal.returns-clause-count
returns-clause-count c =
    let l = c.loop-attribute in
    sym (ap length (gathered-end l.invariant (omega arith)) ∙ length-take-le l.count l.columns (omega (arith, l.invariant.few, l.invariant.room, l.invariant.within)))

pub returns-clause-columns : goal.returns-clause-columns
returns-clause-columns c = sym (gathered-end c.loop-attribute.invariant (omega arith))
