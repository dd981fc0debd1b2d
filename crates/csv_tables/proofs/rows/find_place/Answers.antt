-- `csv_tables::rows::find_place` meets its contract. The loop's invariant: the rows below low are before the row, and those from high on after it.
-- Assumes nothing.
use mathlib.Core.Path.{◌≡◌, refl, sym, ap, ◌∙◌}
use mathlib.Core.List.{[]}
use Prim.Native.Nat.{ℕ, suc, ◌+◌, ◌-◌, ◌*◌, ◌/◌, ◌≤◌, ◌<◌}
use native.Mathlib.Nat.{suc-mul}
use native.Mathlib.Numerals.{add-one}
use native.Mathlib.Omega.{arith}
use lib.ListN.{length, get_or, length-map}
use Rattle.std.specs.declared.cmp.Ordering.{Ordering}
use Rattle.boxes.proofs.Lists.{each_at}
use Rattle.csv_tables.specs.Keeping.{row_at, rows_in}
use Rattle.csv_tables.proofs.KeptRows.{row-part, row-long, compared}
use Rattle.csv_tables.proofs.Placing.{OrderSays, between_start, between-before, between-after, between-end, between-there}
use Rattle.csv_tables.proofs.rows.find_place.Goals as goal
use Rattle.csv_tables.proofs.rows.find_place.Goals.{In-loop-low, After-compare-order}

-- the middle, the number there, and that its row ends among the words
abbrev middle : In-loop-low → ℕ
middle c = c.loop-low.low + (c.loop-low.high - c.loop-low.low) / 2

within : (c : In-loop-low) → middle c < length c.args.order.now
within c = omega (arith, c.loop-low.invariant.most, length-map c.args.order.now (row_at c.args.rows.now (length c.args.row.now)))

ends : (c : In-loop-low) → suc (get_or c.args.order.now (middle c) 0) * length c.args.row.now ≤ length c.args.rows.now
ends c = each_at c.requires.each (middle c) 0 (within c)

-- what the comparison says of the two rows
told : (c : After-compare-order) {o : Ordering} → c.compare-order.result ≡ o → OrderSays (get_or (rows_in (length c.args.row.now) c.args.rows.now c.args.order.now) (c.loop-low.low + (c.loop-low.high - c.loop-low.low) / 2) []) c.args.row.now o
told c e =
    let m = c.loop-low.low + (c.loop-low.high - c.loop-low.low) / 2 in
    let within : m < length c.args.order.now = omega (arith, c.loop-low.invariant.most, length-map c.args.order.now (row_at c.args.rows.now (length c.args.row.now))) in
    compared (length c.args.row.now) c.args.rows.now c.args.order.now c.args.row.now m within (each_at c.requires.each m 0 within) refl (sym e ∙ c.compare-order.ensures)

pub loop-low-init : goal.loop-low-init
loop-low-init c = between_start _ _ _ (length-map c.args.order.now (row_at c.args.rows.now (length c.args.row.now)))

pub bounds-order-middle : goal.bounds-order-middle
bounds-order-middle c = within (goal.at.bounds-order-middle c).In-loop-low

pub slice_bounds-compare-end : goal.slice_bounds-compare-end
slice_bounds-compare-end c = omega (arith, ends (goal.at.slice_bounds-compare-end c).In-loop-low, suc-mul (get_or c.args.order.now (middle (goal.at.slice_bounds-compare-end c).In-loop-low) 0) (length c.args.row.now))

pub compare-order-requires : goal.compare-order-requires
compare-order-requires c =
    let k = length c.args.row.now in
    let i = get_or c.args.order.now (middle (goal.at.compare-order-requires c).In-loop-low) 0 in
    ap length (row-part k c.args.rows.now i) ∙ row-long k c.args.rows.now i (omega (arith, ends (goal.at.compare-order-requires c).In-loop-low, suc-mul i k))

pub loop-low-preserved-in-Less : goal.loop-low-preserved-in-Less
loop-low-preserved-in-Less c =
    rw add-one
    (between-before c.requires.sorted c.loop-low.invariant (middle (goal.at.loop-low-preserved-in-Less c).In-loop-low) (omega arith) (omega arith)
    (told (goal.at.loop-low-preserved-in-Less c).After-compare-order c.in-Less.is))

pub returns-in-Equal : goal.returns-in-Equal
returns-in-Equal c =
    between-there c.requires.sorted c.loop-low.invariant (middle (goal.at.returns-in-Equal c).In-loop-low) (omega arith)
    (told (goal.at.returns-in-Equal c).After-compare-order c.in-Equal.is)

pub loop-low-preserved : goal.loop-low-preserved
loop-low-preserved c =
    between-after c.requires.sorted c.loop-low.invariant (middle (goal.at.loop-low-preserved c).In-loop-low) (omega arith) (omega arith)
    (told (goal.at.loop-low-preserved c).After-compare-order c.in-Greater.is)

pub returns : goal.returns
returns c = between-end c.requires.sorted c.loop-low.invariant (omega arith)
