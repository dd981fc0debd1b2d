-- `csv_tables::import::put_table` meets its contract. The loop's invariant: behind the front stand the first rows.
-- Assumes nothing.
use mathlib.Core.Path.{◌≡◌, refl, ap, ◌∙◌}
use mathlib.Core.List.{List, ◌++◌}
use Prim.Native.Nat.{ℕ, suc, ◌+◌, ◌-◌, ◌*◌, ◌≤◌}
use native.Mathlib.Nat.{suc-mul, mul-le-mul}
use native.Mathlib.Omega.{arith}
use lib.ListN.{length, get_or, set, take}
use lib.Seq.{take-length}
use borrow.Rule.Slice.PartMut.{put_mid}
use Rattle.std.proofs.lemmas.Slice.{put_mid-paste}
use Rattle.boxes.specs.Limits.{max_attributes}
use Rattle.boxes.proofs.Lists.{each_at}
use Rattle.questions.specs.Limits.{max_rows}
use Rattle.questions.specs.Words.{flat, over}
use Rattle.csv_tables.specs.Columns.{sourced}
use Rattle.csv_tables.specs.Keeping.{row_at, rows_in}
use Rattle.csv_tables.proofs.KeptRows.{sourced-long, row-end, row-long, row-part}
use Rattle.csv_tables.proofs.TablePuts.{rows_none, row_put, front-written, fronted-long, table-put}
use Rattle.csv_tables.proofs.import.put_table.Goals as goal
use Rattle.csv_tables.proofs.import.put_table.Goals.{After-put_row, At-loop-number, In-loop-number}

-- the words with their front
abbrev fronted : After-put_row → List ℕ
fronted c =
    let k = length c.args.columns.now in
    set (put_mid 1 (k + 1 - 1) (set c.args.words.now 0 k) c.put_row.new.row) (k + 1) (length c.args.order.now)

front-room : (c : After-put_row) → length c.args.columns.now + 2 + length c.args.order.now * length c.args.columns.now ≤ length (fronted c)
front-room c =
    let xs = sourced c.args.columns.now c.args.header in
    omega (arith, fronted-long xs c.args.words.now (length c.args.columns.now) (length c.args.order.now) (sourced-long c.args.columns.now c.args.header) (omega (arith, c.requires.room)) c.put_row.ensures, c.requires.room)

-- the end of the next row among the words, and among the rows
ends : (c : In-loop-number) → suc (get_or c.args.order.now c.loop-number.number-index 0) * length c.args.columns.now ≤ length c.args.rows.now
ends c = each_at c.requires.each c.loop-number.number-index 0 (omega arith)

pub loop-number-init : goal.loop-number-init
loop-number-init c =
    let at = (goal.at.loop-number-init c).After-put_row in
    let k = length c.args.columns.now in (omega arith, rows_none k c.args.rows.now c.args.order.now c.requires.each (fronted at) (k + 2) (front-room at))

pub overflow_add-at-in-loop-number : goal.overflow_add-at-in-loop-number
overflow_add-at-in-loop-number c =
    let k = length c.args.columns.now in
    let n = length c.args.order.now in
    omega (arith, c.loop-number.invariant.0, row-end k c.loop-number.number-index n (omega arith), c.requires.few, mul-le-mul {n₁ = n} {m₁ = k} {n₂ = max_rows} {m₂ = max_attributes} c.requires.few_rows c.requires.few)

pub slice_bounds-copy_from_slice-end-in-loop-number : goal.slice_bounds-copy_from_slice-end-in-loop-number
slice_bounds-copy_from_slice-end-in-loop-number c = omega (arith, ends (goal.at.slice_bounds-copy_from_slice-end-in-loop-number c).In-loop-number, suc-mul (get_or c.args.order.now c.loop-number.number-index 0) (length c.args.columns.now))

pub loop-number-preserved : goal.loop-number-preserved
loop-number-preserved c =
    let front = (goal.at.loop-number-preserved c).After-put_row in
    let k = length c.args.columns.now in
    let w = c.args.rows.now in
    let o = c.args.order.now in
    let l = c.loop-number in
    let i = l.number-index in
    let number = get_or o i 0 in
    let r = row_at w k number in
    let long : length r ≡ k = row-long k w number (omega (arith, ends (goal.at.loop-number-preserved c).In-loop-number, suc-mul number k)) in (
      omega (arith, suc-mul i k, l.invariant.0),
      put_mid-paste l.at (l.at + k - l.at) l.words c.copy_from_slice.new.self r (length r) (c.copy_from_slice.ensures.after ∙ row-part k w number) (omega (arith, long)) refl
          ∙ row_put k w o c.requires.each (fronted front) (k + 2) (front-room front) i l.at (omega arith) l.invariant.0 l.invariant.1 refl,
    )

pub returns : goal.returns
returns c =
    let front = (goal.at.returns c).After-put_row in
    let k = length c.args.columns.now in
    let o = c.args.order.now in
    let xs = sourced c.args.columns.now c.args.header in
    let long = sourced-long c.args.columns.now c.args.header in
    let all : c.loop-number.number-index ≡ length o = omega arith in
    let rows : take c.loop-number.number-index o ≡ o = ap (λ (i : ℕ). take i o) all ∙ take-length o in
    table-put xs c.args.words.now k (length o) long (omega (arith, c.requires.room)) (rows_in k c.args.rows.now o) (k + 2)
    (c.loop-number.invariant.1 ∙ ap (λ (l : List ℕ). over (take (k + 2) (fronted front) ++ flat (rows_in k c.args.rows.now l)) (fronted front)) rows)
    (front-written xs c.args.words.now k (length o) long (omega (arith, c.requires.room)) c.put_row.ensures) refl
