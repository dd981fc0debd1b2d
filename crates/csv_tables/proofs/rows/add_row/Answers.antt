-- `csv_tables::rows::add_row` meets its contract: each way out is a law of the rows kept.
-- Assumes nothing.
use mathlib.Core.Path.{◌≡◌, sym, subst, ◌∙◌}
use mathlib.Core.List.{List, [], ◌∷◌, ◌++◌}
use Prim.Native.Nat.{ℕ, ◌+◌, ◌-◌, ◌*◌, ◌≤◌}
use native.Mathlib.Omega.{arith}
use borrow.Author.Rules.{rules}
use lib.ListN.{length, take, drop}
use lib.Seq.{paste}
use borrow.Rule.Slice.PartMut.{put_mid}
use Rattle.std.specs.Prelude.{Option, Some, Ok, Err}
use Rattle.csv_tables.specs.Columns.{sourced}
use Rattle.csv_tables.specs.Keeping.{RowsKept}
use Rattle.csv_tables.proofs.KeptRows.{row-part, sourced-long, row-written, keep-room, added-row, taken-ends, taken-sorted, taken-place, keep-many, keep-there, keep-full, keep_at, kept-long}
use Rattle.csv_tables.proofs.rows.add_row.Goals as goal
use Rattle.csv_tables.proofs.rows.add_row.Goals.{Start, In_ok-count, After-put_row}

-- the row, and that it has as many values as columns
abbrev row : Start → List ℕ
row c = sourced c.args.columns.now c.args.values

-- so many rows are kept
some : (c : In_ok-count) → RowsKept (length c.args.columns.now) c.args.rows.now c.args.order.now (Some c.in_ok-count.count) c.requires.0
some c = subst (λ (x : Option ℕ). RowsKept (length c.args.columns.now) c.args.rows.now c.args.order.now x c.requires.0) c.in_ok-count.was c.requires.1

room : (c : In_ok-count) → c.in_ok-count.count * length c.args.columns.now + length c.args.columns.now ≤ length c.args.rows.now
room c = keep-room (length c.args.columns.now) c.args.rows.now c.args.order.now c.in_ok-count.count c.requires.0 (some c)

pub returns-in_err-count : goal.returns-in_err-count
returns-in_err-count c rs kept =
    rw c.from_residual.ensures
    (keep-many (subst (λ (x : Option ℕ). RowsKept (length c.args.columns.now) c.args.rows.now c.args.order.now x rs) c.in_err-count.was kept) (sourced c.args.columns.now c.args.values) (sourced-long c.args.columns.now c.args.values))

pub overflow_mul-from : goal.overflow_mul-from
overflow_mul-from c = omega (arith, room (goal.at.overflow_mul-from c).In_ok-count)

-- the words with the row
abbrev words : After-put_row → List ℕ
words c =
    let k = length c.args.columns.now in
    let m = c.in_ok-count.count in
    put_mid (m * k) (m * k + k - m * k) c.args.rows.now c.put_row.new.row

written : (c : After-put_row) → words c ≡ paste c.args.rows.now (c.in_ok-count.count * length c.args.columns.now) (sourced c.args.columns.now c.args.values) (length c.args.columns.now)
written c = row-written (length c.args.columns.now) c.in_ok-count.count c.args.rows.now (sourced c.args.columns.now c.args.values) c.put_row.ensures (sourced-long c.args.columns.now c.args.values)

-- so many rows were kept, whichever they are
was : (c : After-put_row) {rs : List (List ℕ)} → RowsKept (length c.args.columns.now) c.args.rows.now c.args.order.now c.args.kept rs
    → RowsKept (length c.args.columns.now) c.args.rows.now c.args.order.now (Some c.in_ok-count.count) rs
was c {rs} kept = subst (λ (x : Option ℕ). RowsKept (length c.args.columns.now) c.args.rows.now c.args.order.now x rs) c.in_ok-count.was kept

-- the row as `find_place` is asked for it
taken : (c : After-put_row)
    → let k = length c.args.columns.now in
    let m = c.in_ok-count.count in
    take (m * k + k - m * k) (drop (m * k) (words c)) ≡ sourced c.args.columns.now c.args.values
taken c =
    let k = length c.args.columns.now in
    let m = c.in_ok-count.count in
    row-part k (words c) m ∙ added-row k c.args.rows.now c.args.order.now m c.requires.0 (was c c.requires.1) (sourced c.args.columns.now c.args.values) (sourced-long c.args.columns.now c.args.values) (words c) (written c)

pub find_place-requires-clause-each : goal.find_place-requires-clause-each
find_place-requires-clause-each c =
    let at = (goal.at.find_place-requires-clause-each c).After-put_row in
    taken-ends (length c.args.columns.now) c.args.rows.now c.args.order.now c.in_ok-count.count c.requires.0 (was at c.requires.1) (sourced c.args.columns.now c.args.values)
    (sourced-long c.args.columns.now c.args.values) (words at) (written at) (taken at)

pub find_place-requires-clause-sorted : goal.find_place-requires-clause-sorted
find_place-requires-clause-sorted c =
    let at = (goal.at.find_place-requires-clause-sorted c).After-put_row in
    taken-sorted (length c.args.columns.now) c.args.rows.now c.args.order.now c.in_ok-count.count c.requires.0 (was at c.requires.1) (sourced c.args.columns.now c.args.values)
    (sourced-long c.args.columns.now c.args.values) (words at) (written at) (taken at)

pub returns-in_default : goal.returns-in_default
returns-in_default c rs kept =
    let at = (goal.at.returns-in_default c).After-put_row in
    let k = length c.args.columns.now in
    let w = c.args.rows.now in
    let o = c.args.order.now in
    let m = c.in_ok-count.count in
    let r = sourced c.args.columns.now c.args.values in
    let long = sourced-long c.args.columns.now c.args.values in
    let says = taken-place k w o m rs (was at kept) r long (words at) (written at) (taken at) (Ok c.in_default.field-0) c.in_default.ensures in
    subst (λ (x : Option ℕ). RowsKept k (words at) o x (rs ++ (r ∷ []))) (sym c.in_ok-count.was) (keep-there k w o m rs (was at kept) r long (words at) (written at) c.in_default.field-0 says)

pub returns-then-count-eq-MAX_ROWS : goal.returns-then-count-eq-MAX_ROWS
returns-then-count-eq-MAX_ROWS c rs kept =
    let at = (goal.at.returns-then-count-eq-MAX_ROWS c).After-put_row in
    let k = length c.args.columns.now in
    let w = c.args.rows.now in
    let o = c.args.order.now in
    let m = c.in_ok-count.count in
    let r = sourced c.args.columns.now c.args.values in
    let long = sourced-long c.args.columns.now c.args.values in
    let says = taken-place k w o m rs (was at kept) r long (words at) (written at) (taken at) (Err c.in-Err.at) c.in-Err.ensures in
    keep-full k w o m rs (was at kept) r long (words at) (written at) says c.if-count-eq-MAX_ROWS.true

pub insert_at-requires : goal.insert_at-requires
insert_at-requires c =
    let at = (goal.at.insert_at-requires c).After-put_row in
    let k = length c.args.columns.now in
    let w = c.args.rows.now in
    let o = c.args.order.now in
    let m = c.in_ok-count.count in
    let kept = was at c.requires.1 in
    let says = taken-place k w o m c.requires.0 kept (sourced c.args.columns.now c.args.values) (sourced-long c.args.columns.now c.args.values) (words at) (written at) (taken at) (Err c.in-Err.at) c.in-Err.ensures in
    record {
      count_in_bounds = omega (arith, c.if-count-eq-MAX_ROWS.false, kept.is.0, kept.order-long);
      at_le_count = omega (arith, says.0, kept-long k (words at) o m (omega (arith, kept.is.0, kept.order-long)));
    }

pub returns : goal.returns
returns c rs kept =
    let at = (goal.at.returns c).After-put_row in
    let k = length c.args.columns.now in
    let w = c.args.rows.now in
    let o = c.args.order.now in
    let m = c.in_ok-count.count in
    let r = sourced c.args.columns.now c.args.values in
    let long = sourced-long c.args.columns.now c.args.values in
    let says = taken-place k w o m rs (was at kept) r long (words at) (written at) (taken at) (Err c.in-Err.at) c.in-Err.ensures in
    keep_at k w o m rs (was at kept) r long (words at) (written at) c.insert_at.new.order says (omega (arith, c.if-count-eq-MAX_ROWS.false, (was at kept).is.0)) (search rules) c.insert_at.ensures
