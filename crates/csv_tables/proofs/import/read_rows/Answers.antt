-- `csv_tables::import::read_rows` meets its contract. The loop's invariant: the records before `at` are kept as rows.
-- Assumes nothing.
use mathlib.Core.Path.{◌≡◌, refl, sym, ap, subst, ◌∙◌}
use mathlib.Core.Bool.{false}
use mathlib.Core.List.{List}
use Prim.Native.Nat.{ℕ}
use native.Mathlib.Omega.{arith}
use lib.ListN.{length}
use Rattle.std.specs.Prelude.{Option, Some, Ok, Err}
use Rattle.fields.specs.Fields.{fields_of}
use Rattle.fields.specs.Names.{top_check}
use Rattle.questions.proofs.Laws.{passed_up}
use Rattle.csv_tables.specs.Judging.{judged, RecordFrom, RecordSays}
use Rattle.csv_tables.specs.Importing.{record_number, whole, Checked, placed_at, BodySays}
use Rattle.csv_tables.specs.declared.import.Row.{Row}
use Rattle.csv_tables.specs.declared.record.Record.{Record}
use Rattle.csv_tables.specs.declared.refusal.Refused.{Refused}
use Rattle.csv_tables.proofs.RecordFields.{quoteless}
use Rattle.csv_tables.proofs.RefusalNumbers.{placed-ok, placed-err}
use Rattle.csv_tables.proofs.BodyRows.{body-start, body_refused, body_more, body_end}
use Rattle.csv_tables.proofs.import.read_rows.Goals as goal
use Rattle.csv_tables.proofs.import.read_rows.Goals.{After-read_record-line, After-at_record}

pub loop-at-init : goal.loop-at-init
loop-at-init c = λ a. body-start a

-- what the record is that was read
says : (c : After-read_record-line) (l : List ℕ) → top_check l ≡ 0 → RecordSays (judged (fields_of l) false) c.args.file.now c.loop-at.at c.read_record-line.result
says c l top = c.read_record-line.ensures (judged (fields_of l) false) (λ x r p. p) (quoteless l false top)

-- a record that passes
passes : (c : After-at_record) {y : Row} → Ok y ≡ placed_at c.loop-at.place c.check_record.result
    → (c.read_record-line.result ≡ Some (whole y)) × (record_number c.read_record-line.result (length c.args.columns.now) ≡ 0)
passes c e = subst (Checked c.read_record-line.result (record_number c.read_record-line.result (length c.args.columns.now))) (placed-ok c.loop-at.place c.check_record.result e) c.check_record.ensures

passed : (c : After-at_record) (l : List ℕ) → top_check l ≡ 0 → {y : Row} → Ok y ≡ placed_at c.loop-at.place c.check_record.result
    → RecordFrom (judged (fields_of l) false) c.args.file.now c.loop-at.at (whole y)
passed c l top e =
    subst (RecordSays (judged (fields_of l) false) c.args.file.now c.loop-at.at) (passes c e).0 (c.read_record-line.ensures (judged (fields_of l) false) (λ x r p. p) (quoteless l false top))

pub returns-in_err-row : goal.returns-in_err-row
returns-in_err-row c = λ a.
    let at = c.loop-at in
    let refused = c.in_err-row.field-0.0 in
    let err = placed-err at.place c.check_record.result c.in_err-row.ensures in
    let number = subst (Checked c.read_record-line.result (record_number c.read_record-line.result (length c.args.columns.now))) err.0 c.check_record.ensures in
    rw (passed_up _ _ c.from_residual.ensures.1)
    (subst (λ (z : Refused). BodySays (fields_of a.names) a.header.texts (length c.args.columns.now) c.args.file.now c.args.from at.rows at.order (Err z)) (sym err.1)
    (body_refused a.names a.named (at.invariant a) (omega arith) c.read_record-line.result (says (goal.at.returns-in_err-row c).After-read_record-line a.names a.named) refused.why number a.header))

pub add_row-kept-requires : goal.add_row-kept-requires
add_row-kept-requires c = let b = c.loop-at.invariant c.requires in (b.rows, b.kept)

pub overflow_add-place : goal.overflow_add-place
overflow_add-place c = let b = c.loop-at.invariant c.requires in omega (arith, b.place, b.few, b.within, c.requires.short)

pub loop-at-smaller : goal.loop-at-smaller
loop-at-smaller c =
    let a = c.requires in
    let r = passed (goal.at.loop-at-smaller c).After-at_record a.names a.named c.in_ok-row.ensures in
    omega (arith, r.within, r.onward (omega arith))

pub loop-at-preserved : goal.loop-at-preserved
loop-at-preserved c = λ a.
    let at = (goal.at.loop-at-preserved c).After-at_record in
    let b = c.loop-at.invariant a in
    let row = c.in_ok-row.row in
    let both = passes at c.in_ok-row.ensures in
    body_more a.names a.named b (omega arith) (passed at a.names a.named c.in_ok-row.ensures)
    (ap (λ (r : Option Record). record_number r (length c.args.columns.now)) (sym both.0) ∙ both.1) row.values refl (c.add_row-kept.ensures b.rows b.kept)

pub returns : goal.returns
returns c = λ a. rw c.ok_or.ensures.value (body_end a.names c.loop-at.kept a.named (c.loop-at.invariant a) (omega arith) a.header)
