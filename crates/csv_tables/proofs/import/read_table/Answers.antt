-- `csv_tables::import::read_table` meets its contract.
-- Assumes nothing.
use mathlib.Core.Path.{◌≡◌, refl, sym, ap, subst, ◌∙◌}
use mathlib.Core.Bool.{true}
use Prim.Native.Nat.{◌≤◌}
use native.Mathlib.Omega.{arith}
use lib.ListN.{length, take}
use lib.Seq.{length-take-le}
use Rattle.std.specs.Prelude.{Some, Ok, Err}
use Rattle.boxes.specs.Limits.{max_attributes}
use Rattle.csv_tables.specs.Columns.{sources_from}
use Rattle.questions.proofs.Laws.{passed_up}
use Rattle.fields.specs.Fields.{fields_of}
use Rattle.csv_tables.specs.Records.{records_of}
use Rattle.csv_tables.specs.Judging.{judged, RecordFrom, RecordSays}
use Rattle.csv_tables.specs.Imports.{read_header}
use Rattle.csv_tables.specs.Importing.{header_number, whole, Checked, placed_at, RowsAsk, TableRead}
use Rattle.csv_tables.specs.declared.import.Row.{Row}
use Rattle.csv_tables.specs.declared.refusal.Refused.{Refused}
use Rattle.csv_tables.proofs.RecordFields.{quoteless}
use Rattle.csv_tables.proofs.RefusalNumbers.{refusal-some, placed-ok, placed-err}
use Rattle.csv_tables.proofs.BodyRows.{header-small}
use Rattle.csv_tables.proofs.HeaderChecks.{header-refused-at, header_of_lem, header-attributes, header-goes, file-imported, imported-says}
use Rattle.csv_tables.proofs.import.read_table.Goals as goal
use Rattle.csv_tables.proofs.import.read_table.Goals.{After-read_record-line, After-at_record, After-put_columns-arity}

-- what the first record is
says : (c : After-read_record-line) → RecordSays (judged (fields_of c.args.names.now) true) c.args.file.now 0 c.read_record-line.result
says c = c.read_record-line.ensures (judged (fields_of c.args.names.now) true) (λ x r p. p) (quoteless c.args.names.now true c.requires.named)

-- a header that passes
abbrev passes : (c : After-at_record) {y : Row} → Ok y ≡ placed_at 1 c.check_header.result → (c.read_record-line.result ≡ Some (whole y)) × (header_number c.read_record-line.result ≡ 0)
passes c e = subst (Checked c.read_record-line.result (header_number c.read_record-line.result)) (placed-ok 1 c.check_header.result e) c.check_header.ensures

abbrev number : (c : After-at_record) {y : Row} → Ok y ≡ placed_at 1 c.check_header.result → header_number (Some (whole y)) ≡ 0
number c e = let both = passes c e in ap header_number (sym both.0) ∙ both.1

abbrev passed : (c : After-at_record) {y : Row} → Ok y ≡ placed_at 1 c.check_header.result → RecordFrom (judged (fields_of c.args.names.now) true) c.args.file.now 0 (whole y)
passed c e =
    subst (RecordSays (judged (fields_of c.args.names.now) true) c.args.file.now 0) (passes c e).0
    (c.read_record-line.ensures (judged (fields_of c.args.names.now) true) (λ x r p. p) (quoteless c.args.names.now true c.requires.named))

pub returns-in_err-header : goal.returns-in_err-header
returns-in_err-header c =
    let s = c.args in
    let refused = c.in_err-header.field-0.0 in
    let err = placed-err 1 c.check_header.result c.in_err-header.ensures in
    let is = subst (Checked c.read_record-line.result (header_number c.read_record-line.result)) err.0 c.check_header.ensures in
    rw (passed_up _ _ c.from_residual.ensures.1)
    (subst (λ (z : Refused). TableRead (read_header (fields_of s.names.now) (records_of s.file.now)) s.words.now s.words.now (Err z)) (sym err.1)
    (header-refused-at s.names.now c.requires.named s.file.now c.read_record-line.result (says (goal.at.returns-in_err-header c).After-read_record-line) is (refusal-some refused.why), refl))

-- the columns are those of the header, and its own values are the attributes
columns : (c : After-put_columns-arity) → take c.put_columns-arity.result c.put_columns-arity.new.columns ≡ sources_from 0 c.args.dimension (take c.in_ok-header.header.count c.in_ok-header.header.values)
columns c = c.put_columns-arity.ensures.columns

abbrev asked : (c : After-put_columns-arity) → RowsAsk c.args.file.now c.in_ok-header.header.next (take c.put_columns-arity.result c.put_columns-arity.new.columns) c.args.rows.now c.args.order.now
asked c =
    let row = c.in_ok-header.header in
    let both = subst (Checked c.read_record-line.result (header_number c.read_record-line.result)) (placed-ok 1 c.check_header.result c.in_ok-header.ensures) c.check_header.ensures in
    let zero : header_number (Some (whole row)) ≡ 0 = ap header_number (sym both.0) ∙ both.1 in
    let read =
    subst (RecordSays (judged (fields_of c.args.names.now) true) c.args.file.now 0) both.0
    (c.read_record-line.ensures (judged (fields_of c.args.names.now) true) (λ x r p. p) (quoteless c.args.names.now true c.requires.named)) in
    record {
      names = c.args.names.now;
      named = c.requires.named;
      short = c.requires.short;
      within = read.within;
      header = header_of_lem c.args.names.now c.requires.named read zero row.values refl c.requires.dimension (columns c);
      rows_long = c.requires.rows_long;
      order-long = c.requires.order-long;
    }

columns_few : (c : After-put_columns-arity) → length (take c.put_columns-arity.result c.put_columns-arity.new.columns) ≤ max_attributes
columns_few c = header-small c.args.names.now c.requires.named (asked c).header

pub read_rows-requires : goal.read_rows-requires
read_rows-requires c = asked (goal.at.read_rows-requires c).After-put_columns-arity

pub returns-in_err-count : goal.returns-in_err-count
returns-in_err-count c =
    let s = c.args in
    let at = (goal.at.returns-in_err-count c).After-at_record in
    let e = c.in_ok-header.ensures in
    let body = c.in_err-count.ensures (asked (goal.at.returns-in_err-count c).After-put_columns-arity) in
    rw (passed_up _ _ c.from_residual-in_err-count.ensures.1) (header-goes s.names.now c.requires.named (passed at e) (number at e) ∙ body.reads, refl)

pub slice_bounds-write_table-end : goal.slice_bounds-write_table-end
slice_bounds-write_table-end c =
    let body = c.in_ok-count.ensures (asked (goal.at.slice_bounds-write_table-end c).After-put_columns-arity) in
    omega (arith, body.rows.0, body.order-long)

pub slice_bounds-write_table-end-2 : goal.slice_bounds-write_table-end-2
slice_bounds-write_table-end-2 c =
    let body = c.in_ok-count.ensures (asked (goal.at.slice_bounds-write_table-end-2 c).After-put_columns-arity) in
    sym (length-take-le c.in_ok-count.count c.read_rows.new.order (omega (arith, body.rows.0, body.order-long)))

pub write_table-requires : goal.write_table-requires
write_table-requires c =
    let at = (goal.at.write_table-requires c).After-put_columns-arity in
    let body = c.in_ok-count.ensures (asked at) in
    let long = length-take-le c.in_ok-count.count c.read_rows.new.order (omega (arith, body.rows.0, body.order-long)) in
    record {
      arity = columns_few at;
      few = omega (arith, long, body.rows.0);
      rows_long = body.rows_long;
      numbers = rw long body.rows.1;
    }

pub returns : goal.returns
returns c =
    let at = (goal.at.returns c).After-at_record in
    let put = (goal.at.returns c).After-put_columns-arity in
    let e = c.in_ok-header.ensures in
    let body = c.in_ok-count.ensures (asked put) in
    let attributes = header-attributes c.args.names.now c.requires.named (passed at e) (number at e) c.in_ok-header.header.values refl c.requires.dimension (columns put) in
    let file = file-imported c.args.names.now c.requires.named (passed at e) (number at e) body attributes in
    ((_, file), imported-says file c.write_table.ensures)
