-- `csv_tables::export::export_csv` meets its contract: each answer by what the tests before it told.
-- Assumes nothing.
use native.Mathlib.Omega.{arith}
use Rattle.fields.specs.Fields.{fields_of}
use Rattle.fields.specs.Writing.{tuples_of}
use Rattle.csv_tables.specs.Exports.{export_csv}
use Rattle.csv_tables.proofs.Exporting.{says-refused, says-lacking, says-written}
use Rattle.csv_tables.proofs.export.export_csv.Goals as goal
use Rattle.csv_tables.proofs.export.export_csv.Goals.{then-out-bytes, else-out-bytes}

pub returns-in-Err : goal.returns-in-Err
returns-in-Err c = says-refused c.args.names.now c.args.listing.now c.args.out.now c.in-Err.refusal c.in-Err.ensures c.number.ensures

pub returns : goal.returns
returns c =
    let s = c.args in
    let l = s.names.now in
    let v = s.listing.now in
    let passes = c.in-Ok.ensures in
    let print = c.print_whole-bytes.ensures (export_csv (fields_of l) (tuples_of c.in-Ok.arity v)) (λ o o' r p. p) in
    elim c.if-out-bytes.branch [
      | then-out-bytes w ↦ rw (w.number-is, c.as_count.ensures) (says-lacking l v passes.0 (omega arith) passes.1 print (omega (arith, w.if-out-bytes.true)))
      | else-out-bytes w ↦ rw (w.number-is, c.as_count.ensures) (says-written l v passes.0 (omega arith) passes.1 print (omega (arith, w.if-out-bytes.false)))
    ]
