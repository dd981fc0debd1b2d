-- `csv_tables::export::arity_of` meets its contract.
-- Assumes nothing.
use native.Mathlib.Omega.{arith}
use Rattle.questions.proofs.Laws.{passed_up}
use Rattle.fields.specs.Fields.{space}
use Rattle.fields.proofs.Laws.{split-some}
use Rattle.csv_tables.specs.declared.export.ExportRefusal.TheVariants.{Names}
use Rattle.csv_tables.proofs.TopLines.{top-pass, top-refused}
use Rattle.csv_tables.proofs.Exporting.{check_both, check-names, check-listing}
use Rattle.csv_tables.proofs.export.arity_of.Goals as goal

pub returns-in_err-arity : goal.returns-in_err-arity
returns-in_err-arity c =
    let s = c.args in
    let why = c.in_err-arity.field-0.0 in
    rw (passed_up c.from_residual.result (Names why) c.from_residual.ensures.1)
    (check-names s.names.now s.listing.now why (top-refused s.names.now c.in_err-arity.ensures))

pub nonzero_rem-listing : goal.nonzero_rem-listing
nonzero_rem-listing c = omega (arith, (top-pass c.args.names.now c.in_ok-arity.ensures).1, split-some space c.args.names.now)

pub returns-then-listing-arity-ne0 : goal.returns-then-listing-arity-ne0
returns-then-listing-arity-ne0 c =
    let s = c.args in
    let top = top-pass s.names.now c.in_ok-arity.ensures in
    check-listing s.names.now s.listing.now top.0 top.1 c.if-listing-arity-ne0.true

pub returns : goal.returns
returns c =
    let s = c.args in
    let top = top-pass s.names.now c.in_ok-arity.ensures in
    (check_both s.names.now s.listing.now top.0 top.1 c.if-listing-arity-ne0.false, top.1)
