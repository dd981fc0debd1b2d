-- `questions::reader::read_row` meets its contract. The loop's invariant: what is left to read, after the i values that are read, is what the
-- definition reads in all; after the last value the row is held against the one above.
-- Assumes nothing.
use mathlib.Core.Path.{sym, ap, ◌∙◌}
use native.Mathlib.Omega.{arith}
use Rattle.questions.specs.Questions.{bad}
use Rattle.questions.proofs.Reading.{passed_up}
use Rattle.questions.proofs.RowReading.{values-missing, values-wide, values_read, row-first, row-late, row_read}
use Rattle.questions.proofs.reader.read_row.Goals as goal

pub returns-in_err-value : goal.returns-in_err-value
returns-in_err-value c =
    let missing = c.in_err-value.ensures in
    rw (passed_up _ _ c.from_residual.ensures.1) (record { is = ap bad missing.1 ∙ values-missing c.loop-i.invariant c.args.above (omega arith) missing.0 })

pub returns-then-limit-value : goal.returns-then-limit-value
returns-then-limit-value c =
    let word = c.in_ok-value.ensures in
    record { is = values-wide c.loop-i.invariant c.args.above (omega arith) word.0 (omega (arith, word.1, c.limit.ensures)) }

pub loop-i-preserved : goal.loop-i-preserved
loop-i-preserved c =
    let word = c.in_ok-value.ensures in
    rw word.1 (values_read c.loop-i.invariant (omega arith) word.0 (omega (arith, word.1, c.limit.ensures)))

pub returns-then-not-comes_before : goal.returns-then-not-comes_before
returns-then-not-comes_before c =
    rw c.in-Some.is (record { is = row-late c.loop-i.invariant (omega arith) c.in-Some.above (omega arith) (sym c.comes_before.ensures ∙ c.if-not-comes_before.true) })

pub returns-else-not-comes_before : goal.returns-else-not-comes_before
returns-else-not-comes_before c =
    rw c.in-Some.is (record { is = row_read c.loop-i.invariant (omega arith) c.in-Some.above (omega arith) (sym c.comes_before.ensures ∙ c.if-not-comes_before.false) })

pub returns-in_default : goal.returns-in_default
returns-in_default c = rw c.in_default.is (record { is = row-first c.loop-i.invariant (omega arith) })
