-- `questions::reader::read_widths` meets its contract. The loop's invariant: what is left to read, after the i widths that are read, is what the
-- definition reads in all.
-- Assumes nothing.
use mathlib.Core.Path.{sym, ap, ◌∙◌}
use native.Mathlib.Omega.{arith}
use Rattle.boxes.specs.Limits.{max_width}
use Rattle.questions.specs.Questions.{bad}
use Rattle.questions.proofs.Checks.{when_true, when_false, in-range}
use Rattle.questions.proofs.ListReading.{so-far-missing, so-far-refused, so-far-read, so-far-end, so-far-filled}
use Rattle.questions.proofs.Reading.{passed_up}
use Rattle.questions.proofs.Narrow.{narrow-set}
use Rattle.questions.proofs.reader.read_widths.Goals as goal

pub returns-in_err-width : goal.returns-in_err-width
returns-in_err-width c =
    let missing = c.in_err-width.ensures in
    rw (passed_up _ _ c.from_residual.ensures.1) (record { is = ap bad missing.1 ∙ so-far-missing c.loop-i.invariant.0 (omega arith) missing.0; array = tt })

pub returns-then-out_of_range : goal.returns-then-out_of_range
returns-then-out_of_range c =
    let word = c.in_ok-width.ensures in
    let wide = sym (rw word.1 at c.out_of_range.ensures) ∙ c.if-out_of_range.true in
    record { is = so-far-refused c.loop-i.invariant.0 (omega arith) word.0 3 (when_true 4 wide); array = tt }

pub loop-i-preserved : goal.loop-i-preserved
loop-i-preserved c =
    let word = c.in_ok-width.ensures in
    let fair = sym (rw word.1 at c.out_of_range.ensures) ∙ c.if-out_of_range.false in
    rw word.1 (
      so-far-read c.loop-i.invariant.0 (omega arith) word.0 (when_false 4 fair),
      narrow-set c.loop-i.values c.loop-i.i c.loop-i.invariant.1 (in-range max_width _ fair).1,
    )

pub returns : goal.returns
returns c =
    record { is = so-far-end c.loop-i.invariant.0 (omega arith); array = so-far-filled c.loop-i.invariant.0 (omega arith) }
