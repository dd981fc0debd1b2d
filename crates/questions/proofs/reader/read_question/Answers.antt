-- `questions::reader::read_question` meets its contract, part by part.
-- Assumes nothing.
use mathlib.Core.Path.{sym, ◌∙◌}
use native.Mathlib.Omega.{arith}
use Rattle.boxes.specs.Limits.{max_attributes}
use Rattle.questions.specs.declared.refusal.Refusal.TheVariants.{WordCount, AttributeCount}
use Rattle.questions.proofs.Checks.{in-range}
use Rattle.questions.proofs.QuestionReading.{refused_says, DimensionRead, question-long, question-none, question-count, question-widths, question-rest}
use Rattle.questions.proofs.Reading.{passed_up}
use Rattle.questions.proofs.reader.read_question.Goals as goal
use Rattle.questions.proofs.reader.read_question.Goals.{Else-out_of_range}

-- the number of attributes is in range
fair : (c : Else-out_of_range) → DimensionRead c.args.question.now
fair c =
    let first = c.in-Some.ensures.item.3 in
    record { short = omega arith; some = first.0; fair = sym (rw (first.1 0) at c.out_of_range.ensures) ∙ c.if-out_of_range.false }

pub returns-then-question-gt-MAX_WORDS : goal.returns-then-question-gt-MAX_WORDS
returns-then-question-gt-MAX_WORDS c = refused_says _ _ WordCount (question-long c.args.question.now (omega arith))

pub returns-in_default : goal.returns-in_default
returns-in_default c = refused_says _ _ WordCount (question-none c.args.question.now (omega arith) (omega (arith, c.in_default.ensures.item.3)))

pub returns-then-out_of_range : goal.returns-then-out_of_range
returns-then-out_of_range c =
    let first = c.in-Some.ensures.item.3 in
    let wide = sym (rw (first.1 0) at c.out_of_range.ensures) ∙ c.if-out_of_range.true in
    refused_says _ _ AttributeCount (question-count c.args.question.now (omega arith) first.0 wide)

pub read_widths-requires : goal.read_widths-requires
read_widths-requires c = (in-range max_attributes _ (sym c.out_of_range.ensures ∙ c.if-out_of_range.false)).1

pub returns-in_err-widths : goal.returns-in_err-widths
returns-in_err-widths c =
    let first = c.in-Some.ensures.item.3 in
    rw (passed_up _ _ c.from_residual.ensures.1)
    (refused_says _ _ c.in_err-widths.field-0.0 (question-widths (fair (goal.at.returns-in_err-widths c).Else-out_of_range) (rw (first.1 0) at c.in_err-widths.ensures.is)))

pub read_rest-requires : goal.read_rest-requires
read_rest-requires c =
    let widths = c.in_ok-widths.ensures in
    record { few = (in-range max_attributes _ (sym c.out_of_range.ensures ∙ c.if-out_of_range.false)).1; array = widths.array }

pub returns : goal.returns
returns c =
    let first = c.in-Some.ensures.item.3 in
    rw (question-rest (fair (goal.at.returns c).Else-out_of_range) (rw (first.1 0) at c.in_ok-widths.ensures.is)) at (rw (first.1 0) at c.read_rest.ensures)
