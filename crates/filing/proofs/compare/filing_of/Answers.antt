-- `filing::compare::filing_of` meets its contract.
-- Assumes nothing.
use Rattle.std.proofs.Common.{rules, ◌≡◌, sym, ap, ◌∙◌, List, ℕ, Err, arith}
use Rattle.questions.specs.Questions.{number_of, read_question}
use Rattle.questions.specs.Beginnings.{AcceptedWords}
use Rattle.filing.proofs.Saying.{filed-first, filed-second, filed-both, few-shared}
use Rattle.filing.proofs.compare.filing_of.Goals as goal
use Rattle.filing.proofs.compare.filing_of.Goals.{Joined-ne, then-ne+in_ok-check_question-2, else-ne}

pub returns-in_err-check_question : goal.returns-in_err-check_question
returns-in_err-check_question c =
    let is : c.from_residual.result ≡ Err c.in_err-check_question.field-0.0 = search rules in
    rw is (filed-first c.args.first.now c.args.second.now c.in_err-check_question.field-0.0 c.in_err-check_question.ensures)

pub returns-in_err-check_question-2 : goal.returns-in_err-check_question-2
returns-in_err-check_question-2 c =
    let is : c.from_residual-in_err-check_question-2.result ≡ Err c.in_err-check_question-2.field-0.0 = search rules in
    rw is (filed-second c.args.first.now c.args.second.now c.in_err-check_question-2.field-0.0 (sym c.in_ok-check_question.ensures) c.in_err-check_question-2.ensures)

-- the second question is accepted, or it is the first
second-accepted : (c : Joined-ne) → AcceptedWords c.args.second.now
second-accepted c =
    elim c.if-ne.branch [
      | then-ne+in_ok-check_question-2 w ↦ sym w.in_ok-check_question-2.ensures
      | else-ne w ↦ let is : c.args.first.now ≡ c.args.second.now = search rules in ap (λ (l : List ℕ). number_of (read_question l)) (sym is) ∙ sym c.in_ok-check_question.ensures
    ]

pub overflow_cast-result : goal.overflow_cast-result
overflow_cast-result c = omega (arith, few-shared c.args.first.now c.args.second.now (sym c.in_ok-check_question.ensures), c.shared_count.ensures)

pub returns : goal.returns
returns c =
    filed-both c.args.first.now c.args.second.now (sym c.in_ok-check_question.ensures) (second-accepted (goal.at.returns c).Joined-ne) c.cmp.ensures c.shared_count.ensures
