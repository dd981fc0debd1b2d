-- `questions::check_question` meets its contract.
-- Assumes nothing.
use mathlib.Core.Path.{ap}
use Rattle.questions.specs.Questions.{number_of}
use Rattle.questions.proofs.Reading.{passed_up}
use Rattle.questions.proofs.check_question.Goals as goal

pub returns-in_err-read_question : goal.returns-in_err-read_question
returns-in_err-read_question c = rw (passed_up _ _ c.from_residual.ensures.1) (ap number_of c.in_err-read_question.ensures.is)

pub returns : goal.returns
returns c = ap number_of c.in_ok-read_question.ensures.is
