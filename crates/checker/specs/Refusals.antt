-- The numbers of an answer of `check_listing`.
--   check_refusal_number r == the number of the question's refusal, or check_failed where a check fails
--   check_result_number r  == the number of an answer: 0 where the listing and the records are accepted
use Rattle.std.specs.Prelude.{ℕ, Result, Ok, Err}
use Rattle.questions.specs.Refusals.{refusal_number}
use Rattle.checker.specs.Limits.{check_failed}
use Rattle.checker.specs.declared.refusal.CheckRefusal.{CheckRefusal}
use Rattle.checker.specs.declared.refusal.CheckRefusal.TheVariants.{Question, Failed}

abbrev pub check_refusal_number : CheckRefusal → ℕ
check_refusal_number (Question r) = refusal_number r
check_refusal_number Failed = check_failed

abbrev pub check_result_number : Result (Unit {0}) CheckRefusal → ℕ
check_result_number (Ok _) = 0
check_result_number (Err r) = check_refusal_number r
