-- Why a text is refused, or has no answer: the refusals of the code by their numbers.
--   refusal_number r == the paper's number of a refusal, 13 where a lent place lacks room
--   of_names r       == the refusal of a line of names as that of its text
--   by_number a      == an answer of the code with the number in place of the refusal
--   passed_number a  == 0 for an answer that is no refusal, else the refusal's number
use Rattle.std.specs.Prelude.{ℕ, Result, Ok, Err}
use Rattle.questions.specs.Refusals as of_question
use Rattle.fields.specs.declared.lines.NamesRefusal.{NamesRefusal}
use Rattle.fields.specs.declared.lines.NamesRefusal.TheVariants as of_line
use Rattle.text.specs.declared.refusal.TextRefusal.{TextRefusal}
use Rattle.text.specs.declared.refusal.TextRefusal.TheVariants.{NoRoom, Malformed, Names, TooLong, Question}

abbrev pub refusal_number : TextRefusal → ℕ
refusal_number NoRoom = 13
refusal_number Malformed = 15
refusal_number Names = 16
refusal_number TooLong = 17
refusal_number (Question r) = of_question.refusal_number r

abbrev pub of_names : NamesRefusal → TextRefusal
of_names of_line.Malformed = Malformed
of_names of_line.Repeated = Names

abbrev pub by_number : {A : Type 0} → Result A TextRefusal → Result A ℕ
by_number (Ok x) = Ok x
by_number (Err r) = Err (refusal_number r)

abbrev pub passed_number : {A : Type 0} → Result A TextRefusal → ℕ
passed_number (Ok x) = 0
passed_number (Err r) = refusal_number r
