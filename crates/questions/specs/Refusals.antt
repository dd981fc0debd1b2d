-- The refusals by number, and what a part of the reader answers.
--   refusal_number r  == the number of a refusal
--   Reading A         == a part that was read, or a refusal
--   checked_number r  == 0 for yes, else the refusal's number
--   answer r part left == what was read, with the words that are left: `part` and `left` of the value; or the refusal's number
use Rattle.std.specs.Prelude.{List, ℕ, Result, Ok, Err}
use Rattle.questions.specs.Questions.{Got, bad, got}
use Rattle.questions.specs.declared.refusal.Refusal.{Refusal}
use Rattle.questions.specs.declared.refusal.Refusal.TheVariants.{WordCount, AttributeCount, MissingWord, WidthRange, TableCount, ArityRange, AttributeNumber, RowCount, HighValue, OutOfOrder, WordsLeft, BareAttribute, ReversedPair}

abbrev pub refusal_number : Refusal → ℕ
refusal_number WordCount = 1
refusal_number AttributeCount = 2
refusal_number MissingWord = 3
refusal_number WidthRange = 4
refusal_number TableCount = 5
refusal_number ArityRange = 6
refusal_number AttributeNumber = 7
refusal_number RowCount = 8
refusal_number HighValue = 9
refusal_number OutOfOrder = 10
refusal_number WordsLeft = 11
refusal_number BareAttribute = 12
refusal_number ReversedPair = 28

abbrev pub Reading : Type 0 → Type 0
Reading A = Result A Refusal

abbrev pub checked_number : {A : Type 0} → Reading A → ℕ
checked_number (Ok x) = 0
checked_number (Err r) = refusal_number r

abbrev pub answer : {A B : Type 0} → Reading A → (A → B) → (A → List ℕ) → Got B
answer (Ok x) part left = got (part x) (left x)
answer (Err r) part left = bad (refusal_number r)
