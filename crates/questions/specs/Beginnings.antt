-- Questions and their beginnings: reading says where a question ends, so that no accepted one goes on after another. Request W13 rests on it.
--   AcceptedWords s  == the words s are an accepted question
--   NoBeginning      == no accepted question is the beginning of a longer one
--   BeginningRefused == a proper beginning of an accepted question is refused with 3, the empty one with 1
--   LongerRefused    == what is longer than an accepted question is refused with 11, or with 1 if there are too many words
use Rattle.std.specs.Prelude.{◌≡◌, List, [], ◌++◌, ℕ, ◌≤◌, eqb, ltb, length}
use Rattle.boxes.specs.Intervals.{pick}
use Rattle.questions.specs.Limits.{max_words}
use Rattle.questions.specs.Questions.{bad, number_of, read_question}

-- all questions are answered yes
abbrev pub AcceptedWords : List ℕ → Type 0
AcceptedWords s = number_of (read_question s) ≡ 0

abbrev pub NoBeginning : Type 0
NoBeginning = (s t : List ℕ) → AcceptedWords s → AcceptedWords (s ++ t) → t ≡ []

abbrev pub BeginningRefused : Type 0
BeginningRefused = (s t : List ℕ) → AcceptedWords (s ++ t) → 1 ≤ length t → read_question s ≡ bad (pick (eqb (length s) 0) 1 3)

abbrev pub LongerRefused : Type 0
LongerRefused = (s t : List ℕ) → AcceptedWords s → 1 ≤ length t → read_question (s ++ t) ≡ bad (pick (ltb max_words (length (s ++ t))) 1 11)
