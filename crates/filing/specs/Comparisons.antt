-- The order by which the archive files accepted questions, and the beginning that two of them share (request W13).
--   Comparison, comparison_of r == what the comparison of two questions says; that of an answer
--   comparison_number r  == the paper's number of an answer: the refusal's, and 0 where both questions are accepted
--   comparison_case r    == its case as a number: 1 before, 2 same, 3 after, 0 refused
--   mirrored r          == the answer with the two questions exchanged
--   filing_number s t    == the first one's refusal, else the second's; 0 where both are accepted
--   by_words s t         == the first differing word decides
--   compared s t        == the comparison of two questions, refused ones too
--   shared_count s t     == how many words the two have alike before the first that differs, or before one of them ends
--   shared_beginning s t == the longest shared beginning, a part of the first: the longest common prefix
--   shared_of s t        == that of two accepted questions; where one is refused, the first one's empty beginning
use Rattle.std.specs.Prelude.{List, [], ◌∷◌, ℕ, suc, eqb, take, Ok, Err}
use Rattle.std.specs.declared.cmp.Ordering.{Ordering}
use Rattle.std.specs.declared.cmp.Ordering.TheVariants.{Less, Equal, Greater}
use Rattle.boxes.specs.Intervals.{pick}
use Rattle.questions.specs.Orders.{same, before}
use Rattle.questions.specs.Refusals.{refusal_number, Reading}
use Rattle.questions.specs.Questions.{first_of, read_question, number_of}

-- a refusal's number, or where the first question stands beside the second
pub data Comparison : Type 0 where
  Refused : ℕ → Comparison
  Before : Comparison
  Same : Comparison
  After : Comparison

-- as the code answers it
abbrev pub comparison_of : Reading Ordering → Comparison
comparison_of (Err r) = Refused (refusal_number r)
comparison_of (Ok Less) = Before
comparison_of (Ok Equal) = Same
comparison_of (Ok Greater) = After

abbrev pub comparison_number : Comparison → ℕ
comparison_number (Refused n) = n
comparison_number Before = 0
comparison_number Same = 0
comparison_number After = 0

abbrev pub comparison_case : Comparison → ℕ
comparison_case (Refused n) = 0
comparison_case Before = 1
comparison_case Same = 2
comparison_case After = 3

abbrev pub mirrored : Comparison → Comparison
mirrored (Refused n) = Refused n
mirrored Before = After
mirrored Same = Same
mirrored After = Before

-- the first one's number is given, else the second's
abbrev pub filing_number : List ℕ → List ℕ → ℕ
filing_number s t = first_of (number_of (read_question s)) (number_of (read_question t))

-- the first differing word decides
unfoldable pub by_words : List ℕ → List ℕ → Comparison
by_words s t = pick (same s t) Same (pick (before s t) Before After)

unfoldable pub compared : List ℕ → List ℕ → Comparison
compared s t = pick (eqb (filing_number s t) 0) (by_words s t) (Refused (filing_number s t))

unfoldable pub shared_count : List ℕ → List ℕ → ℕ
shared_count [] t = 0
shared_count (x ∷ s) [] = 0
shared_count (x ∷ s) (y ∷ t) = pick (eqb x y) (suc (shared_count s t)) 0

abbrev pub shared_beginning : List ℕ → List ℕ → List ℕ
shared_beginning s t = take (shared_count s t) s

unfoldable pub shared_of : List ℕ → List ℕ → List ℕ
shared_of s t = pick (eqb (filing_number s t) 0) (shared_beginning s t) []
