-- What the public functions promise.
--   CompareSays s t r   == the comparison that `compare_questions` answers, and its number
--   filing_comparison r, filing_shared r == of an answer of `filing_of`: the comparison, and how many words the shared beginning has
--   FilingSays s t r    == what `filing_of` answers: the comparison and the length of the shared beginning
use Rattle.std.specs.Prelude.{◌≡◌, List, ℕ, length, Ok, Err}
use Rattle.questions.specs.Refusals.{refusal_number, Reading}
use Rattle.filing.specs.Comparisons.{Comparison, Refused, comparison_of, comparison_number, filing_number, compared, shared_of}
use Rattle.filing.specs.declared.compare.Filing.{Filing}

pub record CompareSays (s t : List ℕ) (r : Comparison) : Type 0 where
  pub answer : r ≡ compared s t
  pub number : comparison_number r ≡ filing_number s t

abbrev pub filing_comparison : Reading Filing → Comparison
filing_comparison (Ok f) = comparison_of (Ok f.order)
filing_comparison (Err r) = Refused (refusal_number r)

abbrev pub filing_shared : Reading Filing → ℕ
filing_shared (Ok f) = f.shared
filing_shared (Err r) = 0

pub record FilingSays (s t : List ℕ) (r : Reading Filing) : Type 0 where
  pub comparison : filing_comparison r ≡ compared s t
  pub number : comparison_number (filing_comparison r) ≡ filing_number s t
  pub shared : filing_shared r ≡ length (shared_of s t)
