-- What the archive relies on.
--   DiffersAt s t i == the word number i is the first at which s and t differ, and both have one
--   FirstDiffers    == of two accepted questions that differ, a first differing word exists
--   Compares s t r  == what an answer says of the two questions, by its case
--   Filed xs        == each question of xs is before all later ones
--   Files           == the order is one: what an archive that is sorted by it relies on
--   Shares s t r    == what is known of the shared beginning r of two questions
use Rattle.std.specs.Prelude.{◌≡◌, ◌⊎◌, ℕ, ◌≤◌, ◌<◌, length, get_or, take}
use mathlib.Core.List.{List, [], ◌++◌, Memᴰ}
use Rattle.questions.specs.Questions.{bad, read_question}
use Rattle.questions.specs.Good.{Ordered}
use Rattle.questions.specs.Beginnings.{AcceptedWords}
use Rattle.filing.specs.Comparisons.{Comparison, Refused, Before, Same, After, mirrored, filing_number, compared, shared_count}

pub record DiffersAt (s t : List ℕ) (i : ℕ) : Type 0 where
  pub in-first : i < length s
  pub in-second : i < length t
  pub alike : take i s ≡ take i t
  pub differ : get_or s i 0 ≡ get_or t i 0 → ⊥

abbrev pub FirstDiffers : Type 0
FirstDiffers = (s t : List ℕ) → AcceptedWords s → AcceptedWords t → (s ≡ t → ⊥) → DiffersAt s t (shared_count s t)

-- each case says what holds of the two questions, and of no two questions two cases hold
pub data Compares (s t : List ℕ) : Comparison → Type 0 where
  first-refused : {n : ℕ} → read_question s ≡ bad n → Compares s t (Refused n)
  second-refused : {n : ℕ} → AcceptedWords s → read_question t ≡ bad n → Compares s t (Refused n)
  is-before : AcceptedWords s → AcceptedWords t → (i : ℕ) → DiffersAt s t i → get_or s i 0 < get_or t i 0 → Compares s t Before
  is_same : AcceptedWords s → s ≡ t → Compares s t Same
  is-after : AcceptedWords s → AcceptedWords t → (i : ℕ) → DiffersAt s t i → get_or t i 0 < get_or s i 0 → Compares s t After

abbrev pub Filed : List (List ℕ) → Type 0
Filed = Ordered (λ s t. compared s t ≡ Before)

pub record Files : Type 0 where
  -- an answer says what holds, and nothing else can be the answer
  pub says : (s t : List ℕ) → Compares s t (compared s t)
  pub only : (s t : List ℕ) (r : Comparison) → Compares s t r → r ≡ compared s t
  -- `same` means equal words
  pub same-words : (s t : List ℕ) → compared s t ≡ Same → s ≡ t
  pub words_same : (s : List ℕ) → AcceptedWords s → compared s s ≡ Same
  -- of two accepted questions one is before the other, or they are the same, whichever is asked first
  pub total : (s t : List ℕ) → AcceptedWords s → AcceptedWords t → (compared s t ≡ Before) ⊎ ((compared s t ≡ Same) ⊎ (compared s t ≡ After))
  pub mirror : (s t : List ℕ) → AcceptedWords s → AcceptedWords t → compared t s ≡ mirrored (compared s t)
  -- what is before one that is before a third is before that
  pub transitive : (s t u : List ℕ) → compared s t ≡ Before → compared t u ≡ Before → compared s u ≡ Before
  -- so the questions of an archive have one order,
  pub one-order : {xs ys : List (List ℕ)} → Filed xs → Filed ys
      → ((s : List ℕ) → Memᴰ s xs → Memᴰ s ys) → ((s : List ℕ) → Memᴰ s ys → Memᴰ s xs) → xs ≡ ys
  -- in which those with the same beginning b stand together: what is between two of them begins so too
  pub together : (b s t u : List ℕ) → compared (b ++ s) t ≡ Before → compared t (b ++ u) ≡ Before → take (length b) t ≡ b

pub record Shares (s t r : List ℕ) : Type 0 where
  -- it is a beginning of both,
  pub of-first : r ≡ take (length r) s
  pub of-second : r ≡ take (length r) t
  -- empty where one is refused,
  pub refused : (filing_number s t ≡ 0 → ⊥) → r ≡ []
  -- else the longest one,
  pub longest : AcceptedWords s → AcceptedWords t → (b u v : List ℕ) → s ≡ b ++ u → t ≡ b ++ v → length b ≤ length r
  -- the whole first question where they are the same,
  pub whole : AcceptedWords s → s ≡ t → r ≡ s
  -- and where they are not, the word after it is the first that differs
  pub differs : AcceptedWords s → AcceptedWords t → (s ≡ t → ⊥) → DiffersAt s t (length r)
