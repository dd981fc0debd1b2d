-- The number for a line, from the tests that the code makes.
--   numbers-wrong == a line with a field that is no number is no line of numbers
--   row-empty, open-empty == an empty line is no line of numbers, and not `open`
--   numbers-not-open      == a line of numbers is not `open`
--   RowLine ts l, row-passed == what a line is that passes where a row may come: it begins a table, it is `open`, or it is a row
use mathlib.Core.Path.{◌≡◌, refl, ap}
use mathlib.Core.Bool.{true, false, ◌||◌, and-false}
use mathlib.Core.List.{List, [], ◌∷◌}
use Prim.Native.Nat.{ℕ}
use native.Mathlib.Omega.{arith}
use borrow.Author.Tests.{eqb-true}
use lib.Dec.{eqb}
use lib.ListN.{length}
use Rattle.boxes.proofs.Tests.{by, either, clash, and_left, and_right, or_cases}
use Rattle.questions.specs.Orders.{same}
use Rattle.questions.specs.Questions.{Table}
use Rattle.questions.proofs.Laws.{same-is}
use Rattle.fields.specs.Fields.{every, split_from, fields_of, is_number}
use Rattle.fields.proofs.Laws.{form-right}
use Rattle.text.specs.Texts.{Read, are_numbers, is_empty, begins, open_word, last_table, last_arity, no_rows, leaves_open, check_at}
use Rattle.text.specs.declared.reader.Next.TheVariants.{Row}

module _ (n : ℕ) (fs : List (List ℕ)) where
  pub numbers-wrong : every is_number fs ≡ false → are_numbers n fs ≡ false
  numbers-wrong e = rw e (and-false (eqb (length fs) n))

pub row-empty : (l : List ℕ) → length l ≡ 0 → every is_number (fields_of l) ≡ false
unfolding every split_from is_number
row-empty [] e = refl
row-empty (b ∷ l) e = absurd (omega arith)

pub open-empty : (l : List ℕ) → length l ≡ 0 → same l open_word ≡ false
unfolding same
open-empty [] e = refl
open-empty (b ∷ l) e = absurd (omega arith)

pub numbers-not-open : (l : List ℕ) → every is_number (fields_of l) ≡ true → same l open_word ≡ false
unfolding every split_from is_number
numbers-not-open l e = by (same l open_word) (λ t. clash e (ap (λ (m : List ℕ). every is_number (fields_of m)) (same-is l open_word t))) (λ f. f)

-- ---- a line where a row may come

pub data RowLine (ts : List Table) (l : List ℕ) : Type 0 where
  begins-table : is_empty l ≡ true → begins ts l ≡ true → RowLine ts l
  is_open : is_empty l ≡ false → same l open_word ≡ true → RowLine ts l
  is_row : is_empty l ≡ false → same l open_word ≡ false → are_numbers (last_arity ts) (fields_of l) ≡ true → RowLine ts l

pub row-passed : (r : Read) (l : List ℕ) → check_at Row r l ≡ 0 → RowLine r.question.tables l
row-passed r l e =
    let ts = r.question.tables in
    let n : ℕ = last_arity ts in
    let numbers = are_numbers n (fields_of l) in
    let all = every is_number (fields_of l) in
    either (or_cases (begins ts l) (leaves_open ts l || numbers) (form-right _ e))
    (λ b. begins-table (and_left (is_empty l) _ b) b)
    (λ o. either (or_cases (leaves_open ts l) numbers o)
    (λ s. let word = and_right (no_rows (last_table ts).contents) (same l open_word) s in
    is_open (by (is_empty l) (λ t. clash word (open-empty l (eqb-true (length l) 0 t))) (λ f. f)) word)
    (λ m. let each = and_right (eqb (length (fields_of l)) n) all m in
    is_row (by (is_empty l) (λ t. clash each (row-empty l (eqb-true (length l) 0 t))) (λ f. f)) (numbers-not-open l each) m))
