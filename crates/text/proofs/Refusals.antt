-- The numbers of a text's refusals.
--   read_text-numbers == what holds of 0, 15, 16 and 17 holds of the number that reading ends with
--   read_text-few == none is above 17
use mathlib.Core.Bool.{Bool, true, false, ◌&&◌, ◌||◌, not}
use mathlib.Core.List.{List, [], ◌∷◌}
use Prim.Native.Nat.{ℕ, ◌≤◌}
use native.Mathlib.Omega.{arith}
use lib.Dec.{eqb, ltb}
use lib.ListN.{length}
use Rattle.boxes.specs.Limits.{max_attributes}
use Rattle.boxes.proofs.Tests.{by}
use Rattle.questions.specs.Questions.{when, first_of}
use Rattle.fields.specs.Limits.{max_bytes}
use Rattle.fields.specs.Fields.{lines_of, fields_of, every, is_one, distinct}
use Rattle.fields.specs.Names.{form, are_names, top_check}
use Rattle.text.specs.Texts.{Read, are_numbers, is_empty, begins, leaves_open, last_arity, check_at, line_check, line_add, may_end, read_lines, read_top, read_text, top_read}
use Rattle.text.specs.declared.reader.Next.{Next}
use Rattle.text.specs.declared.reader.Next.TheVariants.{Widths, Empty, Names, Row}

-- a fact of these numbers
module _ (P : ℕ → Type 0) (read : P 0) (no-form : P 15) (wrong-names : P 16) (too_long : P 17) where
  form-number : (b : Bool) → P (form b)
  form-number true = read
  form-number false = no-form

  -- has it its form? Is it right then?
  checks-number : (b c : Bool) → P (first_of (form b) (when c 16))
  checks-number true true = wrong-names
  checks-number true false = read
  checks-number false c = no-form

  check_at-number : (n : Next) (r : Read) (l : List ℕ) → P (check_at n r l)
  check_at-number Widths r l = form-number (are_numbers (length r.names) (fields_of l))
  check_at-number Empty r l = form-number (begins r.question.tables l)
  check_at-number Names r l = checks-number (are_names (length r.names) (fields_of l)) (not (distinct (fields_of l) && every (is_one r.names) (fields_of l)))
  check_at-number Row r l = form-number (begins r.question.tables l || (leaves_open r.question.tables l || are_numbers (last_arity r.question.tables) (fields_of l)))

  lines-number : (r : Read) (ls : List (List ℕ)) → P (read_lines r ls).number
  unfolding read_lines
  lines-number r [] = form-number (may_end r.next)
  lines-number r (l ∷ []) = form-number (is_empty l && may_end r.next)
  lines-number r (l ∷ (m ∷ ls)) = by (eqb (line_check r l) 0) (λ t. rw t (lines-number (line_add r l) (m ∷ ls))) (λ f. rw f (check_at-number r.next r l))

  top-number : (ls : List (List ℕ)) → P (read_top ls).number
  unfolding read_top
  top-number [] = no-form
  top-number (l ∷ []) = no-form
  top-number (l ∷ (m ∷ ls)) =
      by (eqb (top_check l) 0)
      (λ t. rw t (lines-number (top_read l) (m ∷ ls)))
      (λ f. rw f (checks-number (are_names max_attributes (fields_of l)) (not (distinct (fields_of l)))))

  pub read_text-numbers : (s : List ℕ) → P (read_text s).number
  unfolding read_text
  read_text-numbers s = by (ltb max_bytes (length s)) (λ t. rw t too_long) (λ f. rw f (top-number (lines_of s)))

pub read_text-few : (s : List ℕ) → (read_text s).number ≤ 17
read_text-few s = read_text-numbers (λ n. n ≤ 17) (omega arith) (omega arith) (omega arith) (omega arith) s
