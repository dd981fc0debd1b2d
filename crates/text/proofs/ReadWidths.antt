-- The widths of a text that was read, as many as there are names, and the attributes of its tables.
--   Some n xs        == at least one, and at most n
--   Later n A        == A, once the line of widths is read
--   Measured         == then there are as many widths as names; each table has 1 to as many attributes
--   add_at-measured   == with a line more
--   lines-ended, later-ended == where reading ends without a refusal, no line is missing, so the widths are read
--   Arities names q  == 1 to max_attributes widths, one for each name, and in each table 1 to as many attributes
--   read_text-arities, read_text-widths == so of a text that was read
--   read_text-long    == such a text is not too long
use mathlib.Core.Path.{◌≡◌, ◌∙◌}
use mathlib.Core.Bool.{true}
use mathlib.Core.List.{List, [], ◌∷◌}
use Prim.Native.Nat.{ℕ, ◌≤◌}
use native.Mathlib.Omega.{arith}
use borrow.Author.Tests.{eqb-true, eqb-false, leb-true, ltb-false}
use lib.Dec.{eqb, ltb, leb}
use lib.ListN.{length, length-map}
use Rattle.boxes.specs.Limits.{max_attributes}
use Rattle.boxes.specs.Fits.{Each, none}
use Rattle.boxes.proofs.Tests.{by, and_left, and_right}
use Rattle.boxes.proofs.Lists.{each-end}
use Rattle.questions.specs.Orders.{same}
use Rattle.questions.specs.Questions.{Contents, unfilled, Question}
use Rattle.fields.specs.Limits.{max_bytes}
use Rattle.fields.specs.Fields.{space, place, fields_of, field_number}
use Rattle.fields.specs.Names.{are_names}
use Rattle.fields.specs.Lines.{numbers_of, places_of}
use Rattle.fields.proofs.Laws.{split-some, form-right, first-form, TopNames, top_check-names}
use Rattle.text.specs.Texts.{Read, are_numbers, is_empty, open_word, check_at, on_last, row_added, add_at, line_check, line_add, may_end, read_lines, read_text, top_read}
use Rattle.text.specs.Claims.{names_of}
use Rattle.text.specs.declared.reader.Next.{Next}
use Rattle.text.specs.declared.reader.Next.TheVariants.{Widths, Empty, Names, Row}
use Rattle.text.proofs.Keeps.{text-cases, lines_keep}
use Rattle.text.proofs.ReadNames.{add_at-names}
use Rattle.text.proofs.LastTables.{on_last-each}

-- ---- line by line

abbrev Some : ℕ → List ℕ → Type 0
Some n xs = (1 ≤ length xs) × (length xs ≤ n)

-- once the line of widths is read
abbrev Later : Next → Type 0 → Type 0
Later Widths A = Unit
Later Empty A = A
Later Names A = A
Later Row A = A

record Measured (n : Next) (names : List (List ℕ)) (q : Question) : Type 0 where
  pub widths : Later n (length q.widths ≡ length names)
  pub tables : Each (λ t. Some (length names) t.attributes) q.tables

abbrev MeasuredRead : Read → Type 0
MeasuredRead r = Measured r.next r.names r.question

add_at-measured : (n : Next) (r : Read) (l : List ℕ) → check_at n r l ≡ 0 → Measured n r.names r.question → MeasuredRead (add_at n r.names r.question l)
add_at-measured Widths r l e h =
    let numbers : are_numbers (length r.names) (fields_of l) ≡ true = form-right _ e in
    let many : length (fields_of l) ≡ length r.names = eqb-true (length (fields_of l)) (length r.names) (and_left (eqb (length (fields_of l)) (length r.names)) _ numbers) in
    record { widths = length-map (fields_of l) field_number ∙ many; tables = none }
add_at-measured Empty r l e h = record { widths = h.widths; tables = h.tables }
add_at-measured Names r l e h =
    let n : ℕ = length r.names in
    let names : are_names n (fields_of l) ≡ true = first-form (are_names n (fields_of l)) _ e in
    let few : length (fields_of l) ≤ n = leb-true (length (fields_of l)) n (and_left (leb (length (fields_of l)) n) _ names) in
    let long : length (places_of r.names l) ≡ length (fields_of l) = length-map (fields_of l) (λ f. place f r.names) in
    record { widths = h.widths; tables = each-end h.tables (omega (arith, split-some space l), omega arith) }
add_at-measured Row r l e h =
    let kept : (f : Contents → Contents) → Each (λ t. Some (length r.names) t.attributes) (on_last f r.question.tables) =
    λ f. on_last-each (λ xs c. Some (length r.names) xs) f r.question.tables (λ s. s) h.tables in
    by (is_empty l)
    (λ t. rw t (record { widths = h.widths; tables = h.tables }))
    (λ f.
    by (same l open_word)
    (λ o. rw (f, o) (record { widths = h.widths; tables = kept (λ c. unfilled) }))
    (λ o. rw (f, o) (record { widths = h.widths; tables = kept (row_added (numbers_of l)) })))

lines-ended : (r : Read) (ls : List (List ℕ)) → (read_lines r ls).number ≡ 0 → may_end (read_lines r ls).read.next ≡ true
unfolding read_lines
lines-ended r [] e = form-right _ e
lines-ended r (l ∷ []) e = and_right (is_empty l) _ (form-right _ e)
lines-ended r (l ∷ (m ∷ ls)) e =
    by (eqb (line_check r l) 0)
    (λ t. rw t (lines-ended (line_add r l) (m ∷ ls) (rw t at e)))
    (λ f. absurd (eqb-false (line_check r l) 0 f (rw f at e)))

later-ended : {A : Type 0} (n : Next) → may_end n ≡ true → Later n A → A
later-ended Widths e h = let z : ◌≡◌ {A = ℕ} 0 1 = cc in absurd (omega arith)
later-ended Empty e h = h
later-ended Names e h = h
later-ended Row e h = h

-- ---- the text

pub record Arities (names : List (List ℕ)) (q : Question) : Type 0 where
  pub named : length q.widths ≡ length names
  pub some : 1 ≤ length q.widths
  pub few : length q.widths ≤ max_attributes
  pub tables : Each (λ t. Some (length q.widths) t.attributes) q.tables

pub read_text-arities : (s : List ℕ) → (read_text s).number ≡ 0 → Arities (names_of s) (read_text s).read.question
read_text-arities =
    text-cases (λ e. e.number ≡ 0 → Arities e.read.names e.read.question) (λ n f e. absurd (f e)) (λ l ls t e.
    let end : Read = (read_lines (top_read l) ls).read in
    let kept = lines_keep (λ r. TopNames r.names × MeasuredRead r)
    (λ r m c h. (rw (add_at-names r.next r.names r.question m) h.0, add_at-measured r.next r m c h.1))
    (top_read l) ls (top_check-names l t, record { widths = tt; tables = none }) in
    let all : length end.question.widths ≡ length end.names = later-ended end.next (lines-ended (top_read l) ls e) kept.1.widths in
    record { named = all; some = omega (arith, kept.0.some); few = omega (arith, kept.0.few); tables = rw all kept.1.tables })

pub read_text-widths : (s : List ℕ) → (read_text s).number ≡ 0 → 1 ≤ length (read_text s).read.question.widths
read_text-widths s e = (read_text-arities s e).some

pub read_text-long : (s : List ℕ) → (read_text s).number ≡ 0 → length s ≤ max_bytes
unfolding read_text
read_text-long s e = by (ltb max_bytes (length s)) (λ t. absurd (omega (arith, rw t at e))) (λ f. ltb-false max_bytes (length s) f)
