-- The question that a text is read into is shaped: each row has as many values as its table has attributes; and none of its tables is a range table.
--   Plain k c      == both, of what a table of k attributes has
--   row_added-plain == with a row more
--   add_at-plain    == with a line more
--   read_text-shaped, read_text-rangeless == so for every text, also where it is refused
use mathlib.Core.Path.{◌≡◌, refl, ◌∙◌}
use mathlib.Core.Bool.{false}
use mathlib.Core.List.{List}
use Prim.Native.Nat.{ℕ}
use borrow.Author.Tests.{eqb-true}
use lib.Dec.{eqb}
use lib.ListN.{length, length-map}
use Rattle.boxes.specs.Fits.{Each, none}
use Rattle.boxes.proofs.Tests.{and_left}
use Rattle.boxes.proofs.Lists.{each-end, each-imp}
use Rattle.questions.specs.Questions.{Contents, with_rows, unfilled, with_pairs, Question, has_pairs}
use Rattle.questions.specs.Words.{Even, Shaped}
use Rattle.fields.specs.Fields.{fields_of, field_number}
use Rattle.fields.specs.Lines.{numbers_of}
use Rattle.text.specs.Texts.{Read, last_table, last_arity, check_at, row_added, add_at, read_text}
use Rattle.text.specs.declared.reader.Next.{Next}
use Rattle.text.specs.declared.reader.Next.TheVariants.{Widths, Empty, Names, Row}
use Rattle.text.proofs.Keeps.{text-keeps}
use Rattle.text.proofs.Checks.{RowLine, begins-table, is_open, is_row, row-passed}
use Rattle.text.proofs.LastTables.{on_last-each}

abbrev Plain : ℕ → Contents → Type 0
Plain k c = Even k c × (has_pairs c ≡ false)

-- a row more has as many values as the others
row_added-plain : (k : ℕ) (x : List ℕ) (c : Contents) → length x ≡ k → Plain k c → Plain k (row_added x c)
row_added-plain k x (with_rows rs) e h = (each-end h.0 e, refl)
row_added-plain k x unfilled e h = h
row_added-plain k x (with_pairs ps) e h = h

abbrev PlainOver : List ℕ → Contents → Type 0
PlainOver xs c = Plain (length xs) c

abbrev AllPlain : Question → Type 0
AllPlain q = Each (λ t. PlainOver t.attributes t.contents) q.tables

add_at-plain : (n : Next) (r : Read) (l : List ℕ) → check_at n r l ≡ 0 → AllPlain r.question → AllPlain (add_at n r.names r.question l).question
add_at-plain Widths r l e s = none
add_at-plain Empty r l e s = s
add_at-plain Names r l e s = each-end s (none, refl)
add_at-plain Row r l e s = by-line (row-passed r l e)
  where
    by-line : RowLine r.question.tables l → AllPlain (add_at Row r.names r.question l).question
    by-line (begins-table t b) = rw t s
    by-line (is_open f o) = rw (f, o) (on_last-each PlainOver (λ c. unfilled) r.question.tables (λ h. (tt, refl)) s)
    by-line (is_row f o n) =
        let ts = r.question.tables in
        let long : length (numbers_of l) ≡ last_arity ts = length-map (fields_of l) field_number ∙ eqb-true (length (fields_of l)) (last_arity ts) (and_left (eqb (length (fields_of l)) (last_arity ts)) _ n) in
        rw (f, o) (on_last-each PlainOver (row_added (numbers_of l)) ts (λ h. row_added-plain (last_arity ts) (numbers_of l) (last_table ts).contents long h) s)

read_text-plain : (s : List ℕ) → AllPlain (read_text s).read.question
read_text-plain s = text-keeps (λ r. AllPlain r.question) (λ r l e h. add_at-plain r.next r l e h) none (λ l e. none) s

pub read_text-shaped : (s : List ℕ) → Shaped (read_text s).read.question
read_text-shaped s = each-imp (λ t h. h.0) (read_text-plain s)

pub read_text-rangeless : (s : List ℕ) → Each (λ t. has_pairs t.contents ≡ false) (read_text s).read.question.tables
read_text-rangeless s = each-imp (λ t h. h.1) (read_text-plain s)
