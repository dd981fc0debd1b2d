-- How a text is read: line by line, with the refusals 15, 16 and 17, into a question.
--   Read              == which line comes next (the widths, the empty line before a table, a table's names, or a row, `open` right after the names, or an
--                        empty line), the names at the top, and the question as far as it was read
--   Ended             == how reading ended: 0 or the refusal's number, and what was read by then
--   ended, read_of     == these, of their parts
--   are_numbers n fs   == a line of n numbers
--   is_empty l, begins ts l == an empty line; one that begins one more table, of which there are at most 16
--   open_word          == the line of an open table
--   last_table ts, last_arity ts == the last table; how many attributes it has
--   no_rows c, leaves_open ts l == no row was read yet; so of the last table, and the line says that it is open
--   on_last f ts       == the tables, with f of what the last one has
--   row_added x c, with_row ts x, left_open ts == one row more; so of the last table; the last table as an open one
--   table_line names q l == what was read, with a line of the last table: `open`, or a row
--   names_check names l == the number for a table's line of names
--   line_check r l     == the number for a line after the top line, by which line comes next (check_at)
--   line_add r l       == what was read, with a line that passed, by which line comes next (add_at)
--   may_end n          == no line is missing
--   read_lines r ls    == the lines that follow, one after the other
--   nothing, top_read l == what was read before the first line; after the top line l
--   read_top, read_text s == the whole text
--   words_read r       == the words of what was read
use Rattle.std.specs.Prelude.{Bool, true, false, ◌&&◌, ◌||◌, not, List, [], ◌∷◌, ◌++◌, ℕ, eqb, ltb, length}
use Rattle.boxes.specs.Intervals.{pick}
use Rattle.questions.specs.Limits.{max_tables}
use Rattle.questions.specs.Orders.{same}
use Rattle.questions.specs.Questions.{Contents, with_rows, unfilled, with_pairs, Table, table_with, Question, when, first_of}
use Rattle.questions.specs.Words.{words_of}
use Rattle.fields.specs.Limits.{max_bytes}
use Rattle.fields.specs.Fields.{every, lines_of, fields_of, is_number, is_one, distinct}
use Rattle.fields.specs.Lines.{numbers_of, places_of}
use Rattle.fields.specs.Names.{form, are_names, top_check}
use Rattle.text.specs.declared.reader.Next.{Next}
use Rattle.text.specs.declared.reader.Next.TheVariants.{Widths, Empty, Names, Row}

pub record Read : Type 0 where
  pub next : Next
  pub names : List (List ℕ)
  pub question : Question

pub record Ended : Type 0 where
  pub number : ℕ
  pub read : Read

abbrev pub ended : ℕ → Read → Ended
ended n r = record { number = n; read = r }

abbrev pub read_of : Next → List (List ℕ) → List ℕ → List Table → Read
read_of next names ws ts = record { next = next; names = names; question = record { widths = ws; tables = ts } }

-- as many numbers
abbrev pub are_numbers : ℕ → List (List ℕ) → Bool
are_numbers n fs = eqb (length fs) n && every is_number fs

-- has it its form? 15; are its names distinct and known from the top? 16
abbrev pub names_check : List (List ℕ) → List ℕ → ℕ
names_check names l = first_of (form (are_names (length names) (fields_of l))) (when (not (distinct (fields_of l) && every (is_one names) (fields_of l))) 16)

abbrev pub is_empty : List ℕ → Bool
is_empty l = eqb (length l) 0

-- at most 16 tables
abbrev pub begins : List Table → List ℕ → Bool
begins ts l = is_empty l && ltb (length ts) max_tables

-- the bytes of `open`
abbrev pub open_word : List ℕ
open_word = 111 ∷ 112 ∷ 101 ∷ 110 ∷ []

unfoldable pub last_table : List Table → Table
last_table [] = table_with [] []
last_table (t ∷ []) = t
last_table (t ∷ (u ∷ ts)) = last_table (u ∷ ts)

abbrev pub last_arity : List Table → ℕ
last_arity ts = length (last_table ts).attributes

-- a text has no pairs
abbrev pub no_rows : Contents → Bool
no_rows (with_rows rs) = eqb (length rs) 0
no_rows unfilled = false
no_rows (with_pairs ps) = false

-- `open` alone, right after the names
abbrev pub leaves_open : List Table → List ℕ → Bool
leaves_open ts l = no_rows (last_table ts).contents && same l open_word

-- by which line comes next
abbrev pub check_at : Next → Read → List ℕ → ℕ
check_at Widths r l = form (are_numbers (length r.names) (fields_of l))
check_at Empty r l = form (begins r.question.tables l)
check_at Names r l = names_check r.names l
check_at Row r l = form (begins r.question.tables l || (leaves_open r.question.tables l || are_numbers (last_arity r.question.tables) (fields_of l)))

abbrev pub line_check : Read → List ℕ → ℕ
line_check r l = check_at r.next r l

unfoldable pub on_last : (Contents → Contents) → List Table → List Table
on_last f [] = []
on_last f (t ∷ []) = record { attributes = t.attributes; contents = f t.contents } ∷ []
on_last f (t ∷ (u ∷ ts)) = t ∷ on_last f (u ∷ ts)

-- no row follows `open`, and a text has no pairs
abbrev pub row_added : List ℕ → Contents → Contents
row_added x (with_rows rs) = with_rows (rs ++ (x ∷ []))
row_added x unfilled = unfilled
row_added x (with_pairs ps) = with_pairs ps

abbrev pub with_row : List Table → List ℕ → List Table
with_row ts x = on_last (row_added x) ts

abbrev pub left_open : List Table → List Table
left_open ts = on_last (λ c. unfilled) ts

abbrev pub table_line : List (List ℕ) → Question → List ℕ → Read
table_line names q l = pick (same l open_word) (read_of Empty names q.widths (left_open q.tables)) (read_of Row names q.widths (with_row q.tables (numbers_of l)))

-- the places of a table's names at the top are its attribute numbers
abbrev pub add_at : Next → List (List ℕ) → Question → List ℕ → Read
add_at Widths names q l = read_of Empty names (numbers_of l) []
add_at Empty names q l = read_of Names names q.widths q.tables
add_at Names names q l = read_of Row names q.widths (q.tables ++ (table_with (places_of names l) [] ∷ []))
add_at Row names q l = pick (is_empty l) (read_of Names names q.widths q.tables) (table_line names q l)

abbrev pub line_add : Read → List ℕ → Read
line_add r l = add_at r.next r.names r.question l

-- a missing line has no form: widths, and names after an empty line, have to come
abbrev pub may_end : Next → Bool
may_end Widths = false
may_end Empty = true
may_end Names = false
may_end Row = true

-- every line has its end, so nothing follows the last one's
unfoldable pub read_lines : Read → List (List ℕ) → Ended
read_lines r [] = ended (form (may_end r.next)) r
read_lines r (l ∷ []) = ended (form (is_empty l && may_end r.next)) r
read_lines r (l ∷ (m ∷ ls)) = pick (eqb (line_check r l) 0) (read_lines (line_add r l) (m ∷ ls)) (ended (line_check r l) r)

abbrev pub nothing : Read
nothing = read_of Widths [] [] []

-- after a top line that passed
abbrev pub top_read : List ℕ → Read
top_read l = read_of Widths (fields_of l) [] []

unfoldable pub read_top : List (List ℕ) → Ended
read_top [] = ended 15 nothing
read_top (l ∷ []) = ended 15 nothing
read_top (l ∷ (m ∷ ls)) = pick (eqb (top_check l) 0) (read_lines (top_read l) (m ∷ ls)) (ended (top_check l) nothing)

-- at most 60,000 bytes? 17
unfoldable pub read_text : List ℕ → Ended
read_text s = pick (ltb max_bytes (length s)) (ended 17 nothing) (read_top (lines_of s))

-- no word before the widths are read
abbrev pub words_read : Read → List ℕ
words_read r = pick (is_empty r.question.widths) [] (words_of r.question)
