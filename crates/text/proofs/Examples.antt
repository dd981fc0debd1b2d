-- Small texts with open tables, and how they are read. A text is given by its lines; its attribute has width 1.
--   text_of ls    == the text of these lines, each with its end
--   name, zero_line, one_line == the line `a`; the lines `0` and `1`
--   after ls     == how a text of the attribute `a` is read whose first table has these lines after its names
--   open-read    == a line of names and the line `open`: another table after it, or the end
--   open-named   == an attribute may be named `open`: its line of names is followed by the line `open`
--   open-refused == 15 for `open` after a row, twice, with a row after it, with a number or a space beside it; the line of names is asked first: 16
use mathlib.Core.Path.{◌≡◌, refl}
use mathlib.Core.List.{List, [], ◌∷◌, ◌++◌, map}
use Prim.Native.Nat.{ℕ}
use Rattle.questions.specs.Orders.{same}
use Rattle.questions.specs.Questions.{table_with, open_table}
use Rattle.questions.specs.Words.{flat}
use Rattle.fields.specs.Fields.{line_end, space, every, split_from, is_name, is_number, field_number, value_from, place, distinct}
use Rattle.text.specs.Texts.{Ended, ended, read_of, open_word, last_table, on_last, read_lines, read_top, read_text}
use Rattle.text.specs.declared.reader.Next.TheVariants.{Empty, Row}

abbrev text_of : List (List ℕ) → List ℕ
text_of ls = flat (map (λ l. l ++ (line_end ∷ [])) ls)

abbrev name : List ℕ
name = 97 ∷ []

abbrev zero_line : List ℕ
zero_line = 48 ∷ []

abbrev one_line : List ℕ
one_line = 49 ∷ []

abbrev after : List (List ℕ) → Ended
after ls = read_text (text_of (name ∷ (one_line ∷ ([] ∷ (name ∷ ls)))))

pub open-read :
    (after (open_word ∷ ([] ∷ (name ∷ (one_line ∷ [])))) ≡ ended 0 (read_of Row (name ∷ []) (1 ∷ []) (open_table (0 ∷ []) ∷ (table_with (0 ∷ []) ((1 ∷ []) ∷ []) ∷ []))))
    × (after (open_word ∷ []) ≡ ended 0 (read_of Empty (name ∷ []) (1 ∷ []) (open_table (0 ∷ []) ∷ [])))
unfolding read_text read_top read_lines flat last_table on_last same split_from every is_name is_number field_number value_from place distinct
open-read = (refl, refl)

pub open-named : read_text (text_of (open_word ∷ (one_line ∷ ([] ∷ (open_word ∷ (open_word ∷ [])))))) ≡ ended 0 (read_of Empty (open_word ∷ []) (1 ∷ []) (open_table (0 ∷ []) ∷ []))
unfolding read_text read_top read_lines flat last_table on_last same split_from every is_name is_number field_number value_from place distinct
open-named = refl

-- the last text has a table over `b`, which is not at the top
pub open-refused :
    ((after (zero_line ∷ (open_word ∷ []))).number ≡ 15)
    × ((after (open_word ∷ (open_word ∷ []))).number ≡ 15)
    × ((after (open_word ∷ (one_line ∷ []))).number ≡ 15)
    × ((after ((open_word ++ (space ∷ one_line)) ∷ [])).number ≡ 15)
    × ((after ((open_word ++ (space ∷ [])) ∷ [])).number ≡ 15)
    × ((read_text (text_of (name ∷ (one_line ∷ ([] ∷ ((98 ∷ []) ∷ (open_word ∷ (open_word ∷ [])))))))).number ≡ 16)
unfolding read_text read_top read_lines flat last_table on_last same split_from every is_name is_number field_number value_from place distinct
open-refused = (refl, refl, refl, refl, refl, refl)
