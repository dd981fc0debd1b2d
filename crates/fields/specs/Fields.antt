-- Bytes, lines and fields of a text.
--   space, line_end   == the byte between two fields, the byte that ends a line
--   is_letter, is_digit, class_of == what a byte is
--   every p xs       == each of xs passes a test
--   split c s        == the parts of s between the bytes c: one more than there are such bytes (split_from, after part of one)
--   lines_of s        == the lines of a text, without their ends; the last part is what follows the last line's end
--   fields_of l       == the fields of a line
--   is_name f         == 1 to 12 small letters
--   value_from v f    == the number whose digits are those of v and then f
--   is_number f       == a number from 0 to 65,535 without leading zeros
--   field_number f    == that number; 0 where the field is none
--   place f fs       == the first place of a field among others, how many these are where it is none of them
--   is_one fs f       == it is one of them
--   distinct fs      == no field stands twice
use Rattle.std.specs.Prelude.{Bool, true, ◌&&◌, ◌||◌, not, List, [], ◌∷◌, ◌++◌, ℕ, suc, ◌+◌, ◌-◌, ◌*◌, eqb, ltb, leb, length, get_or}
unfoldable pub use Rattle.boxes.specs.Every.{every}
use Rattle.boxes.specs.Intervals.{pick}
use Rattle.questions.specs.Orders.{same}
use Rattle.fields.specs.Limits.{max_name, max_value}
use Rattle.fields.specs.declared.field.Class.{Class}
use Rattle.fields.specs.declared.field.Class.TheVariants.{Letter, Digit, Space, LineEnd, Other}

abbrev pub space : ℕ
space = 32

abbrev pub line_end : ℕ
line_end = 10

abbrev pub is_letter : ℕ → Bool
is_letter b = leb 97 b && leb b 122

abbrev pub is_digit : ℕ → Bool
is_digit b = leb 48 b && leb b 57

-- a small letter, a digit, a space or the line's end
unfoldable pub class_of : ℕ → Class
class_of b = pick (is_letter b) Letter (pick (is_digit b) Digit (pick (eqb b space) Space (pick (eqb b line_end) LineEnd Other)))

-- f is what was read of the part that is open
unfoldable pub split_from : ℕ → List ℕ → List ℕ → List (List ℕ)
split_from c f [] = f ∷ []
split_from c f (b ∷ s) = pick (eqb b c) (f ∷ split_from c [] s) (split_from c (f ++ (b ∷ [])) s)

abbrev pub split : ℕ → List ℕ → List (List ℕ)
split c s = split_from c [] s

abbrev pub lines_of : List ℕ → List (List ℕ)
lines_of s = split line_end s

-- one space parts two fields
abbrev pub fields_of : List ℕ → List (List ℕ)
fields_of l = split space l

-- names have 1 to 12 small letters
unfoldable pub is_name : List ℕ → Bool
is_name f = leb 1 (length f) && (leb (length f) max_name && every is_letter f)

unfoldable pub value_from : ℕ → List ℕ → ℕ
value_from v [] = v
value_from v (b ∷ f) = value_from (v * 10 + (b - 48)) f

-- numbers from 0 to 65,535 without leading zeros
unfoldable pub is_number : List ℕ → Bool
is_number f = leb 1 (length f) && (every is_digit f && ((eqb (length f) 1 || not (eqb (get_or f 0 0) 48)) && leb (value_from 0 f) max_value))

unfoldable pub field_number : List ℕ → ℕ
field_number f = pick (is_number f) (value_from 0 f) 0

unfoldable pub place : List ℕ → List (List ℕ) → ℕ
place f [] = 0
place f (g ∷ gs) = pick (same f g) 0 (suc (place f gs))

abbrev pub is_one : List (List ℕ) → List ℕ → Bool
is_one fs f = ltb (place f fs) (length fs)

unfoldable pub distinct : List (List ℕ) → Bool
distinct [] = true
distinct (f ∷ fs) = not (is_one fs f) && distinct fs
