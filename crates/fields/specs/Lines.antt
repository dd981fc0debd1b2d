-- The fields of a line as the code answers them.
--   number_in f        == the number that a field is, or that it is none
--   is_right x, value_in x == a field that stands for something; for what, or 0
--   place_in fs f      == the place of a field among others, or that it is none of them
--   place_told r       == the place of a field among others, or how many these are
--   values xs         == the first of some values, in an array
--   numbers_of l, places_of names l == the numbers of a line; the places of its names among others
--   numbers_in n l     == the numbers of a line of n of them, or that it is none; numbers_by n x: by what there is to say of the line
--   low_place p        == a place as a value: the highest value for one that is no value
--   places_in top l    == the places of a line's names among those of the line top, or that one is none of these
--   name_line l        == how many fields a line has, whether all are names, and whether no two are the same
--   value_line n b vs  == a line's fields: how many they are, whether each is right, and the array of values
--   values_of b xs     == how many values a line's fields have, b: whether each field is right, and their values
--   number_line l      == the numbers of a line
--   place_line top n l == the places of a line's names among those of the line top, right where they are below n
use Rattle.std.specs.Prelude.{Bool, true, false, ◌&&◌, List, map, ℕ, eqb, ltb, length, take, Option, Some, None, Result, Ok, Err}
use Rattle.boxes.specs.Limits.{max_attributes}
use Rattle.boxes.specs.Intervals.{pick}
use Rattle.questions.specs.Directories.{filled_to}
use Rattle.fields.specs.Limits.{max_value, at_most}
use Rattle.fields.specs.declared.lines.NameLine.{NameLine}
use Rattle.fields.specs.declared.lines.ValueLine.{ValueLine}
use Rattle.fields.specs.Fields.{every, fields_of, is_name, is_number, field_number, place, is_one, distinct}

abbrev pub number_in : List ℕ → Option ℕ
number_in f = pick (is_number f) (Some (field_number f)) None

abbrev pub is_right : Option ℕ → Bool
is_right (Some v) = true
is_right None = false

abbrev pub value_in : Option ℕ → ℕ
value_in (Some v) = v
value_in None = 0

abbrev pub place_in : List (List ℕ) → List ℕ → Option ℕ
place_in fs f = pick (is_one fs f) (Some (place f fs)) None

-- the place of a field, or how many there are, where it is none of them
abbrev pub place_told : Result ℕ ℕ → ℕ
place_told (Ok p) = p
place_told (Err n) = n

abbrev pub values : List ℕ → List ℕ
values xs = filled_to max_attributes 0 (take max_attributes xs)

abbrev pub numbers_of : List ℕ → List ℕ
numbers_of l = map field_number (fields_of l)

abbrev pub places_of : List (List ℕ) → List ℕ → List ℕ
places_of names l = map (λ f. place f names) (fields_of l)

abbrev pub numbers_in : ℕ → List ℕ → Option (List ℕ)
numbers_in n l = pick (eqb (length (fields_of l)) n && every is_number (fields_of l)) (Some (values (numbers_of l))) None

-- the same by what there is to say of a line
abbrev pub numbers_by : ℕ → ValueLine → Option (List ℕ)
numbers_by n x = pick (eqb x.count n && x.right) (Some x.values) None

unfoldable pub low_place : ℕ → ℕ
low_place p = at_most max_value p

abbrev pub places_in : List ℕ → List ℕ → Option (List ℕ)
places_in top l = pick (every (is_one (fields_of top)) (fields_of l)) (Some (values (map (λ f. low_place (place f (fields_of top))) (fields_of l)))) None

-- what there is to say of a line, whether it is right or not
abbrev pub name_line : List ℕ → NameLine
name_line l = record { count = length (fields_of l); named = every is_name (fields_of l); distinct = distinct (fields_of l) }

abbrev pub value_line : ℕ → Bool → List ℕ → ValueLine
value_line n b vs = record { count = n; right = b; values = vs }

abbrev pub values_of : Bool → List ℕ → ValueLine
values_of b xs = value_line (length xs) b (values xs)

abbrev pub number_line : List ℕ → ValueLine
number_line l = values_of (every is_number (fields_of l)) (numbers_of l)

abbrev pub place_line : List ℕ → ℕ → List ℕ → ValueLine
place_line top n l = values_of (every (λ f. ltb (place f (fields_of top)) n) (fields_of l)) (map (λ f. low_place (place f (fields_of top))) (fields_of l))
