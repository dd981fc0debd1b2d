-- A line of names, and the line of names at the top of a text.
--   form b        == has the line its form? 15
--   are_names n fs == a line of 1 to n names
--   top_check l    == the number for the top line
--   names_number r == the number of an answer to a line of names: 0 for names, 15 or 16 for a refusal
--   names_in n l   == the answer to a line of up to n names: how many there are, or the refusal
--   names_by n x   == so by what there is to say of a line
--   top_of l       == the answer to the top line
--   why_told r, count_told r == what is told of the top line: the answer; how many fields it has, also where it is refused
use Rattle.std.specs.Prelude.{Bool, ◌&&◌, not, List, ℕ, leb, length, Result, Ok, Err}
use Rattle.boxes.specs.Limits.{max_attributes}
use Rattle.boxes.specs.Intervals.{pick}
use Rattle.questions.specs.Questions.{when, first_of}
use Rattle.fields.specs.Fields.{every, fields_of, is_name, distinct}
use Rattle.fields.specs.declared.lines.NameLine.{NameLine}
use Rattle.fields.specs.declared.lines.NamesRefusal.{NamesRefusal}
use Rattle.fields.specs.declared.lines.NamesRefusal.TheVariants.{Malformed, Repeated}
use Rattle.fields.specs.declared.top.RefusedTop.{RefusedTop}

-- has it its form? 15
abbrev pub form : Bool → ℕ
form b = when (not b) 15

-- 1 to n names; a line has at least one field
abbrev pub are_names : ℕ → List (List ℕ) → Bool
are_names n fs = leb (length fs) n && every is_name fs

-- are its names distinct? 16
abbrev pub top_check : List ℕ → ℕ
top_check l = first_of (form (are_names max_attributes (fields_of l))) (when (not (distinct (fields_of l))) 16)

abbrev pub refusal_number : NamesRefusal → ℕ
refusal_number Malformed = 15
refusal_number Repeated = 16

abbrev pub names_number : Result ℕ NamesRefusal → ℕ
names_number (Ok n) = 0
names_number (Err r) = refusal_number r

abbrev pub names_in : ℕ → List ℕ → Result ℕ NamesRefusal
names_in n l = pick (are_names n (fields_of l)) (pick (distinct (fields_of l)) (Ok (length (fields_of l))) (Err Repeated)) (Err Malformed)

abbrev pub names_by : ℕ → NameLine → Result ℕ NamesRefusal
names_by n x = pick (leb x.count n && x.named) (pick x.distinct (Ok x.count) (Err Repeated)) (Err Malformed)

abbrev pub top_of : List ℕ → Result ℕ NamesRefusal
top_of l = names_in max_attributes l

abbrev pub why_told : Result ℕ RefusedTop → Result ℕ NamesRefusal
why_told (Ok n) = Ok n
why_told (Err r) = Err r.why

abbrev pub count_told : Result ℕ RefusedTop → ℕ
count_told (Ok n) = n
count_told (Err r) = r.count
