-- The widths that tables need: for each attribute the least from 1 on that holds all its values.
--   row_values a xs r, contents_values a xs c == the values of the attribute a: in a row over the attributes xs, in what a table has at these
--   table_values a t, attribute_values a ts   == in a table, in tables
--   holds_all w vs     == a width holds all values
--   least_from f w vs  == the least width from w on that does, tried up to f further ones
--   least_width vs     == the least from 1 on
--   widths_for n ts    == the widths of n attributes
--   question_for n ts  == the question of tables over n attributes
use Rattle.std.specs.Prelude.{Bool, List, [], ◌∷◌, map, ℕ, zero, suc, ◌-◌, ◌^◌, eqb, ltb}
use Rattle.boxes.specs.Limits.{max_width}
use Rattle.boxes.specs.Intervals.{pick}
use Rattle.questions.specs.Questions.{Contents, with_rows, unfilled, with_pairs, Table, Question}
use Rattle.questions.specs.Words.{flat}
use Rattle.fields.specs.Fields.{every}
use Rattle.csv_tables.specs.Claims.{numbers_from}

unfoldable pub row_values : ℕ → List ℕ → List ℕ → List ℕ
row_values a [] r = []
row_values a (x ∷ xs) [] = []
row_values a (x ∷ xs) (v ∷ r) = pick (eqb x a) (v ∷ row_values a xs r) (row_values a xs r)

-- an open table has no values; files have no pairs
abbrev pub contents_values : ℕ → List ℕ → Contents → List ℕ
contents_values a xs (with_rows rs) = flat (map (row_values a xs) rs)
contents_values a xs unfilled = []
contents_values a xs (with_pairs ps) = []

abbrev pub table_values : ℕ → Table → List ℕ
table_values a t = contents_values a t.attributes t.contents

abbrev pub attribute_values : ℕ → List Table → List ℕ
attribute_values a ts = flat (map (table_values a) ts)

abbrev pub holds_all : ℕ → List ℕ → Bool
holds_all w vs = every (λ v. ltb v (2 ^ w)) vs

unfoldable pub least_from : ℕ → ℕ → List ℕ → ℕ
least_from zero w vs = w
least_from (suc f) w vs = pick (holds_all w vs) w (least_from f (suc w) vs)

-- no value takes more than the widest
abbrev pub least_width : List ℕ → ℕ
least_width vs = least_from (max_width - 1) 1 vs

abbrev pub widths_for : ℕ → List Table → List ℕ
widths_for n ts = map (λ a. least_width (attribute_values a ts)) (numbers_from 0 n)

abbrev pub question_for : ℕ → List Table → Question
question_for n ts = record { widths = widths_for n ts; tables = ts }
