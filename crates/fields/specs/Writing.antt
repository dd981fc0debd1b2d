-- Lines as they are written.
--   joined c fs      == fields with the byte c between two: a line without its end
--   line_by c e fs    == those, and then the bytes e that end the line
--   swapped d c b    == the byte b, but c for d
--   tuple_by c e t    == the line of a tuple's values
--   lines_by line ts, tuples_by c e ts == a line for each tuple: what `line` makes of it; that of its values
--   tuples_of n v     == a listing as tuples of n values; none where n is 0
use Rattle.std.specs.Prelude.{List, [], ◌∷◌, ◌++◌, map, ℕ, ◌/◌, eqb, length}
use Rattle.boxes.specs.Intervals.{pick}
use Rattle.questions.specs.Directories.{rows_of}
use Rattle.questions.specs.Words.{flat}
use Rattle.fields.specs.Decimals.{decimal}

unfoldable pub joined : ℕ → List (List ℕ) → List ℕ
joined c [] = []
joined c (f ∷ []) = f
joined c (f ∷ (g ∷ fs)) = f ++ (c ∷ joined c (g ∷ fs))

abbrev pub line_by : ℕ → List ℕ → List (List ℕ) → List ℕ
line_by c e fs = joined c fs ++ e

abbrev pub swapped : ℕ → ℕ → ℕ → ℕ
swapped d c b = pick (eqb b d) c b

abbrev pub tuple_by : ℕ → List ℕ → List ℕ → List ℕ
tuple_by c e t = line_by c e (map decimal t)

abbrev pub lines_by : (List ℕ → List ℕ) → List (List ℕ) → List ℕ
lines_by line ts = flat (map line ts)

abbrev pub tuples_by : ℕ → List ℕ → List (List ℕ) → List ℕ
tuples_by c e ts = lines_by (tuple_by c e) ts

abbrev pub tuples_of : ℕ → List ℕ → List (List ℕ)
tuples_of n v = rows_of v 0 n (length v / n)
