-- The columns of a file in attribute order, by numbers. A header is given as the list of its attribute numbers.
--   column_of a xs      == the first place of an attribute in a header, how many names it has where it is none of them
--   column_in a xs      == that place, if it is one of them
--   are_distinct xs     == no attribute stands twice (distinct_from, from a place on)
--   sources_from a n xs == of the n attributes from a on, those of the header, as the places of their fields
--   sourced xs vs      == of each source, the value of its field
use Rattle.std.specs.Prelude.{Bool, true, ◌&&◌, ◌==◌, Option, position, List, [], ◌∷◌, map, ℕ, zero, suc, eqb, ltb, length, get_or}
use Rattle.boxes.specs.Intervals.{pick}

unfoldable pub column_of : ℕ → List ℕ → ℕ
column_of a [] = 0
column_of a (x ∷ xs) = pick (eqb x a) 0 (suc (column_of a xs))

abbrev pub column_in : ℕ → List ℕ → Option ℕ
column_in a xs = position (λ x. x == a) xs

-- each attribute from the place i on, ys, has its own place in xs
unfoldable pub distinct_from : ℕ → List ℕ → List ℕ → Bool
distinct_from i xs [] = true
distinct_from i xs (y ∷ ys) = eqb (column_of y xs) i && distinct_from (suc i) xs ys

abbrev pub are_distinct : List ℕ → Bool
are_distinct xs = distinct_from 0 xs xs

unfoldable pub sources_from : ℕ → ℕ → List ℕ → List ℕ
sources_from a zero xs = []
sources_from a (suc n) xs = pick (ltb (column_of a xs) (length xs)) (column_of a xs ∷ sources_from (suc a) n xs) (sources_from (suc a) n xs)

abbrev pub sourced : List ℕ → List ℕ → List ℕ
sourced xs vs = map (λ i. get_or vs i 0) xs
