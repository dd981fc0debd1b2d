-- The decimal digits of a number.
--   digit v   == the last one
--   decimal v == all of them, without leading zeros (decimal_from, in so many steps)
use Rattle.std.specs.Prelude.{List, [], ◌∷◌, ◌++◌, ℕ, zero, suc, ◌+◌, ◌/◌, ◌%◌, ltb}
use Rattle.boxes.specs.Intervals.{pick}

-- the last digit of a number
abbrev pub digit : ℕ → ℕ
digit v = 48 + v % 10

-- each step takes one digit off, so v steps are enough
unfoldable pub decimal_from : ℕ → ℕ → List ℕ
decimal_from zero v = digit v ∷ []
decimal_from (suc l) v = pick (ltb v 10) (digit v ∷ []) (decimal_from l (v / 10) ++ (digit v ∷ []))

unfoldable pub decimal : ℕ → List ℕ
decimal v = decimal_from v v
