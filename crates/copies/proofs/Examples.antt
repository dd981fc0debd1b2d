-- Small copies, byte for byte.
--   hidden-fields == the line of the tuple 5, 12, 7 with attribute 1 hidden: once, twice, and beside numbers that are no attribute's; with all hidden; with none
--   last-lines    == the last lines of a complete run and of a stopped one, whatever its number; and all that is said of a refused text
use mathlib.Core.Path.{◌≡◌, refl}
use mathlib.Core.List.{List, [], ◌∷◌}
use Prim.Native.Nat.{ℕ}
use Rattle.questions.specs.Orders.{is_in}
use Rattle.fields.specs.Decimals.{decimal, decimal_from}
use Rattle.fields.specs.Writing.{joined}
use Rattle.copies.specs.Copies.{shown_from, shown_line, end_line, refused_copy}

abbrev tuple : List ℕ
tuple = 5 ∷ 12 ∷ 7 ∷ []

-- `5 - 7`, `- - -`, `5 12 7`
pub hidden-fields :
    (shown_line (1 ∷ []) tuple ≡ 53 ∷ 32 ∷ 45 ∷ 32 ∷ 55 ∷ 10 ∷ [])
    × (shown_line (3 ∷ 1 ∷ 65535 ∷ 1 ∷ 13 ∷ []) tuple ≡ 53 ∷ 32 ∷ 45 ∷ 32 ∷ 55 ∷ 10 ∷ [])
    × (shown_line (2 ∷ 0 ∷ 1 ∷ []) tuple ≡ 45 ∷ 32 ∷ 45 ∷ 32 ∷ 45 ∷ 10 ∷ [])
    × (shown_line [] tuple ≡ 53 ∷ 32 ∷ 49 ∷ 50 ∷ 32 ∷ 55 ∷ 10 ∷ [])
unfolding shown_from is_in joined decimal decimal_from
hidden-fields = (refl, refl, refl, refl)

-- `complete 10`, `stopped 3` twice, `refused`
pub last-lines :
    (end_line 0 10 ≡ 99 ∷ 111 ∷ 109 ∷ 112 ∷ 108 ∷ 101 ∷ 116 ∷ 101 ∷ 32 ∷ 49 ∷ 48 ∷ 10 ∷ [])
    × (end_line 14 3 ≡ 115 ∷ 116 ∷ 111 ∷ 112 ∷ 112 ∷ 101 ∷ 100 ∷ 32 ∷ 51 ∷ 10 ∷ [])
    × (end_line 13 3 ≡ 115 ∷ 116 ∷ 111 ∷ 112 ∷ 112 ∷ 101 ∷ 100 ∷ 32 ∷ 51 ∷ 10 ∷ [])
    × (refused_copy ≡ 114 ∷ 101 ∷ 102 ∷ 117 ∷ 115 ∷ 101 ∷ 100 ∷ 10 ∷ [])
unfolding joined decimal decimal_from
last-lines = (refl, refl, refl, refl)
