-- Widths in an array.
--   Narrow ws == no width is above the widest, also beyond the question's
use Rattle.std.specs.Prelude.{List, ℕ, ◌≤◌, get_or}
use Rattle.boxes.specs.Limits.{max_width}

abbrev pub Narrow : List ℕ → Type 0
Narrow ws = (i : ℕ) → get_or ws i 0 ≤ max_width
