-- The limits of document 01 that every reader and writer of a byte file has, and how far places go.
--   max_bytes    == the most bytes of a text or of a comma-separated file
--   max_name     == the most letters of a name
--   max_value    == the highest number
--   farthest    == a place that no slice reaches
--   at_most m n  == n, but never above m
--   capped n    == n, but never above farthest
--   onward at n == the place n after a place: places stop at farthest, and one beyond it stays
use Rattle.std.specs.Prelude.{ℕ, ◌+◌, ◌^◌, ltb}
use Rattle.boxes.specs.Intervals.{pick}

abbrev pub max_bytes : ℕ
max_bytes = 60000

abbrev pub max_name : ℕ
max_name = 12

abbrev pub max_value : ℕ
max_value = 65535

-- a slice of bytes is always shorter
abbrev pub farthest : ℕ
farthest = 2 ^ 63

abbrev pub at_most : ℕ → ℕ → ℕ
at_most m n = pick (ltb n m) n m

abbrev pub capped : ℕ → ℕ
capped n = at_most farthest n

unfoldable pub onward : ℕ → ℕ → ℕ
onward at n = pick (ltb at farthest) (capped (at + n)) at
