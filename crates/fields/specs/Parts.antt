-- Parts of a text or a line by place: the code goes from one part to the next, and looks at each byte where it stands.
--   part a e s       == the bytes from a place up to another
--   parts_from c s at == the parts of s between the bytes c from a place on; none from beyond the end
--   PartEnd c s at r == the part that begins at a place ends at r
--   part_end c s at   == where the part that begins at a place ends; that place itself beyond the end
use Rattle.std.specs.Prelude.{◌≡◌, List, [], ◌∷◌, ℕ, ◌+◌, ◌-◌, ◌≤◌, leb, length, get_or, take, drop}
use Rattle.boxes.specs.Intervals.{pick}
use Rattle.fields.specs.Fields.{split}

abbrev pub part : ℕ → ℕ → List ℕ → List ℕ
part a e s = take (e - a) (drop a s)

unfoldable pub parts_from : ℕ → List ℕ → ℕ → List (List ℕ)
parts_from c s at = pick (leb at (length s)) (split c (drop at s)) []

pub record PartEnd (c : ℕ) (s : List ℕ) (at r : ℕ) : Type 0 where
  pub after : at ≤ r
  pub within : r ≤ length s
  pub parts : parts_from c s at ≡ part at r s ∷ parts_from c s (r + 1)

abbrev pub part_end : ℕ → List ℕ → ℕ → ℕ
part_end c s at = at + length (get_or (split c (drop at s)) 0 [])
