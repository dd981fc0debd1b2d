use mathlib.Core.Bool.{Bool}
use mathlib.Core.List.{List}
use Prim.Native.Nat.{ℕ}
use lib.Dec.{ltb}
use Rattle.fields.specs.Fields.{fields_of, place}
use Rattle.fields.specs.Lines.{low_place}
use Rattle.fields.proofs.ValueLines.{Valued}
use Rattle.fields.proofs.lines.read_places.Given as goal

-- the place of a field at the top as a value, and whether it is below a number
abbrev pub place_at : List ℕ → List ℕ → ℕ
place_at top f = low_place (place f (fields_of top))

abbrev pub is_below : List ℕ → ℕ → List ℕ → Bool
is_below top n f = ltb (place f (fields_of top)) n

abbrev pub invariant-loop-field : goal.invariant-loop-field
invariant-loop-field l = Valued (goal.iterator-loop-field).next_gives (is_below l.top l.names) (place_at l.top) l.line l.field-iterator l.count l.right l.values
