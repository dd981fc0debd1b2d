-- What the parts of a copy promise to each other. Which attributes are hidden is known there by marks, one for each attribute.
--   marks_from h i n, marks_of h == the marks of n attributes from attribute i on; of all that there may be
--   field_bytes o      == a field: the value, or what stands in place of one that is hidden
--   marked_fields m p, marked_line m p, marked_lines m ts == the fields of a tuple by marks; its line; a line for each tuple
--   LineAsks p, LinesAsk n == a tuple has at least one value, and a mark for each; so if it has n
--   end_of c         == the last line of a run with these counts
--   copy_bytes m s l a == the copy for an answer: the names of the text s, and the tuples of the listing l
--   CopyAsks l a     == tuples have at least one value and a mark for each, and the listing has as many tuples as the answer says
use Rattle.std.specs.Prelude.{Bool, List, [], ◌∷◌, map, ℕ, zero, suc, ◌≤◌, length, Option, Some, None, Result, Ok, Err}
use Rattle.boxes.specs.Limits.{max_attributes}
use Rattle.questions.specs.Orders.{is_in}
use Rattle.questions.specs.Words.{flat}
use Rattle.fields.specs.Decimals.{decimal}
use Rattle.text.specs.Prints.{line_of}
use Rattle.search.specs.declared.run.Counts.{Counts}
use Rattle.text.specs.Puts.{RunAsks, run_bytes}
use Rattle.text.specs.declared.refusal.TextRefusal.{TextRefusal}
use Rattle.text.specs.declared.run.TextRun.{TextRun}
use Rattle.copies.specs.Copies.{hidden_field, shown_field, end_line, refused_copy}

unfoldable pub marks_from : List ℕ → ℕ → ℕ → List Bool
marks_from h i zero = []
marks_from h i (suc n) = is_in i h ∷ marks_from h (suc i) n

abbrev pub marks_of : List ℕ → List Bool
marks_of h = marks_from h 0 max_attributes

abbrev pub field_bytes : Option ℕ → List ℕ
field_bytes (Some v) = decimal v
field_bytes None = hidden_field

unfoldable pub marked_fields : List Bool → List ℕ → List (List ℕ)
marked_fields [] p = []
marked_fields (b ∷ m) [] = []
marked_fields (b ∷ m) (v ∷ p) = shown_field b v ∷ marked_fields m p

abbrev pub marked_line : List Bool → List ℕ → List ℕ
marked_line m p = line_of (marked_fields m p)

abbrev pub marked_lines : List Bool → List (List ℕ) → List ℕ
marked_lines m ts = flat (map (marked_line m) ts)

abbrev pub LinesAsk : ℕ → Type 0
LinesAsk n = (1 ≤ n) × (n ≤ max_attributes)

abbrev pub LineAsks : List ℕ → Type 0
LineAsks p = LinesAsk (length p)

-- the last line of a run with these counts
abbrev pub end_of : Counts → List ℕ
end_of c = end_line c.number c.tuples

abbrev pub copy_bytes : List Bool → List ℕ → List ℕ → Result TextRun TextRefusal → List ℕ
copy_bytes m s l (Err r) = refused_copy
copy_bytes m s l (Ok r) = run_bytes (marked_line m) end_of s l r

abbrev pub CopyAsks : List ℕ → Result TextRun TextRefusal → Type 0
CopyAsks l (Err r) = Unit
CopyAsks l (Ok r) = LinesAsk r.dimension × RunAsks l r
