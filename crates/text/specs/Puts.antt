-- What the printer's parts promise to each other; the text's first line.
--   fields_of_counts c, counts_line c == the fields of the counts, and their line
--   last_of c         == the last line of a run with these counts
--   top_line s        == the text's first line
--   run_bytes line last s l r == what is put for a run: the names of the text s, a line for each tuple of the listing l, and the last line
--   RunAsks l r      == tuples have a value, and the listing has as many tuples as the run says
--   PutsCounts g f last == what a closure f puts for counts is their last line
--   answer_bytes s l a == what is printed for an answer
--   PutAsks l a      == so for the answer's run
use denote.Param.Members.{Shared}
use denote.Ref.{MutBor}
use Rattle.std.specs.Prelude.{List, [], ◌++◌, ℕ, ◌*◌, ◌≤◌, length, get_or, Result, Ok, Err}
use Rattle.questions.specs.Directories.{rows_of}
use Rattle.search.specs.declared.run.Counts.{Counts}
use Rattle.fields.specs.Fields.{lines_of, fields_of}
use Rattle.fields.specs.Puts.{Puts}
use Rattle.fields.specs.Writing.{lines_by}
use Rattle.text.specs.Prints.{line_of, count_fields, last_with, tuple_line, refusal}
use Rattle.text.specs.Refusals.{refusal_number}
use Rattle.text.specs.declared.refusal.TextRefusal.{TextRefusal}
use Rattle.text.specs.declared.run.TextRun.{TextRun}

abbrev pub fields_of_counts : Counts → List (List ℕ)
fields_of_counts c = count_fields c.tuples c.boxes c.resolutions

abbrev pub counts_line : Counts → List ℕ
counts_line c = line_of (fields_of_counts c)

abbrev pub last_of : Counts → List ℕ
last_of c = last_with c.number (fields_of_counts c)

abbrev pub top_line : List ℕ → List ℕ
top_line s = get_or (lines_of s) 0 []

abbrev pub run_bytes : (List ℕ → List ℕ) → (Counts → List ℕ) → List ℕ → List ℕ → TextRun → List ℕ
run_bytes line last s l r = line_of (fields_of (top_line s)) ++ lines_by line (rows_of l 0 r.dimension r.counts.tuples) ++ last r.counts

abbrev pub RunAsks : List ℕ → TextRun → Type 0
RunAsks l r = (1 ≤ r.dimension) × (r.counts.tuples * r.dimension ≤ length l)

-- a call of f with counts puts the last line of these
abbrev pub PutsCounts : {F : Type 0} → Shared F (MutBor (List ℕ) × (ℕ × (Counts × Unit {0}))) (ℕ × (MutBor (List ℕ) × Unit {0})) → F → (Counts → List ℕ) → Type 0
PutsCounts g f last = (o o' : MutBor (List ℕ)) (at r : ℕ) (c : Counts) → g.post f (o, (at, (c, tt))) (r, (o', tt)) → Puts (last c) at o.now o'.now r

abbrev pub answer_bytes : List ℕ → List ℕ → Result TextRun TextRefusal → List ℕ
answer_bytes s l (Err r) = refusal (refusal_number r)
answer_bytes s l (Ok r) = run_bytes tuple_line last_of s l r

abbrev pub PutAsks : List ℕ → Result TextRun TextRefusal → Type 0
PutAsks l (Err r) = Unit
PutAsks l (Ok r) = RunAsks l r
