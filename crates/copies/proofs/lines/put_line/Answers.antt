-- `copies::lines::put_line` meets its contract. The loop's invariant: the fields before the i-th are put, each with a space.
-- Assumes nothing.
use mathlib.Core.Path.{◌≡◌, refl, sym, ap, ◌∙◌}
use mathlib.Core.Bool.{false}
use mathlib.Core.List.{List, [], ◌∷◌, ◌++◌}
use Prim.Native.Nat.{ℕ, ◌-◌, ◌≤◌}
use native.Mathlib.Omega.{arith}
use lib.ListN.{length, get_or}
use Rattle.fields.specs.Fields.{space, line_end}
use Rattle.fields.proofs.Laws.{puts-long, puts-same}
use Rattle.copies.specs.Copies.{shown_field}
use Rattle.copies.specs.Puts.{field_bytes, marked_fields}
use Rattle.copies.proofs.HiddenMarks.{length_marked, marked-at, field-shown}
use Rattle.copies.proofs.LinePuts.{line-none, line-turn, line-end}
use Rattle.copies.proofs.lines.put_line.Goals as goal
use Rattle.copies.proofs.lines.put_line.Goals.{Start}

-- there is a mark for each value, so as many fields as values
marks-long : (c : Start) → length c.args.tuple.now ≤ length c.args.marks
marks-long c = omega arith

fields : (c : Start) → length (marked_fields c.args.marks c.args.tuple.now) ≡ length c.args.tuple.now
fields c = length_marked c.args.marks c.args.tuple.now (marks-long c)

pub loop-i-init : goal.loop-i-init
loop-i-init c =
    let s = c.args in
    let some : 1 ≤ length s.tuple.now = c.requires.0 in
    (omega arith, line-none (marked_fields s.marks s.tuple.now) s.at s.out.now (omega (arith, fields (goal.at.loop-i-init c).Start)) (omega arith))

pub loop-i-preserved : goal.loop-i-preserved
loop-i-preserved c =
    let s = c.args in
    let i = c.loop-i.i in
    let many = fields (goal.at.loop-i-preserved c).Start in
    let here : get_or (marked_fields s.marks s.tuple.now) i [] ≡ field_bytes c.then_some-value.result =
    marked-at s.marks s.tuple.now i (marks-long (goal.at.loop-i-preserved c).Start) (omega arith) ∙ field-shown (get_or s.marks i false) (get_or s.tuple.now i 0) ∙ ap field_bytes (sym c.then_some-value.ensures) in
    (omega arith, line-turn c.loop-i.invariant.1 (omega arith) (puts-same (ap (λ (f : List ℕ). f ++ (space ∷ [])) here) refl refl c.put_field-end.ensures))

pub returns : goal.returns
returns c =
    let s = c.args in
    let i = c.loop-i.i in
    let some : 1 ≤ length s.tuple.now = c.requires.0 in
    let many = fields (goal.at.returns c).Start in
    let last : i ≡ length s.tuple.now - 1 = omega arith in
    let here : get_or (marked_fields s.marks s.tuple.now) i [] ≡ field_bytes c.then_some-value-2.result =
    marked-at s.marks s.tuple.now i (marks-long (goal.at.returns c).Start) (omega arith) ∙ ap (λ (k : ℕ). shown_field (get_or s.marks k false) (get_or s.tuple.now k 0)) last
    ∙ field-shown (get_or s.marks (length s.tuple.now - 1) false) (get_or s.tuple.now (length s.tuple.now - 1) 0) ∙ ap field_bytes (sym c.then_some-value-2.ensures) in
    line-end c.loop-i.invariant.1 (omega arith) (puts-same (ap (λ (f : List ℕ). f ++ (line_end ∷ [])) here) refl refl c.put_field.ensures)

pub shape_of-out : goal.shape_of-out
shape_of-out c = puts-long (returns c)
