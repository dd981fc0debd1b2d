-- `copies::marks::marks_of` meets its contract. The loop's invariant: the marks are those of the first i numbers.
-- Assumes nothing.
use mathlib.Core.Path.{◌≡◌, sym, ap, ◌∙◌}
use mathlib.Core.Bool.{Bool, true}
use mathlib.Core.List.{List, [], ◌∷◌, ◌++◌}
use Prim.Native.Nat.{ℕ, ◌+◌, zero-le}
use native.Mathlib.Numerals.{add-one}
use native.Mathlib.Omega.{arith}
use lib.ListN.{length, get_or, set, take}
use lib.Seq.{take-suc, take_all}
use Rattle.boxes.specs.Limits.{max_attributes}
use Rattle.copies.specs.Puts.{marks_of}
use Rattle.copies.proofs.HiddenMarks.{length-marks, marks-none, marks-end}
use Rattle.copies.proofs.marks.marks_of.Goals as goal

pub loop-number-init : goal.loop-number-init
loop-number-init c = (zero-le, sym marks-none)

pub slice_bounds-mark-end : goal.slice_bounds-mark-end
slice_bounds-mark-end c = sym (ap length c.loop-number.invariant.1 ∙ length-marks _ 0 max_attributes)

pub loop-number-preserved : goal.loop-number-preserved
loop-number-preserved c =
    let s = c.args in
    let i = c.loop-number.number-index in
    let more : take (i + 1) s.hidden.now ≡ take i s.hidden.now ++ (get_or s.hidden.now i 0 ∷ []) = ap (λ (k : ℕ). take k s.hidden.now) (add-one i) ∙ take-suc s.hidden.now i 0 (omega arith) in
    (omega arith, c.mark.ensures ∙ ap (λ (m : List Bool). set m (get_or s.hidden.now i 0) true) c.loop-number.invariant.1 ∙ sym (ap marks_of more ∙ marks-end (take i s.hidden.now) (get_or s.hidden.now i 0)))

pub returns : goal.returns
returns c = c.loop-number.invariant.1 ∙ ap marks_of (take_all c.loop-number.number-index c.args.hidden.now (omega arith))
