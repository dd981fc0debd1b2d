-- `fields::printer::put_tuple` meets its contract. The loop's invariant: the first i values are put, with the byte between two.
-- Assumes nothing.
use mathlib.Core.Path.{◌≡◌, refl, sym, ap}
use mathlib.Core.List.{List}
use Prim.Native.Nat.{ℕ, zero-le}
use native.Mathlib.Omega.{arith}
use lib.ListN.{take}
use lib.Seq.{take_all}
use Rattle.fields.specs.Writing.{tuple_by}
use Rattle.fields.proofs.Puts.{puts-long, puts_then, puts-same}
use Rattle.fields.proofs.WrittenLines.{ValueNext, values-none, value-first, value-later, values-turn}
use Rattle.fields.proofs.printer.put_tuple.Goals as goal
use Rattle.fields.proofs.printer.put_tuple.Goals.{Joined-i-gt0, then-i-gt0, else-i-gt0}

pub loop-i-init : goal.loop-i-init
loop-i-init c =
    let s = c.args in
    (zero-le, values-none s.between s.tuple.now s.at s.out.now (omega arith))

-- all that stands before the next value is put
next-value : (c : Joined-i-gt0) → let s = c.args in
    ValueNext s.between s.tuple.now c.loop-i.i s.at s.out.now c.if-i-gt0.out c.if-i-gt0.end
next-value c =
    let s = c.args in
    let i = c.loop-i.i in
    elim c.if-i-gt0.branch [
      | then-i-gt0 w ↦ value-later s.between s.tuple.now i (omega arith) c.loop-i.invariant.1 w.if-i-gt0.true (puts-same refl w.out-is w.end-is w.put_byte-end.ensures)
      | else-i-gt0 w ↦ value-first s.between s.tuple.now i (omega arith) (puts-same refl w.out-is w.end-is c.loop-i.invariant.1) (omega (arith, w.if-i-gt0.false))
    ]

pub loop-i-preserved : goal.loop-i-preserved
loop-i-preserved c = (omega arith, values-turn (next-value (goal.at.loop-i-preserved c).Joined-i-gt0) c.put_digits-end.ensures)

pub returns : goal.returns
returns c =
    let s = c.args in
    let all : take c.loop-i.i s.tuple.now ≡ s.tuple.now = take_all c.loop-i.i s.tuple.now (omega arith) in
    puts-same (ap (λ (t : List ℕ). tuple_by s.between s.ends.now t) (sym all)) refl refl (puts_then c.loop-i.invariant.1 c.put_bytes.ensures)

pub shape_of-out : goal.shape_of-out
shape_of-out c = puts-long (returns c)
