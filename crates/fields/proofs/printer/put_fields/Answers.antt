-- `fields::printer::put_fields` meets its contract. The loop's invariant: the first i bytes are put, with the other byte for a space.
-- Assumes nothing.
use Prim.Native.Nat.{zero-le}
use native.Mathlib.Omega.{arith}
use Rattle.fields.proofs.Puts.{puts_none, puts-long}
use Rattle.fields.proofs.WrittenLines.{swaps-turn, swaps-done}
use Rattle.fields.proofs.printer.put_fields.Goals as goal

pub loop-byte-init : goal.loop-byte-init
loop-byte-init c =
    let s = c.args in
    (zero-le, puts_none s.at s.out.now (omega arith))

pub loop-byte-preserved : goal.loop-byte-preserved
loop-byte-preserved c =
    let s = c.args in
    (omega arith, swaps-turn s.between s.line.now c.loop-byte.byte-index (omega arith) c.loop-byte.invariant.1 c.unspaced.ensures c.put_byte-end.ensures)

pub shape_of-out : goal.shape_of-out
shape_of-out c = puts-long c.loop-byte.invariant.1

pub returns : goal.returns
returns c =
    let s = c.args in
    swaps-done s.between s.line.now c.loop-byte.byte-index (omega arith) c.loop-byte.invariant.1
