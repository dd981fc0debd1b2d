-- `fields::printer::put_bytes` meets its contract. The loop's invariant: the first i bytes are put.
-- Assumes nothing.
use mathlib.Core.Path.{refl, sym}
use Prim.Native.Nat.{◌≤◌, zero-le}
use native.Mathlib.Omega.{arith}
use lib.ListN.{length}
use lib.Seq.{take_all}
use Rattle.fields.proofs.Puts.{puts_none, puts-long, puts-same, puts-turn}
use Rattle.fields.proofs.printer.put_bytes.Goals as goal

pub loop-byte-init : goal.loop-byte-init
loop-byte-init c =
    let s = c.args in
    (zero-le, puts_none s.at s.out.now (omega arith))

pub loop-byte-preserved : goal.loop-byte-preserved
loop-byte-preserved c =
    (omega arith, puts-turn c.args.bytes.now c.loop-byte.byte-index (omega arith) c.loop-byte.invariant.1 c.put_byte-end.ensures)

pub shape_of-out : goal.shape_of-out
shape_of-out c = puts-long c.loop-byte.invariant.1

pub returns : goal.returns
returns c =
    let s = c.args in
    let all : length s.bytes.now ≤ c.loop-byte.byte-index = omega arith in
    puts-same (sym (take_all c.loop-byte.byte-index s.bytes.now all)) refl refl c.loop-byte.invariant.1
