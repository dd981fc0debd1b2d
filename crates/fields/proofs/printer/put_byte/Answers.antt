-- `fields::printer::put_byte` meets its contract: beyond the end nothing is written.
-- Assumes nothing.
use mathlib.Core.Path.{◌≡◌, sym, ap, ◌∙◌}
use native.Mathlib.Omega.{arith}
use lib.ListN.{length, set, length-set}
use lib.Seq.{set_out}
use Rattle.fields.proofs.Puts.{puts-byte}
use Rattle.fields.proofs.printer.put_byte.Goals as goal
use Rattle.fields.proofs.printer.put_byte.Goals.{Joined-at-out, then-at-out, else-at-out}

is_set : (c : Joined-at-out) → let s = c.args in c.if-at-out.out ≡ set s.out.now s.at s.byte
is_set c =
    let s = c.args in
    elim c.if-at-out.branch [
      | then-at-out w ↦ w.out-is
      | else-at-out w ↦ w.out-is ∙ sym (set_out s.out.now s.at s.byte w.if-at-out.false)
    ]

pub shape_of-out : goal.shape_of-out
shape_of-out c = ap length (is_set (goal.at.shape_of-out c).Joined-at-out) ∙ simp length-set

pub returns : goal.returns
returns c = puts-byte (omega arith) (is_set (goal.at.returns c).Joined-at-out) c.next_place.ensures
