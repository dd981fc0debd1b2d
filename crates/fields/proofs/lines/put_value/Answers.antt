-- `fields::lines::put_value` meets its contract.
-- Assumes nothing.
use mathlib.Core.Path.{◌≡◌, ap, sym, ◌∙◌}
use native.Mathlib.Omega.{arith}
use lib.ListN.{length, set, length-set}
use lib.Seq.{set_out}
use Rattle.fields.proofs.lines.put_value.Goals as goal
use Rattle.fields.proofs.lines.put_value.Goals.{Joined-count-values, then-count-values, else-count-values}

-- the value is put where there is a place for it
put : (c : Joined-count-values) → let s = c.args in c.if-count-values.values ≡ set s.values.now s.count s.value
put c = let s = c.args in
    elim c.if-count-values.branch [
      | then-count-values w ↦ w.values-is
      | else-count-values w ↦ w.values-is ∙ sym (set_out s.values.now s.count s.value (omega arith))
    ]

pub shape_of-values : goal.shape_of-values
shape_of-values c = let s = c.args in ap length (put (goal.at.shape_of-values c).Joined-count-values) ∙ length-set s.values.now s.count s.value

pub returns : goal.returns
returns c = record { values_after = put (goal.at.returns c).Joined-count-values; next = c.next_place.ensures }
