-- `questions::widths::Widths::limit` meets its contract: the unit of the value 0 is the limit.
-- Assumes nothing.
use mathlib.Core.Path.{◌∙◌}
use native.Mathlib.Omega.{arith}
use lib.ListN.{get_or}
use Rattle.boxes.proofs.Laws.{unit_or0-is}
use Rattle.questions.proofs.widths.Widths.limit.Goals as goal

pub returns : goal.returns
returns c =
    let w = get_or c.args.self.values c.args.attribute 0 in
    rw c.value_at.ensures at c.unit.ensures ∙ unit_or0-is w 0 (c.args.self.narrow c.args.attribute) ∙ omega arith
