-- `copies::marks::mark` meets its contract: a mark is set, or there is none to set.
-- Assumes nothing.
use mathlib.Core.Path.{sym}
use mathlib.Core.Bool.{true}
use native.Mathlib.Omega.{arith}
use lib.Seq.{set_out}
use Rattle.copies.proofs.marks.mark.Goals as goal

pub returns-else-number-marks : goal.returns-else-number-marks
returns-else-number-marks c = sym (set_out c.args.marks.now c.args.number true (omega arith))
