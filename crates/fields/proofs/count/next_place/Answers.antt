-- `fields::count::next_place` meets its contract.
-- Assumes nothing.
use mathlib.Core.Path.{sym}
use native.Mathlib.Omega.{arith}
use Rattle.fields.proofs.Onward.{onward_near, onward-beyond}
use Rattle.fields.proofs.count.next_place.Goals as goal

pub returns-then-at-lt-FARTHEST : goal.returns-then-at-lt-FARTHEST
returns-then-at-lt-FARTHEST c = sym (onward_near c.args.at 1 (omega arith))

pub returns : goal.returns
returns c = sym (onward-beyond c.args.at 1 (omega arith))
