-- `files::widths::width_of` meets its contract.
-- Assumes nothing.
use native.Mathlib.Omega.{arith}
use Rattle.std.proofs.lemmas.Nat.{leading_le}
use Rattle.files.proofs.Highest.{width-is}
use Rattle.files.proofs.widths.width_of.Goals as goal

pub returns : goal.returns
returns c = omega (arith, width-is c.args.value (omega arith), leading_le 16 c.args.value)
