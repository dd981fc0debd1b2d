-- `questions::reader::comes_before` meets its contract.
-- Assumes nothing.
use Rattle.questions.proofs.Orders.{less_before}
use Rattle.questions.proofs.reader.comes_before.Goals as goal

pub returns : goal.returns
returns c = let h = less_before c.args.row.now c.args.other.now c.requires in cc
