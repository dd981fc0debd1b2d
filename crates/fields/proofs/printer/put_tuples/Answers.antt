-- `fields::printer::put_tuples` meets its contract.
-- Assumes nothing.
use Rattle.fields.specs.Writing.{tuple_by}
use Rattle.fields.proofs.printer.put_tuples.Goals as goal

pub returns : goal.returns
returns c = c.put_lines.ensures (tuple_by c.args.between c.args.ends.now) (λ o o' at r t p. p)
