-- `fields::printer::put_number` meets its contract: the digits are put, and the byte.
-- Assumes nothing.
use Rattle.fields.proofs.Puts.{puts_then}
use Rattle.fields.proofs.printer.put_number.Goals as goal

pub returns : goal.returns
returns c = puts_then c.put_digits-end.ensures c.put_byte.ensures
