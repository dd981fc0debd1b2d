-- `fields::printer::unspaced` meets its contract: the test's two cases.
-- Assumes nothing.
use borrow.Author.Tests.{eq-eqb, ne_eqb}
use Rattle.fields.specs.Fields.{space}
use Rattle.fields.proofs.printer.unspaced.Goals as goal

pub returns-then-byte-eq-SPACE : goal.returns-then-byte-eq-SPACE
returns-then-byte-eq-SPACE c = rw (eq-eqb c.args.byte space c.if-byte-eq-SPACE.true)

pub returns : goal.returns
returns c = rw (ne_eqb c.args.byte space c.if-byte-eq-SPACE.false)
