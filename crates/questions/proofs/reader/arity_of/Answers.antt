-- `questions::reader::arity_of` meets its contract.
-- Assumes nothing.
use mathlib.Core.Path.{sym}
use Rattle.questions.proofs.Arities.{arity-mark, arity-plain}
use Rattle.questions.proofs.reader.arity_of.Goals as goal

pub returns-then-word-eq-RANGE_MARK : goal.returns-then-word-eq-RANGE_MARK
returns-then-word-eq-RANGE_MARK c = sym (arity-mark c.args.word c.if-word-eq-RANGE_MARK.true)

pub returns-else-word-eq-RANGE_MARK : goal.returns-else-word-eq-RANGE_MARK
returns-else-word-eq-RANGE_MARK c = sym (arity-plain c.args.word c.if-word-eq-RANGE_MARK.false)
