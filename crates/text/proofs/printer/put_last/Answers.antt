-- `text::printer::put_last` meets its contract: `complete` where the number is 0, else `stopped` and the number; then the counts.
-- Assumes nothing.
use mathlib.Core.List.{[], ◌∷◌}
use borrow.Author.Tests.{eq-eqb, ne_eqb}
use Rattle.fields.specs.Decimals.{decimal}
use Rattle.text.specs.Prints.{complete_word, stopped_word}
use Rattle.text.specs.Puts.{fields_of_counts}
use Rattle.text.proofs.PrintedLines.{puts-more}
use Rattle.text.proofs.printer.put_last.Goals as goal

pub returns-then-number-eq0 : goal.returns-then-number-eq0
returns-then-number-eq0 c =
    let n = c.args.counts in
    rw (eq-eqb n.number 0 c.if-number-eq0.true)
    (puts-more complete_word (decimal n.tuples) (decimal n.boxes ∷ decimal n.resolutions ∷ []) c.put_bytes-end.ensures c.put_counts.ensures)

pub returns : goal.returns
returns c =
    let n = c.args.counts in
    rw (ne_eqb n.number 0 c.if-number-eq0.false)
    (puts-more stopped_word (decimal n.number) (fields_of_counts n) c.put_bytes-word.ensures
    (puts-more (decimal n.number) (decimal n.tuples) (decimal n.boxes ∷ decimal n.resolutions ∷ []) c.put_number-end.ensures c.put_counts-2.ensures))
