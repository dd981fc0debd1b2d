-- `copies::lines::put_end` meets its contract: a line of a word, by the number, and of the count.
-- Assumes nothing.
use mathlib.Core.List.{[]}
use borrow.Author.Tests.{eq-eqb, ne_eqb}
use Rattle.fields.specs.Decimals.{decimal}
use Rattle.text.specs.Prints.{complete_word, stopped_word}
use Rattle.text.proofs.Laws.{puts-more, puts-end}
use Rattle.copies.proofs.lines.put_end.Goals as goal

pub returns-then-counts-eq0 : goal.returns-then-counts-eq0
returns-then-counts-eq0 c =
    let s = c.args.counts in
    rw (eq-eqb s.number 0 c.if-counts-eq0.true) (puts-more complete_word (decimal s.tuples) [] c.put_bytes-end.ensures (puts-end (decimal s.tuples) c.put_number.ensures))

pub returns : goal.returns
returns c =
    let s = c.args.counts in
    rw (ne_eqb s.number 0 c.if-counts-eq0.false) (puts-more stopped_word (decimal s.tuples) [] c.put_bytes-end-2.ensures (puts-end (decimal s.tuples) c.put_number-2.ensures))
