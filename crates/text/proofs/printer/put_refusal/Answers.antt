-- `text::printer::put_refusal` meets its contract: a line of a word and a number.
-- Assumes nothing.
use mathlib.Core.List.{[]}
use Rattle.fields.specs.Decimals.{decimal}
use Rattle.text.specs.Prints.{refused_word}
use Rattle.text.proofs.PrintedLines.{puts-more, puts-end}
use Rattle.text.proofs.printer.put_refusal.Goals as goal

pub returns : goal.returns
returns c =
    let d = decimal c.args.number in
    puts-more refused_word d [] c.put_bytes-end.ensures (puts-end d c.put_number.ensures)
