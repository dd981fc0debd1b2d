-- `text::printer::put_counts` meets its contract: three fields of a line.
-- Assumes nothing.
use mathlib.Core.List.{[], ◌∷◌}
use Rattle.fields.specs.Decimals.{decimal}
use Rattle.text.proofs.PrintedLines.{puts-more, puts-end}
use Rattle.text.proofs.printer.put_counts.Goals as goal

pub returns : goal.returns
returns c =
    let n = c.args.counts in
    puts-more (decimal n.tuples) (decimal n.boxes) (decimal n.resolutions ∷ []) c.put_number-tuples.ensures
    (puts-more (decimal n.boxes) (decimal n.resolutions) [] c.put_number-boxes.ensures (puts-end (decimal n.resolutions) c.put_number.ensures))
