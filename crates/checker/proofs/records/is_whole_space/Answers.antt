-- `checker::records::is_whole_space` meets its contract.
-- Assumes nothing.
use Rattle.std.proofs.Common.{sym, ap, ap₂, ◌∙◌, arith}
use lib.Seq.{take-take, length-take-le}
use Rattle.boxes.specs.Limits.{max_attributes}
use Rattle.boxes.specs.Boxes.{whole_space}
use Rattle.questions.specs.Orders.{same}
use Rattle.checker.proofs.records.is_whole_space.Goals as goal

pub returns : goal.returns
returns c =
    let n = c.args.n in
    let w = c.args.words.now in
    c.is_whole.ensures
    ∙ ap₂ same (sym (take-take n max_attributes w c.requires)) (ap whole_space (length-take-le n w (omega (arith, c.told-words, c.requires))))
