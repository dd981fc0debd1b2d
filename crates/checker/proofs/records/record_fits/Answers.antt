-- `checker::records::record_fits` meets its contract: the intervals beyond the question's attributes, then the box.
-- Assumes nothing.
use Rattle.std.proofs.Common.{sym, ap, ◌∙◌, length}
use lib.Seq.{take-take}
use Rattle.boxes.specs.Limits.{max_attributes}
use Rattle.checker.specs.Checks.{fits_in}
use Rattle.checker.proofs.Places.{beyond-is}
use Rattle.checker.proofs.records.record_fits.Goals as goal

pub returns-then-is_whole : goal.returns-then-is_whole
returns-then-is_whole c =
    let n = length c.args.widths.now in
    let w = c.args.words.now in
    rw (beyond-is w n c.told-words c.requires ∙ sym c.is_whole.ensures ∙ c.if-is_whole.true) (c.fits.ensures ∙ ap (fits_in c.args.widths.now) (sym (take-take n max_attributes w c.requires)))

pub returns-else-is_whole : goal.returns-else-is_whole
returns-else-is_whole c =
    rw (beyond-is c.args.words.now (length c.args.widths.now) c.told-words c.requires ∙ sym c.is_whole.ensures ∙ c.if-is_whole.false) c.if-is_whole.false
