-- `checker::records::tuple_stands` meets its contract.
-- Assumes nothing.
use Rattle.std.proofs.Common.{sym, ◌∙◌}
use Rattle.checker.proofs.Checking.{tuple-past, tuple_is}
use Rattle.checker.proofs.records.tuple_stands.Goals as goal

pub returns-then-listing-n : goal.returns-then-listing-n
returns-then-listing-n c =
    sym (tuple-past c.args.widths.now c.args.listing.now c.args.intervals.now c.args.place c.requires.some c.if-listing-n.true)

pub returns : goal.returns
returns c =
    c.is_box_of.ensures
    ∙ tuple_is c.args.widths.now c.args.listing.now c.args.intervals.now c.args.place c.requires.some c.if-listing-n.false
