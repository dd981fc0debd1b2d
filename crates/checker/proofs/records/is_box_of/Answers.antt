-- `checker::records::is_box_of` meets its contract.
-- Assumes nothing.
use Rattle.std.proofs.Common.{rules, ◌∙◌, eqb}
use borrow.Author.Tests.{tests}
use Rattle.std.proofs.lemmas.Iterator.{YieldsList-from_slice, YieldsList-from_zip}
use Rattle.std.proofs.lemmas.Iterator.Search.{all_from_yields_List}
use Rattle.boxes.specs.Intervals.{unit_or0}
use Rattle.checker.proofs.Chains.{units-all}
use Rattle.checker.proofs.records.is_box_of.Goals as goal

pub returns : goal.returns
returns c =
    let ws = c.args.widths.now in
    let p = c.args.tuple.now in
    let b = c.args.intervals.now in
    all_from_yields_List (λ z. eqb z.1 (unit_or0 z.0.0 z.0.1)) c.all.new.self _ _ c.all.ensures.ran
    (YieldsList-from_zip (YieldsList-from_zip (YieldsList-from_slice ws cc) (YieldsList-from_slice p cc)) (YieldsList-from_slice b cc)) (λ x b q k. search (rules, tests))
    ∙ units-all ws p b c.requires.tuple c.requires.intervals
