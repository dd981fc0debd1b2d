-- `checker::records::records_fit` meets its contract.
-- Assumes nothing.
use Rattle.std.proofs.Common.{rules, sym, ◌∙◌, length}
use borrow.Author.Tests.{tests}
use Rattle.std.proofs.lemmas.Iterator.{YieldsList-from_slice}
use Rattle.std.proofs.lemmas.Iterator.Search.{all_from_yields_List}
use Rattle.boxes.proofs.Every.{every_map}
use Rattle.search.specs.Records.{stored_of}
use Rattle.checker.specs.Parts.{fits_whole}
use Rattle.checker.proofs.Chains.{every-all}
use Rattle.checker.proofs.records.records_fit.Goals as goal

pub returns : goal.returns
returns c =
    let ws = c.args.widths.now in
    let rs = c.args.records.now in
    all_from_yields_List (λ r. fits_whole (length ws) ws (stored_of r)) c.all.new.self _ _ c.all.ensures.ran (YieldsList-from_slice rs cc) (λ x b q k. search (rules, tests))
    ∙ every-all (λ r. fits_whole (length ws) ws (stored_of r)) rs
    ∙ sym (every_map (fits_whole (length ws) ws) stored_of rs)
