-- `checker::records::is_whole` meets its contract.
-- Assumes nothing.
use Rattle.std.proofs.Common.{rules, ◌∙◌, eqb}
use borrow.Author.Tests.{tests}
use Rattle.std.proofs.lemmas.Iterator.{YieldsList-from_slice}
use Rattle.std.proofs.lemmas.Iterator.Search.{all_from_yields_List}
use Rattle.checker.proofs.Chains.{whole-all}
use Rattle.checker.proofs.records.is_whole.Goals as goal

pub returns : goal.returns
returns c =
    let xs = c.args.intervals.now in
    all_from_yields_List (λ u. eqb u 1) _ _ _ c.all.ensures.ran (YieldsList-from_slice xs cc) (λ x b q k. search (rules, tests))
    ∙ whole-all xs
