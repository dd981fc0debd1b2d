-- `checker::listing::are_points` meets its contract.
-- Assumes nothing.
use Rattle.std.proofs.Common.{rules, ◌∙◌, length}
use borrow.Author.Tests.{tests}
use Rattle.std.proofs.lemmas.Iterator.Search.{all_from_yields_List}
use Rattle.checker.specs.Checks.{is_point, read_tuples}
use Rattle.checker.proofs.Chains.{every-all, tuples-come}
use Rattle.checker.proofs.listing.are_points.Goals as goal

pub returns : goal.returns
returns c =
    let ws = c.args.widths.now in
    let l = c.args.listing.now in
    all_from_yields_List (is_point ws) c.all.new.self _ _ c.all.ensures.ran
    (tuples-come (length ws) l c.requires c.chunks_exact.ensures.rest c.chunks_exact.ensures.size) (λ x b q k. search (rules, tests))
    ∙ every-all (is_point ws) (read_tuples (length ws) l)
