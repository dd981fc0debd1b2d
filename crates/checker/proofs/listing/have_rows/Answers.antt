-- `checker::listing::have_rows` meets its contract.
-- Assumes nothing.
use Rattle.std.proofs.Common.{rules, ◌∙◌}
use borrow.Author.Tests.{tests}
use Rattle.std.proofs.lemmas.Iterator.Search.{all_from_yields_List}
use Rattle.checker.specs.Checks.{read_tuples}
use Rattle.checker.specs.Parts.{entry_has_row}
use Rattle.checker.proofs.Chains.{every-all, tuples-come}
use Rattle.checker.proofs.listing.have_rows.Goals as goal

pub returns : goal.returns
returns c =
    let has = entry_has_row c.args.question.now c.args.entry in
    let l = c.args.listing.now in
    all_from_yields_List has c.all.new.self _ _ c.all.ensures.ran
    (tuples-come c.args.n l c.requires.some c.chunks_exact.ensures.rest c.chunks_exact.ensures.size) (λ x b q k. search (rules, tests))
    ∙ every-all has (read_tuples c.args.n l)
