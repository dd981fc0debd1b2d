-- `checker::listing::have_all_rows` meets its contract.
-- Assumes nothing.
use Rattle.std.proofs.Common.{rules, ◌∙◌}
use borrow.Author.Tests.{tests}
use Rattle.std.proofs.lemmas.Iterator.{YieldsList-from_slice}
use Rattle.std.proofs.lemmas.Iterator.Search.{all_from_yields_List}
use Rattle.boxes.specs.Every.{every}
use Rattle.checker.specs.Checks.{read_tuples}
use Rattle.checker.specs.Parts.{entry_has_row}
use Rattle.checker.proofs.Chains.{entries-all}
use Rattle.checker.proofs.listing.have_all_rows.Goals as goal

pub returns : goal.returns
returns c =
    let w = c.args.question.now in
    let es = c.args.entries.now in
    let ts = read_tuples c.args.n c.args.listing.now in
    all_from_yields_List (λ e. every (entry_has_row w e) ts) c.all.new.self _ _ c.all.ensures.ran (YieldsList-from_slice es cc) (λ x b q k. search (rules, tests))
    ∙ entries-all w es ts
