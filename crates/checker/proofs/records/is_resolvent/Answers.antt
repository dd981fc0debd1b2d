-- `checker::records::is_resolvent` meets its contract: at one attribute the two have halves, and at each they resolve.
-- Assumes nothing.
use Rattle.std.proofs.Common.{rules, ◌≡◌, ◌∙◌}
use borrow.Author.Tests.{tests, eq-eqb, ne_eqb}
use Rattle.std.proofs.lemmas.Iterator.{YieldsList-from_slice, YieldsList-from_zip}
use Rattle.std.proofs.lemmas.Iterator.Consumers.{YieldsList-from_filter, count_from_yields_List}
use Rattle.std.proofs.lemmas.Iterator.Search.{all_from_yields_List}
use Rattle.boxes.specs.Intervals.{halves}
use Rattle.boxes.specs.Boxes.{count_halves}
use Rattle.checker.specs.Parts.{resolves_at}
use Rattle.checker.proofs.Chains.{halves-count, resolve-all}
use Rattle.checker.proofs.records.is_resolvent.Goals as goal
use Rattle.checker.proofs.records.is_resolvent.Goals.{After-count-halved}

counted : (c : After-count-halved) → c.count-halved.result ≡ count_halves c.args.first.now c.args.second.now
counted c =
    let us = c.args.first.now in
    let vs = c.args.second.now in
    count_from_yields_List c.filter.result c.count-halved.result c.count-halved.ensures.ran
    (YieldsList-from_filter _ (λ z. halves z.0 z.1) (YieldsList-from_zip (YieldsList-from_slice us cc) (YieldsList-from_slice vs cc)) c.filter.ensures.closure (λ x b q k. search (rules, tests)))
    ∙ halves-count us vs

pub returns-then-halved-eq1 : goal.returns-then-halved-eq1
returns-then-halved-eq1 c =
    let us = c.args.first.now in
    let vs = c.args.second.now in
    let xs = c.args.made.now in
    let e = counted (goal.at.returns-then-halved-eq1 c).After-count-halved in
    rw (← e, eq-eqb c.count-halved.result 1 c.if-halved-eq1.true)
    (all_from_yields_List (λ z. resolves_at z.0.0 z.0.1 z.1) c.all.new.self _ _ c.all.ensures.ran
    (YieldsList-from_zip (YieldsList-from_zip (YieldsList-from_slice us cc) (YieldsList-from_slice vs cc)) (YieldsList-from_slice xs cc)) (λ x b q k. search (rules, tests))
    ∙ resolve-all us vs xs c.requires.second c.requires.made)

pub returns-else-halved-eq1 : goal.returns-else-halved-eq1
returns-else-halved-eq1 c =
    let e = counted (goal.at.returns-else-halved-eq1 c).After-count-halved in
    rw (← e, ne_eqb c.count-halved.result 1 c.if-halved-eq1.false)
