-- `filing::compare::shared_beginning` meets its contract: as many words of the first question as the two share.
-- Assumes nothing.
use Rattle.std.proofs.Common.{rules, ◌≡◌, sym, ap, subst, ◌∙◌, List, ℕ, length}
use Rattle.filing.specs.Comparisons.{shared_of}
use Rattle.filing.specs.Claims.{Shares}
use Rattle.filing.proofs.Comparing.{shares, shared-taken}
use Rattle.filing.proofs.Saying.{shared-there}
use Rattle.filing.proofs.compare.shared_beginning.Goals as goal
use Rattle.filing.proofs.compare.shared_beginning.Goals.{After-map_or-count}

count : (c : After-map_or-count) → c.map_or-count.result ≡ length (shared_of c.args.first.now c.args.second.now)
count c = shared-there c.filing_of.result c.map_or-count.result (search rules) ∙ c.filing_of.ensures.shared

pub slice_bounds-result-end : goal.slice_bounds-result-end
slice_bounds-result-end c =
    let s = c.args.first.now in
    let t = c.args.second.now in
    let k = count (goal.at.slice_bounds-result-end c).After-map_or-count in
    k ∙ sym (ap length (shared-taken s t c.map_or-count.result k))

pub returns-clause-result_value : goal.returns-clause-result_value
returns-clause-result_value c = shared-taken c.args.first.now c.args.second.now c.map_or-count.result (count (goal.at.returns-clause-result_value c).After-map_or-count)

pub returns-clause-delivered : goal.returns-clause-delivered
returns-clause-delivered c =
    let s = c.args.first.now in
    let t = c.args.second.now in
    subst (λ (r : List ℕ). Shares s t r) (sym (shared-taken s t c.map_or-count.result (count (goal.at.returns-clause-delivered c).After-map_or-count))) (shares s t)
