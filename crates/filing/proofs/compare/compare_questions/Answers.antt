-- `filing::compare::compare_questions` meets its contract.
-- Assumes nothing.
use Rattle.std.proofs.Common.{rules, ◌≡◌, sym, subst, Err}
use Rattle.filing.specs.Comparisons.{Comparison}
use Rattle.filing.specs.Claims.{Compares}
use Rattle.filing.proofs.Comparing.{compares}
use Rattle.filing.proofs.compare.compare_questions.Goals as goal

pub returns-in_err-filing-clause-delivered : goal.returns-in_err-filing-clause-delivered
returns-in_err-filing-clause-delivered c =
    let s = c.args.first.now in
    let t = c.args.second.now in
    let is : c.from_residual.result ≡ Err c.in_err-filing.field-0.0 = search rules in
    rw is (subst (λ (r : Comparison). Compares s t r) (sym c.in_err-filing.ensures.comparison) (compares s t))

pub returns-clause-delivered : goal.returns-clause-delivered
returns-clause-delivered c =
    let s = c.args.first.now in
    let t = c.args.second.now in
    subst (λ (r : Comparison). Compares s t r) (sym c.in_ok-filing.ensures.comparison) (compares s t)
