-- `checker::listing::is_point` meets its contract.
-- Assumes nothing.
use Rattle.std.proofs.Common.{rules, ◌∙◌, ◌^◌, ltb}
use Rattle.checker.proofs.Chains.{pointwise-both}
use Rattle.checker.proofs.listing.is_point.Goals as goal

pub returns : goal.returns
returns c =
    c.each_fits.ensures (λ w a. ltb a (2 ^ w)) (λ w x b h. search rules)
    ∙ pointwise-both (λ w a. ltb a (2 ^ w)) c.args.widths.now c.args.tuple.now
