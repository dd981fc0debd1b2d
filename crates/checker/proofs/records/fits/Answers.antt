-- `checker::records::fits` meets its contract.
-- Assumes nothing.
use Rattle.std.proofs.Common.{rules, ◌∙◌}
use Rattle.boxes.specs.Intervals.{is_interval}
use Rattle.checker.proofs.Chains.{pointwise-both}
use Rattle.checker.proofs.records.fits.Goals as goal

pub returns : goal.returns
returns c =
    c.each_fits.ensures is_interval (λ w x b h. search rules)
    ∙ pointwise-both is_interval c.args.widths.now c.args.intervals.now
