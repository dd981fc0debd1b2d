-- `streams::write_page` meets its contract: the writer took what the page begins with.
use Rattle.std.proofs.Common.{rules, arith, ◌≤◌, ◌-◌}
use Rattle.streams.proofs.Reading.{write-more}
use Rattle.streams.proofs.write_page.Goals as goal

pub loop-at-preserved : goal.loop-at-preserved
loop-at-preserved g c =
    let fits : c.in_ok-taken.taken ≤ c.args.count - c.loop-at.at = search rules in
    (omega arith, write-more _ _ _ c.loop-at.at c.args.count c.in_ok-taken.taken c.args.page.now fits c.loop-at.invariant.1 c.in_ok-taken.ensures.bytes)
