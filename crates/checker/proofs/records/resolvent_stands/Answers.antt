-- `checker::records::resolvent_stands` meets its contract.
-- Assumes nothing.
use Rattle.std.proofs.Common.{◌∙◌, [], length}
use Rattle.checker.proofs.Checking.{resolvent-is}
use Rattle.checker.proofs.records.resolvent_stands.Goals as goal

pub returns-in-Some-Some : goal.returns-in-Some-Some
returns-in-Some-Some c =
    let first = c.in-Some-Some.ensures.lookup.3 in
    let second = c.in-Some-Some.ensures'.lookup.3 in
    c.is_resolvent.ensures
    ∙ resolvent-is c.args.earlier.now (length c.args.intervals.now) c.args.first c.args.second c.in-Some-Some.lower.now c.in-Some-Some.upper.now c.args.intervals.now
    c.requires first.0 second.0 (first.1 []) (second.1 [])
