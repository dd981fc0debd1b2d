-- `streams::read_all` meets its contract: what the buffer begins with is what the reader gave.
use Rattle.std.proofs.Common.{rules, arith}
use Rattle.streams.proofs.Reading.{consumes-nothing, read-more, read-nothing, read-fails, failed-read}
use Rattle.streams.proofs.read_all.Goals as goal

pub loop-at-init : goal.loop-at-init
loop-at-init g c = (search rules, search rules, consumes-nothing _)

pub loop-at-preserved : goal.loop-at-preserved
loop-at-preserved g c =
    (search rules, search rules, read-more _ _ _ _ _ _ _ _ c.loop-at.invariant.0 c.in_ok-count.ensures.bound.0 c.loop-at.invariant.2 c.in_ok-count.ensures.bytes.0)

pub returns-in_err-count-clause-read : goal.returns-in_err-count-clause-read
returns-in_err-count-clause-read g c =
    failed-read _ _ _ _ c.from_residual.ensures.0
    (c.loop-at.at, search rules, read-fails _ _ _ _ _ _ _ c.loop-at.invariant.0 c.loop-at.invariant.2 c.in_err-count.ensures.bytes)

pub returns-then-count-eq0-clause-read : goal.returns-then-count-eq0-clause-read
returns-then-count-eq0-clause-read g c =
    (read-nothing _ _ _ _ _ _ _ _ c.if-count-eq0.true c.loop-at.invariant.0 c.loop-at.invariant.2 c.in_ok-count.ensures.bytes.0, λ below. c.in_ok-count.ensures.bytes.1 c.if-count-eq0.true (omega arith))

pub returns-clause-read : goal.returns-clause-read
returns-clause-read g c = (c.loop-at.invariant.2, search rules)
