-- `questions::reader::read_pairs` meets its contract. The loop's invariant: what is left to read, after the pairs that are read, is what the
-- definition reads in all.
-- Assumes nothing.
use native.Mathlib.Omega.{arith}
use Rattle.questions.proofs.PairReading.{pairs-so-far-start, pairs-so-far-refused, pairs-so-far-read, pairs-so-far-end, pairs-so-far-there}
use Rattle.questions.proofs.Reading.{passed_up}
use Rattle.questions.proofs.reader.read_pairs.Goals as goal

pub loop-init : goal.loop-init
loop-init c = pairs-so-far-start c.args.question.now c.args.from c.args.pairs c.args.width

pub returns-in_err-least : goal.returns-in_err-least
returns-in_err-least c =
    rw (passed_up _ _ c.from_residual.ensures.1) (record { is = pairs-so-far-refused c.loop.invariant (omega arith) c.in_err-least.ensures.is; there = tt })

pub loop-preserved : goal.loop-preserved
loop-preserved c =
    let pair = c.in_ok-least.ensures in
    pairs-so-far-read c.loop.invariant (omega arith) pair.is pair.next pair.there

pub returns : goal.returns
returns c = record { is = pairs-so-far-end c.loop.invariant (omega arith); there = pairs-so-far-there c.loop.invariant (omega arith) }
