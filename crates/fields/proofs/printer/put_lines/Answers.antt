-- `fields::printer::put_lines` meets its contract. The loop's invariant: the lines of the tuples so far are put.
-- Assumes nothing.
use Rattle.std.proofs.Common.{arith, refl, ap, ◌∙◌}
use Rattle.questions.proofs.Laws.{flat-none}
use Rattle.fields.specs.Writing.{lines_by}
use Rattle.fields.proofs.Puts.{puts_none, puts-same}
use Rattle.fields.proofs.WrittenTuples.{tuples_of-zero, lines-none, lines-turn, lines-done}
use Rattle.fields.proofs.printer.put_lines.Goals as goal

pub returns-then-arity-eq0 : goal.returns-then-arity-eq0
returns-then-arity-eq0 g c = λ line puts.
    let s = c.args in
    puts-same (ap (lines_by line) (tuples_of-zero s.listing.now s.arity c.if-arity-eq0.true) ∙ flat-none) refl refl (puts_none s.at s.out.now (omega arith))

pub loop-tuple-init : goal.loop-tuple-init
loop-tuple-init g c =
    let s = c.args in
    let chunks = c.chunks_exact-tuple-items.ensures in
    rw c.into_iter-tuple-iterator.ensures.into_iter_gives
    (chunks.size, λ line puts. rw chunks.rest (lines-none line s.listing.now s.arity s.at s.out.now (omega arith)))

pub loop-tuple-preserved : goal.loop-tuple-preserved
loop-tuple-preserved g c =
    let step = rw c.in-Some.is at c.next.ensures.steps in
    let before = c.loop-tuple.invariant in
    (step.0 ∙ before.0, λ line puts. lines-turn (before.1 line puts) (omega arith) (step.1.1 ∙ before.0) step.1.0 (puts _ _ _ _ _ c.put-end.ensures))

pub returns : goal.returns
returns g c = λ line puts.
    let step = rw c.in-None.is at c.next.ensures.steps in
    lines-done (c.loop-tuple.invariant.1 line puts) (omega (arith, step.1.0, c.loop-tuple.invariant.0))
