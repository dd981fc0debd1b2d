-- `questions::reader::read_attributes` meets its contract. The loop's invariant: what is left to read, after the i attribute numbers that are read,
-- is what the definition reads in all, and `next` is the least number above the last one.
-- Assumes nothing.
use mathlib.Core.Path.{◌≡◌, refl, ap, ◌∙◌}
use Prim.Native.Nat.{◌+◌}
use native.Mathlib.Omega.{arith}
use lib.ListN.{get_or, take}
use Rattle.questions.specs.Questions.{bad, above_last, attribute_check}
use Rattle.questions.proofs.ListReading.{attributes_reader, so-far-start, so-far-missing, so-far-refused, so-far-read, so-far-end, so-far-filled}
use Rattle.questions.proofs.Numbers.{above_last-read, number-high, number-low, number-good}
use Rattle.questions.proofs.Reading.{passed_up}
use Rattle.questions.proofs.reader.read_attributes.Goals as goal
use Rattle.questions.proofs.reader.read_attributes.Goals.{then-n-attribute-via-then-n-attribute, then-n-attribute-via-else-n-attribute+then-attribute-next}

pub loop-i-init : goal.loop-i-init
unfolding above_last
loop-i-init c = (so-far-start (attributes_reader c.args.n c.args.arity) _ _ c.requires, refl)

pub returns-in_err-attribute : goal.returns-in_err-attribute
returns-in_err-attribute c =
    let missing = c.in_err-attribute.ensures in
    rw (passed_up _ _ c.from_residual.ensures.1) (record { is = ap bad missing.1 ∙ so-far-missing c.loop-i.invariant.0 (omega arith) missing.0; array = tt })

pub returns-then-n-attribute : goal.returns-then-n-attribute
returns-then-n-attribute c =
    let word = c.in_ok-attribute.ensures in
    let read = take c.loop-i.i c.loop-i.schema in
    let number = get_or c.args.question.now (c.args.from + c.loop-i.i) 0 in
    let refused : attribute_check c.args.n read number ≡ 7 = elim c.then-n-attribute.branch [
      | then-n-attribute-via-then-n-attribute w ↦ number-high c.args.n read number (omega (arith, word.1, w.if-n-attribute.true))
      | then-n-attribute-via-else-n-attribute+then-attribute-next w ↦ number-low c.args.n read number (omega (arith, word.1, w.if-attribute-next.true))
    ] in
    record { is = so-far-refused c.loop-i.invariant.0 (omega arith) word.0 6 refused; array = tt }

pub loop-i-preserved : goal.loop-i-preserved
loop-i-preserved c =
    let word = c.in_ok-attribute.ensures in
    let number = get_or c.args.question.now (c.args.from + c.loop-i.i) 0 in
    let good = number-good c.args.n (take c.loop-i.i c.loop-i.schema) number (omega (arith, word.1)) (omega (arith, word.1)) in
    rw word.1 (
      so-far-read c.loop-i.invariant.0 (omega arith) word.0 good,
      above_last-read number c.loop-i.invariant.0.array (omega (arith, c.requires)),
    )

pub returns : goal.returns
returns c = record { is = so-far-end c.loop-i.invariant.0 (omega arith); array = so-far-filled c.loop-i.invariant.0 (omega arith) }
