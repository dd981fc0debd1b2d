-- `fields::lines::read_numbers` meets its contract. The loop's invariant: whether the fields so far are numbers, and these in the array.
-- Assumes nothing.
use Rattle.std.proofs.Common.{rules, arith, refl, ◌∙◌, ap}
use Rattle.std.specs.Prelude.{is_some, unwrap_or}
use Rattle.fields.proofs.Options.{given_is}
use Rattle.fields.proofs.Numbers.{number-or}
use Rattle.fields.proofs.Cuts.{fields_cut}
use Rattle.fields.proofs.ValueLines.{valued-start, valued-more, valued-end}
use Rattle.fields.proofs.lines.read_numbers.Goals as goal

pub loop-field-init : goal.loop-field-init
loop-field-init c =
    let cut = c.split-field-items.ensures in
    rw c.into_iter-field-iterator.ensures.into_iter_gives (valued-start (fields_cut _ c.args.line.now cut.rest cut.done cut.closure (λ x b q k. search rules)))

pub loop-field-preserved : goal.loop-field-preserved
loop-field-preserved c =
    let put = c.put_value-count.ensures in
    let number = c.number_in-number.ensures in
    valued-more c.loop-field.invariant c.in-Some.is c.next.ensures.steps (omega arith)
    (c.is_some-right.ensures ∙ ap is_some number ∙ given_is _ _)
    (c.unwrap_or.ensures ∙ ap (λ o. unwrap_or o 0) number ∙ number-or c.in-Some.field.now)
    refl put.next put.values_after

pub returns : goal.returns
returns c = valued-end c.loop-field.invariant c.in-None.is c.next.ensures.steps
