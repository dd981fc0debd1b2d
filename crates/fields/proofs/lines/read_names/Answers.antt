-- `fields::lines::read_names` meets its contract. The loop's invariant: what there is to say of the fields so far.
-- Assumes nothing.
use Rattle.std.proofs.Common.{rules, arith}
use Rattle.fields.proofs.Cuts.{fields_cut}
use Rattle.fields.proofs.NameLines.{named-start, named-more, named-end}
use Rattle.fields.proofs.lines.read_names.Goals as goal

pub loop-field-init : goal.loop-field-init
loop-field-init c =
    let cut = c.split-field-items.ensures in
    rw c.into_iter-field-iterator.ensures.into_iter_gives (named-start (fields_cut _ c.args.line.now cut.rest cut.done cut.closure (λ x b q k. search rules)))

pub loop-field-preserved : goal.loop-field-preserved
loop-field-preserved c =
    named-more c.loop-field.invariant c.in-Some.is c.next.ensures.steps (omega arith)
    c.still_named-named.ensures c.still_distinct-distinct.ensures c.next_place-count.ensures

pub returns : goal.returns
returns c = named-end c.loop-field.invariant c.in-None.is c.next.ensures.steps
