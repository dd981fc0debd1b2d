-- `fields::lines::read_places` meets its contract. The loop's invariant: whether the names so far stand below the number at the top, and their places in the array.
-- Assumes nothing.
use Rattle.std.proofs.Common.{rules, arith, refl, ap, ◌∙◌, ℕ, ltb}
use Rattle.fields.specs.Lines.{low_place}
use Rattle.fields.proofs.Cuts.{fields_cut}
use Rattle.fields.proofs.ValueLines.{valued-start, valued-more, valued-end}
use Rattle.fields.proofs.lines.read_places.Goals as goal

pub loop-field-init : goal.loop-field-init
loop-field-init c =
    let cut = c.split-field-items.ensures in
    rw c.into_iter-field-iterator.ensures.into_iter_gives (valued-start (fields_cut _ c.args.line.now cut.rest cut.done cut.closure (λ x b q k. search rules)))

pub loop-field-preserved : goal.loop-field-preserved
loop-field-preserved c =
    let put = c.put_value-count.ensures in
    let is = c.place_or_count-place.ensures in
    valued-more c.loop-field.invariant c.in-Some.is c.next.ensures.steps (omega arith)
    (ap (λ (n : ℕ). ltb n c.args.names) is) (c.as_value.ensures ∙ ap low_place is)
    refl put.next put.values_after

pub returns : goal.returns
returns c = valued-end c.loop-field.invariant c.in-None.is c.next.ensures.steps
