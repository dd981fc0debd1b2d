-- `fields::lines::as_value` meets its contract: a place is a value, or it is no value.
-- Assumes nothing.
use Rattle.std.proofs.Common.{arith, ltb, ltb-true, ltb-false}
use Rattle.boxes.proofs.Tests.{by}
use Rattle.fields.specs.Limits.{max_value}
use Rattle.fields.proofs.ValueLines.{low_place-low, low_place-high}
use Rattle.fields.proofs.lines.as_value.Goals as goal

pub returns : goal.returns
returns c =
    let place = c.args.place in
    by (ltb place max_value)
    (λ t. omega (arith, c.min.ensures, low_place-low place (omega (arith, ltb-true place max_value t)), ltb-true place max_value t))
    (λ f. omega (arith, c.min.ensures, low_place-high place (ltb-false place max_value f), ltb-false place max_value f))
