-- `fields::lines::take_places` meets its contract: all names stand at the top where their places are below how many fields it has.
-- Assumes nothing.
use Rattle.std.proofs.Common.{rules, ◌≡◌, List, ℕ, ◌∙◌, ap, length}
use Rattle.std.specs.Prelude.{Option, Some, None}
use Rattle.std.proofs.lemmas.Iterator.Consumers.{count_from_yields_List}
use Rattle.boxes.specs.Intervals.{pick}
use Rattle.fields.specs.Fields.{fields_of}
use Rattle.fields.specs.Lines.{place_line, places_in}
use Rattle.fields.specs.declared.lines.ValueLine.{ValueLine}
use Rattle.fields.proofs.Options.{then-given}
use Rattle.fields.proofs.Cuts.{fields_cut}
use Rattle.fields.proofs.lines.take_places.Goals as goal
use Rattle.fields.proofs.lines.take_places.Goals.{After-read_places-places}

-- what is answered of a line
abbrev taken : ValueLine → Option (List ℕ)
taken x = pick x.right (Some x.values) None

are : (c : After-read_places-places) → taken c.read_places-places.result ≡ places_in c.args.top.now c.args.line.now
are c =
    let cut = c.split.ensures in
    let many : c.count.result ≡ length (fields_of c.args.top.now) = count_from_yields_List _ c.count.result c.count.ensures.ran (fields_cut _ c.args.top.now cut.rest cut.done cut.closure (λ x b q k. search rules)) in
    ap taken (c.read_places-places.ensures ∙ ap (λ (n : ℕ). place_line c.args.top.now n c.args.line.now) many)

pub returns : goal.returns
returns c = let at = goal.at.returns c in c.then_some.ensures ∙ then-given _ _ ∙ are at.After-read_places-places
