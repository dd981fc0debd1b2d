-- `fields::field::place_of` meets its contract: the first of the line's fields that is the same; where there is none, all of them are counted.
-- Assumes nothing.
use Rattle.std.proofs.Common.{rules, ◌≡◌, ◌∙◌, sym, eqb}
use Rattle.std.proofs.lemmas.Iterator.Consumers.{count_from_yields_List}
use Rattle.std.proofs.lemmas.Iterator.Search.{position_from_yields_List}
use Rattle.std.proofs.lemmas.Iterator.Splits.{YieldsList-from_slice_split}
use Rattle.questions.specs.Orders.{same}
use Rattle.fields.specs.Fields.{space, fields_of, is_one}
use Rattle.fields.specs.Lines.{place_in}
use Rattle.fields.proofs.Cuts.{fields_cut, place_cut}
use Rattle.fields.proofs.Options.{given_some, given_none}
use Rattle.fields.proofs.Places.{place-all}
use Rattle.fields.proofs.field.place_of.Goals as goal
use Rattle.fields.proofs.field.place_of.Goals.{After-position}

-- what is found
found : (c : After-position) → c.position.result ≡ place_in (fields_of c.args.line.now) c.args.field.now
found c =
    let cut = c.split.ensures in
    position_from_yields_List (same c.args.field.now) _ _ c.position.result c.position.ensures.ran
    (YieldsList-from_slice_split _ (λ b. eqb b space) c.args.line.now cut.rest cut.done cut.closure (λ x b q k. search rules)) (λ x b q k. search rules)
    ∙ place_cut c.args.field.now c.args.line.now

pub returns-in-Some-clause-is : goal.returns-in-Some-clause-is
returns-in-Some-clause-is c = sym c.in-Some.is ∙ found (goal.at.returns-in-Some-clause-is c).After-position

pub returns-in-Some-clause-place : goal.returns-in-Some-clause-place
returns-in-Some-clause-place c =
    (given_some (is_one (fields_of c.args.line.now) c.args.field.now) _ _ (sym (found (goal.at.returns-in-Some-clause-place c).After-position) ∙ c.in-Some.is)).1

pub returns-in-None-clause-is : goal.returns-in-None-clause-is
returns-in-None-clause-is c = sym c.in-None.is ∙ found (goal.at.returns-in-None-clause-is c).After-position

pub returns-in-None-clause-place : goal.returns-in-None-clause-place
returns-in-None-clause-place c =
    let line = c.args.line.now in
    let cut = c.split-in-None.ensures in
    count_from_yields_List _ c.count.result c.count.ensures.ran (fields_cut _ line cut.rest cut.done cut.closure (λ x b q k. search rules))
    ∙ sym (place-all c.args.field.now (fields_of line)
    (given_none (is_one (fields_of line) c.args.field.now) _ (sym (found (goal.at.returns-in-None-clause-place c).After-position) ∙ c.in-None.is)))
