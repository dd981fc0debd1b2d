-- `fields::top::read_top` meets its contract.
-- Assumes nothing.
use Rattle.std.proofs.Common.{◌≡◌, sym, ap, ◌∙◌}
use Rattle.boxes.specs.Limits.{max_attributes}
use Rattle.fields.specs.Names.{names_number, names_by, top_of}
use Rattle.fields.specs.declared.lines.NameLine.{NameLine}
use Rattle.fields.proofs.Tops.{names_in-names, names_in-number}
use Rattle.fields.proofs.top.read_top.Goals as goal
use Rattle.fields.proofs.top.read_top.Goals.{After-up_to}

-- the answer, by what there is to say of the line
judged : (c : After-up_to) → c.up_to.result ≡ top_of c.args.line.now
judged c = c.up_to.ensures ∙ ap (names_by max_attributes) c.read_names-names.ensures

pub returns-in-Ok-clause-is : goal.returns-in-Ok-clause-is
returns-in-Ok-clause-is c = sym c.in-Ok.is ∙ judged (goal.at.returns-in-Ok-clause-is c).After-up_to

pub returns-in-Ok-clause-number : goal.returns-in-Ok-clause-number
returns-in-Ok-clause-number c =
    ap names_number (sym c.in-Ok.is ∙ judged (goal.at.returns-in-Ok-clause-number c).After-up_to) ∙ names_in-number max_attributes c.args.line.now

pub returns-in-Ok-clause-count : goal.returns-in-Ok-clause-count
returns-in-Ok-clause-count c = (names_in-names max_attributes c.args.line.now (sym (judged (goal.at.returns-in-Ok-clause-count c).After-up_to) ∙ c.in-Ok.is)).count

pub returns-in-Err-clause-is : goal.returns-in-Err-clause-is
returns-in-Err-clause-is c = sym c.in-Err.is ∙ judged (goal.at.returns-in-Err-clause-is c).After-up_to

pub returns-in-Err-clause-number : goal.returns-in-Err-clause-number
returns-in-Err-clause-number c =
    ap names_number (sym c.in-Err.is ∙ judged (goal.at.returns-in-Err-clause-number c).After-up_to) ∙ names_in-number max_attributes c.args.line.now

pub returns-in-Err-clause-count : goal.returns-in-Err-clause-count
returns-in-Err-clause-count c = ap (λ (x : NameLine). x.count) c.read_names-names.ensures
