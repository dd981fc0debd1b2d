-- `fields::field::is_same` meets its contract.
-- Assumes nothing.
use Rattle.std.proofs.Common.{rules, ◌∙◌, eqb}
use Rattle.std.proofs.lemmas.Iterator.{YieldsList-from_slice, YieldsList-from_zip}
use Rattle.std.proofs.lemmas.Iterator.Search.{all_from_yields_List}
use Rattle.fields.proofs.Cuts.{same-long, all-same}
use Rattle.fields.proofs.field.is_same.Goals as goal

pub returns-then-field-other : goal.returns-then-field-other
returns-then-field-other c = same-long c.args.field.now c.args.other.now c.if-field-other.true

pub returns : goal.returns
returns c =
    all_from_yields_List (λ p. eqb p.0 p.1) c.all.new.self _ _ c.all.ensures.ran
    (YieldsList-from_zip (YieldsList-from_slice c.args.field.now cc) (YieldsList-from_slice c.args.other.now cc)) (λ x b q k. search rules)
    ∙ all-same c.args.field.now c.args.other.now c.if-field-other.false
