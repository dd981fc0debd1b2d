-- `fields::field::is_name` meets its contract: every byte is a letter.
-- Assumes nothing.
use Rattle.std.proofs.Common.{rules, arith, length, ◌≡◌, sym, ◌∙◌}
use Rattle.std.proofs.lemmas.Iterator.{YieldsList-from_slice}
use Rattle.std.proofs.lemmas.Iterator.Search.{all_from_yields_List}
use borrow.Author.Tests.{lt-leb, eqb-true, eqb-false}
use Rattle.fields.specs.Fields.{every, is_letter}
use Rattle.fields.proofs.Cuts.{every-list_all}
use Rattle.fields.proofs.Names.{is_name-none, is_name-long, is_name-by}
use Rattle.fields.proofs.field.is_name.Goals as goal

pub returns-then-is_empty : goal.returns-then-is_empty
returns-then-is_empty c =
    let none : length c.args.field.now ≡ 0 = eqb-true (length c.args.field.now) 0 (sym c.is_empty.ensures ∙ c.if-is_empty.true) in
    sym (is_name-none c.args.field.now (omega arith))

pub returns-then-field-le-MAX_NAME : goal.returns-then-field-le-MAX_NAME
returns-then-field-le-MAX_NAME c =
    let field = c.args.field.now in
    let letters : c.all.result ≡ every is_letter field =
    all_from_yields_List is_letter _ _ c.all.result c.all.ensures.ran (YieldsList-from_slice field (cc)) (λ x b q k. search rules) ∙ every-list_all is_letter field in
    let none : length field ≡ 0 → ⊥ = eqb-false (length field) 0 (sym c.is_empty.ensures ∙ c.if-is_empty.false) in
    letters ∙ sym (is_name-by field (omega (arith, none)) (omega arith))

pub returns-else-field-le-MAX_NAME : goal.returns-else-field-le-MAX_NAME
returns-else-field-le-MAX_NAME c =
    lt-leb (length c.args.field.now) 12 (omega arith) ∙ sym (is_name-long c.args.field.now (omega arith))
