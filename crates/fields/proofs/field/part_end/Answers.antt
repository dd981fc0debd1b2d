-- `fields::field::part_end` meets its contract: a part ends before the first separator.
-- Assumes nothing.
use Rattle.std.proofs.Common.{rules, arith, sym, ◌≤◌, eqb, length}
use Rattle.std.proofs.lemmas.Iterator.{YieldsList-from_slice}
use Rattle.std.proofs.lemmas.Iterator.Search.{position_from_yields_List}
use Rattle.boxes.proofs.Tests.{either}
use Rattle.fields.proofs.Parts.{part_end-beyond, part_end-found}
use Rattle.fields.proofs.field.part_end.Goals as goal

pub returns-in_default : goal.returns-in_default
returns-in_default c =
    let s = c.args in
    let beyond : length s.bytes.now ≤ s.at = either c.in_default.ensures.lookup.0 (λ h. omega arith) (λ h. omega arith) in
    sym (part_end-beyond s.separator s.bytes.now s.at beyond)

pub returns : goal.returns
returns c =
    let s = c.args in
    let found = position_from_yields_List (λ b. eqb b s.separator) _ _ c.position-length.result c.position-length.ensures.ran (YieldsList-from_slice c.in-Some.rest.now (cc)) (λ x b q k. search rules) in
    part_end-found s.separator s.bytes.now s.at c.in-Some.ensures.lookup.0.2 found c.unwrap_or.ensures
