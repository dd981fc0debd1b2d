-- `fields::field::is_letter` meets its contract, by the class of the byte.
-- Assumes nothing.
use Rattle.std.proofs.Common.{sym, ◌∙◌}
use Rattle.fields.proofs.Classes.{letter-is, letter-not}
use Rattle.fields.proofs.field.is_letter.Goals as goal

pub returns-in-Letter : goal.returns-in-Letter
returns-in-Letter c = sym (letter-is c.args.byte.now (sym c.class_of.ensures ∙ c.in-Letter.is))

pub returns-in_default : goal.returns-in_default
returns-in_default c = sym (letter-not c.args.byte.now c.class_of.result c.class_of.ensures c.in_default.not-Letter)
