-- `csv_tables::field::is_text` meets its contract.
-- Assumes nothing.
use mathlib.Core.Path.{sym, ◌∙◌}
use Rattle.csv_tables.proofs.ByteKinds.{text-true, text-false}
use Rattle.csv_tables.proofs.field.is_text.Goals as goal

pub returns-in-Text : goal.returns-in-Text
returns-in-Text c = sym (text-true c.args.byte (sym c.kind_of.ensures ∙ c.in-Text.is))

pub returns-in_default : goal.returns-in_default
returns-in_default c = sym (text-false c.args.byte (λ e. c.in_default.not-Text (c.kind_of.ensures ∙ e)))
