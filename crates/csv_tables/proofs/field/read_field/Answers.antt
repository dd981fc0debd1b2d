-- `csv_tables::field::read_field` meets its contract: a field in quotes, or one that is text.
-- Assumes nothing.
use mathlib.Core.Path.{refl, sym, ◌∙◌}
use native.Mathlib.Omega.{arith}
use Rattle.csv_tables.proofs.FieldEnds.{quote-within, text-field, text-broken, quoted-field}
use Rattle.csv_tables.proofs.field.read_field.Goals as goal

pub read_quoted-requires : goal.read_quoted-requires
read_quoted-requires c =
    let s = c.args in
    omega (arith, quote-within s.file.now s.at (sym c.stands_at.ensures ∙ c.if-stands_at.true))

pub returns-then-stands_at : goal.returns-then-stands_at
returns-then-stands_at c = quoted-field c.args.file.now c.args.at (sym c.stands_at.ensures ∙ c.if-stands_at.true) c.read_quoted.result c.read_quoted.ensures

pub text_end-to-requires : goal.text_end-to-requires
text_end-to-requires c = record { from_in_bounds = c.requires; from_value = sym c.stands_at.ensures ∙ c.if-stands_at.false }

pub returns-in_err-after_field : goal.returns-in_err-after_field
returns-in_err-after_field c = rw c.from_residual.ensures (text-broken c.text_end-to.ensures c.in_err-after_field.ensures)

pub returns : goal.returns
returns c = text-field c.text_end-to.ensures c.in_ok-after_field.ensures _ refl
