-- `csv_tables::field::read_quoted` meets its contract. The loop's invariant: the quotes are open, and a doubled quote was met or was not.
-- Assumes nothing.
use mathlib.Core.Path.{sym, subst, ◌∙◌}
use mathlib.Core.List.{List}
use Prim.Native.Nat.{ℕ}
use native.Mathlib.Omega.{arith}
use denote.Ref.{Bor}
use Rattle.std.specs.Prelude.{Option}
use Rattle.csv_tables.specs.Reading.{TextSays}
use Rattle.csv_tables.proofs.FieldEnds.{quoted-more, quoted-doubled, quoted-close, quoted-broken, quoted-other, quoted-unclosed}
use Rattle.csv_tables.proofs.field.read_quoted.Goals as goal
use Rattle.csv_tables.proofs.field.read_quoted.Goals.{then-doubled, else-doubled, in-Quote+then-stands_at, in_default}

pub returns-in-Other : goal.returns-in-Other
returns-in-Other c = quoted-other c.loop-at.invariant (omega arith) (sym c.kind_of.ensures ∙ c.in-Other.is)

pub returns-in_err-after_field-in-Quote : goal.returns-in_err-after_field-in-Quote
returns-in_err-after_field-in-Quote c =
    rw c.from_residual.ensures (quoted-broken c.loop-at.invariant (omega arith) (sym c.kind_of.ensures ∙ c.in-Quote.is) (sym c.stands_at.ensures ∙ c.if-stands_at.false) c.in_err-after_field-in-Quote.ensures)

pub returns-else-stands_at : goal.returns-else-stands_at
returns-else-stands_at c =
    quoted-close c.loop-at.invariant (omega arith) (sym c.kind_of.ensures ∙ c.in-Quote.is) (sym c.stands_at.ensures ∙ c.if-stands_at.false) c.in_ok-after_field-in-Quote.ensures
    (elim c.if-doubled.branch [
      | then-doubled w ↦ subst (λ (t : Option (Bor (List ℕ))). TextSays t c.loop-at.invariant.bytes) (sym w.text-is) (c.loop-at.invariant.quoted w.if-doubled.true)
      | else-doubled w ↦ subst (λ (t : Option (Bor (List ℕ))). TextSays t c.loop-at.invariant.bytes) (sym w.text-is) (sym (c.loop-at.invariant.plain w.if-doubled.false))
    ])

-- one byte, or a doubled quote
pub loop-at-preserved : goal.loop-at-preserved
loop-at-preserved c =
    elim c.match-kind_of.branch [
      | in-Quote+then-stands_at w ↦
          rw (w.doubled-is, w.at-is) (quoted-doubled c.loop-at.invariant (omega arith) (sym c.kind_of.ensures ∙ w.in-Quote.is) (sym w.stands_at.ensures ∙ w.if-stands_at.true))
      | in_default w ↦
          rw (w.doubled-is, w.at-is) (quoted-more c.loop-at.invariant (omega arith) (λ e. w.in_default.not-Other (c.kind_of.ensures ∙ e)) (λ e. w.in_default.not-Quote (c.kind_of.ensures ∙ e)))
    ]

pub returns : goal.returns
returns c = quoted-unclosed c.loop-at.invariant (omega arith)
