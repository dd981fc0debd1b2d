-- `csv_tables::record::read_record` meets its contract. The loop's invariant: the values so far are those of the fields before `at`.
-- Assumes nothing.
use mathlib.Core.Path.{ap, ◌≡◌, sym, subst, ◌∙◌}
use mathlib.Core.Bool.{◌&&◌}
use mathlib.Core.List.{List}
use Prim.Native.Nat.{ℕ, ◌<◌}
use native.Mathlib.Omega.{arith}
use lib.ListN.{length}
use Rattle.std.specs.Prelude.{Option, Some}
use Rattle.fields.specs.Limits.{farthest}
use Rattle.fields.specs.Lines.{is_right}
use Rattle.fields.proofs.Laws.{and-went, and-stopped}
use Rattle.csv_tables.specs.Reading.{Onward}
use Rattle.csv_tables.specs.Judging.{Judges, NoQuotes}
use Rattle.csv_tables.specs.declared.field.After.{After}
use Rattle.csv_tables.proofs.RecordFields.{judged_text, judged-field, some-right, value-or, RecordField, record-start, record-field, record-comma, record-line, record-broken}
use Rattle.csv_tables.proofs.record.read_record.Given.{Over}
use Rattle.csv_tables.proofs.record.read_record.Goals as goal
use Rattle.csv_tables.proofs.record.read_record.Goals.{Joined-right, in-Some, in-None, then-right, else-right}

pub fields-init : goal.fields-init
fields-init g c = (c.requires.from_in_bounds, λ j judges quotes. record-start j c.args.file.now c.args.from)

pub returns-in_err-field : goal.returns-in_err-field
returns-in_err-field g c j judges quotes = rw c.from_residual.ensures (record-broken j (c.fields.invariant.1 j judges quotes) c.in_err-field.ensures)

-- what the field that was read stands for
value : (g : Over) (m : Joined-right g) (j : List ℕ → Option ℕ) → Judges g.F.Fn m.args.judge j → m.match-field.value ≡ judged_text j m.in_ok-field.field.text
value g m j judges =
    elim m.match-field.branch [
      | in-Some w ↦ w.value-is ∙ judges _ _ w.judge-value.ensures ∙ sym (ap (judged_text j) w.in-Some.is)
      | in-None w ↦ w.value-is ∙ sym (ap (judged_text j) w.in-None.is)
    ]

-- whether the fields so far all stand for something
right : (g : Over) (m : Joined-right g) → m.if-right.right ≡ (m.fields.right && is_right m.match-field.value)
right g m =
    elim m.if-right.branch [
      | then-right w ↦ and-went w.if-right.true (w.right-is ∙ w.is_some-right.ensures ∙ some-right m.match-field.value)
      | else-right w ↦ and-stopped (is_right m.match-field.value) w.if-right.false w.right-is
    ]

-- the field that was read, with what follows it
taken : (g : Over) (m : Joined-right g) (j : List ℕ → Option ℕ) → Judges g.F.Fn m.args.judge j → NoQuotes j → {x : After} → m.in_ok-field.field.after ≡ x
    → RecordField j m.args.file.now m.args.from x m.put_value-count.result m.if-right.right m.put_value-count.new.values
taken g m j judges quotes e =
    let short : length m.args.file.now < farthest = omega arith in
    let field = m.in_ok-field.ensures in
    let put = m.put_value-count.ensures in
    subst (λ (y : After). RecordField j m.args.file.now m.args.from y m.put_value-count.result m.if-right.right m.put_value-count.new.values) e
    (record-field j short m.fields.invariant.0 (m.fields.invariant.1 j judges quotes) field (judged-field quotes field (value g m j judges)) put.next (right g m)
    (rw (sym (m.unwrap_or.ensures ∙ value-or m.match-field.value)) put.values_after))

pub fields-preserved : goal.fields-preserved
fields-preserved g c = (
  (subst (λ (y : After). Onward c.fields.at c.args.file.now (Some y)) c.in-Comma.is c.in_ok-field.ensures.onward).1,
  λ j judges quotes. record-comma j (taken g (goal.at.fields-preserved g c).Joined-right j judges quotes c.in-Comma.is),
)

pub returns-in-Line : goal.returns-in-Line
returns-in-Line g c j judges quotes = rw c.then_some.ensures (record-line j (taken g (goal.at.returns-in-Line g c).Joined-right j judges quotes c.in-Line.is))
