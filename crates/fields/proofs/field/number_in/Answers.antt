-- `fields::field::number_in` meets its contract. The loop's invariant: the bytes so far are digits, and their value is not too large.
-- Assumes nothing.
use Rattle.std.proofs.Common.{arith, ◌<◌, ◌+◌, ◌-◌, ◌*◌, length, ◌≡◌, true, sym, ◌∙◌, ℕ, get_or}
use borrow.Author.Tests.{eqb-true, eqb-false, eq-eqb, ne_eqb}
use Rattle.boxes.proofs.Every.{every-not-at}
use Rattle.fields.specs.Fields.{is_digit}
use Rattle.fields.proofs.Classes.{digit-is, digit_not, digit-range}
use Rattle.fields.proofs.Numbers.{so-far-none, so_far_more, led, led-zero, led-one, led-other, number_in-none, number_in-lead, number_in-not, number_in-large, number_in-is}
use Rattle.fields.proofs.field.number_in.Goals as goal
use Rattle.fields.proofs.field.number_in.Goals.{In-Digit, else-field-gt1-via-then-field-gt1+else-field-eq48, else-field-gt1-via-else-field-gt1}

-- the byte that is read
abbrev byte : In-Digit → ℕ
byte c = get_or c.args.field.now c.loop-byte.byte-index 0

is_digit_lem : (c : In-Digit) → is_digit (byte c) ≡ true
is_digit_lem c = digit-is (byte c) (sym c.class_of.ensures ∙ c.in-Digit.is)

pub returns-then-is_empty : goal.returns-then-is_empty
returns-then-is_empty c =
    let none : length c.args.field.now ≡ 0 = eqb-true (length c.args.field.now) 0 (sym c.is_empty.ensures ∙ c.if-is_empty.true) in
    sym (number_in-none c.args.field.now (omega arith))

pub returns-then-field-eq48 : goal.returns-then-field-eq48
returns-then-field-eq48 c =
    let field = c.args.field.now in
    sym (number_in-lead field (led-zero field (omega arith) (eq-eqb (get_or field 0 0) 48 c.if-field-eq48.true)))

pub loop-byte-init : goal.loop-byte-init
loop-byte-init c = so-far-none c.args.field.now

pub returns-in_default : goal.returns-in_default
returns-in_default c =
    let field = c.args.field.now in
    let call = c.class_of in
    sym (number_in-not field (every-not-at is_digit field c.loop-byte.byte-index 0 (omega arith)
    (digit_not (get_or field c.loop-byte.byte-index 0) call.result call.ensures c.in_default.not-Digit)))

pub overflow_sub-byte : goal.overflow_sub-byte
overflow_sub-byte c = omega (arith, digit-range (byte (goal.at.overflow_sub-byte c).In-Digit) (is_digit_lem (goal.at.overflow_sub-byte c).In-Digit))

pub returns-in_err-checked_mul : goal.returns-in_err-checked_mul
returns-in_err-checked_mul c =
    let large : c.loop-byte.value * 10 < 65536 → ⊥ = c.in_err-checked_mul.ensures in
    c.from_residual.ensures ∙ sym (number_in-large c.args.field.now c.loop-byte.invariant (omega arith) (omega (arith, large)))

pub returns-in_err-value : goal.returns-in_err-value
returns-in_err-value c =
    let times = c.in_ok-checked_mul.ensures in
    let large = c.in_err-value.ensures in
    c.from_residual-in_err-value.ensures ∙ sym (number_in-large c.args.field.now c.loop-byte.invariant (omega arith) (omega (arith, times.1, large)))

pub loop-byte-preserved : goal.loop-byte-preserved
loop-byte-preserved c =
    let times = c.in_ok-checked_mul.ensures in
    let value = c.in_ok-value.ensures in
    let is : c.in_ok-value.value ≡ c.loop-byte.value * 10 + (byte (goal.at.loop-byte-preserved c).In-Digit - 48) = omega (arith, times.1, value.1) in
    rw is (so_far_more c.args.field.now c.loop-byte.invariant (omega arith) (is_digit_lem (goal.at.loop-byte-preserved c).In-Digit) (omega arith))

pub returns : goal.returns
returns c =
    let field = c.args.field.now in
    let none : length field ≡ 0 → ⊥ = eqb-false (length field) 0 (sym c.is_empty.ensures ∙ c.if-is_empty.false) in
    let lead : led field ≡ true = elim c.else-field-gt1.branch [
      | else-field-gt1-via-then-field-gt1+else-field-eq48 w ↦ led-other field (ne_eqb (get_or field 0 0) 48 w.if-field-eq48.false)
      | else-field-gt1-via-else-field-gt1 w ↦ led-one field (omega (arith, none))
    ] in
    sym (number_in-is field c.loop-byte.invariant (omega arith) (omega (arith, none)) lead)
