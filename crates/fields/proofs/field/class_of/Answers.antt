-- `fields::field::class_of` meets its contract.
-- Assumes nothing.
use mathlib.Core.Path.{sym}
use native.Mathlib.Omega.{arith}
use Rattle.fields.proofs.Classes.{class_of-letter, class_of-digit, class_of-space, class_of-line_end, class_of-other}
use Rattle.fields.proofs.field.class_of.Goals as goal

pub returns-in-32 : goal.returns-in-32
returns-in-32 c = sym (class_of-space c.args.byte (omega arith))

pub returns-in-10 : goal.returns-in-10
returns-in-10 c = sym (class_of-line_end c.args.byte (omega arith))

pub returns-in-48-to-57 : goal.returns-in-48-to-57
returns-in-48-to-57 c = sym (class_of-digit c.args.byte (omega arith) (omega arith))

pub returns-in-97-to-122 : goal.returns-in-97-to-122
returns-in-97-to-122 c = sym (class_of-letter c.args.byte (omega arith) (omega arith))

pub returns-in_default : goal.returns-in_default
returns-in_default c =
    sym (class_of-other c.args.byte (λ h k. omega arith) (λ h k. omega arith) (λ e. omega arith) (λ e. omega arith))

pub returns-in_default-2 : goal.returns-in_default-2
returns-in_default-2 c =
    sym (class_of-other c.args.byte (λ h k. omega arith) (λ h k. omega arith) (λ e. omega arith) (λ e. omega arith))

pub returns-in_default-3 : goal.returns-in_default-3
returns-in_default-3 c =
    sym (class_of-other c.args.byte (λ h k. omega arith) (λ h k. omega arith) (λ e. omega arith) (λ e. omega arith))
