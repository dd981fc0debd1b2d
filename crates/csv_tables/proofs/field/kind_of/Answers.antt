-- `csv_tables::field::kind_of` meets its contract.
-- Assumes nothing.
use mathlib.Core.Path.{sym}
use native.Mathlib.Omega.{arith}
use Rattle.csv_tables.proofs.ByteKinds.{text-low, text-middle, text-high, kind_of-text, kind_of-comma, kind_of-quote, kind_of-return, kind_of-feed, kind_of-other}
use Rattle.csv_tables.proofs.field.kind_of.Goals as goal

pub returns-in-34 : goal.returns-in-34
returns-in-34 c = sym (kind_of-quote c.args.byte (omega arith))

pub returns-in-44 : goal.returns-in-44
returns-in-44 c = sym (kind_of-comma c.args.byte (omega arith))

pub returns-in-13 : goal.returns-in-13
returns-in-13 c = sym (kind_of-return c.args.byte (omega arith))

pub returns-in-10 : goal.returns-in-10
returns-in-10 c = sym (kind_of-feed c.args.byte (omega arith))

pub returns-in-32-to-33 : goal.returns-in-32-to-33
returns-in-32-to-33 c = let b = c.args.byte in sym (kind_of-text b (text-low b (omega arith) (omega arith)))

pub returns-in-35-to-43 : goal.returns-in-35-to-43
returns-in-35-to-43 c = let b = c.args.byte in sym (kind_of-text b (text-middle b (omega arith) (omega arith)))

pub returns-in-45-to-126 : goal.returns-in-45-to-126
returns-in-45-to-126 c = let b = c.args.byte in sym (kind_of-text b (text-high b (omega arith) (omega arith)))

pub returns-in_default : goal.returns-in_default
returns-in_default c = let b = c.args.byte in sym (kind_of-other b (λ h k. omega arith) (λ e. omega arith) (λ e. omega arith))

pub returns-in_default-2 : goal.returns-in_default-2
returns-in_default-2 c = let b = c.args.byte in sym (kind_of-other b (λ h k. omega arith) (λ e. omega arith) (λ e. omega arith))
