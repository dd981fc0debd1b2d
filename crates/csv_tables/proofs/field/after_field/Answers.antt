-- `csv_tables::field::after_field` meets its contract.
-- Assumes nothing.
use mathlib.Core.Path.{sym, ◌∙◌}
use Prim.Native.Nat.{◌+◌}
use native.Mathlib.Omega.{arith}
use borrow.Author.Tests.{eqb-true, eqb-false}
use lib.ListN.{get_or}
use Rattle.csv_tables.specs.Records.{feed}
use Rattle.csv_tables.proofs.FieldEnds.{after-file, after-comma, after_line, after-other, after-return, feed-within}
use Rattle.csv_tables.proofs.field.after_field.Goals as goal

pub returns-then-at-file : goal.returns-then-at-file
returns-then-at-file c = after-file c.args.file.now c.args.at c.if-at-file.true

pub returns-in-44 : goal.returns-in-44
returns-in-44 c = after-comma c.args.file.now c.args.at (omega arith) (omega arith)

pub returns-in-13 : goal.returns-in-13
returns-in-13 c =
    let s = c.args in
    let is = sym c.stands_at.ensures ∙ c.if-stands_at.true in
    after_line s.file.now s.at (omega arith) (omega arith) (feed-within s.file.now (s.at + 1) is) (eqb-true (get_or s.file.now (s.at + 1) 0) feed is)

pub returns-in_default : goal.returns-in_default
returns-in_default c =
    let s = c.args in
    after-return s.file.now s.at (omega arith) (omega arith) (λ k. eqb-false (get_or s.file.now (s.at + 1) 0) feed (sym c.stands_at.ensures ∙ c.if-stands_at.false))

pub returns-in_default-2 : goal.returns-in_default-2
returns-in_default-2 c = after-other c.args.file.now c.args.at (omega arith) (λ e. omega arith) (λ e. omega arith)
