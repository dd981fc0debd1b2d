-- `csv_tables::rows::compare` meets its contract. The loop's invariant: the first i values of the two are equal.
-- Assumes nothing.
use mathlib.Core.Path.{refl, sym}
use native.Mathlib.Omega.{arith}
use borrow.Author.Count.{below_more}
use Rattle.std.specs.Cmp.{nat_cmp_is}
use Rattle.std.specs.declared.cmp.Ordering.TheVariants.{Less, Greater}
use Rattle.csv_tables.proofs.Placing.{compared-first, compared-same}
use Rattle.csv_tables.proofs.rows.compare.Goals as goal

pub loop-i-init : goal.loop-i-init
loop-i-init c = (omega arith, λ k h. absurd (omega arith))

pub returns-then-left-i : goal.returns-then-left-i
returns-then-left-i c =
    sym (compared-first Less _ _ c.requires c.loop-i.i (omega arith) c.loop-i.invariant.1 (sym (nat_cmp_is _ _ Less c.if-left-i.true)) (λ p. refl))

pub returns-then-right-i : goal.returns-then-right-i
returns-then-right-i c =
    sym (compared-first Greater _ _ c.requires c.loop-i.i (omega arith) c.loop-i.invariant.1 (sym (nat_cmp_is _ _ Greater c.if-right-i.true)) (λ p. refl))

pub loop-i-preserved : goal.loop-i-preserved
loop-i-preserved c =
    (omega arith, below_more _ _ c.loop-i.invariant.1 (omega (arith, c.if-left-i.false, c.if-right-i.false)))

pub returns : goal.returns
returns c = sym (compared-same _ _ c.requires (λ k h. c.loop-i.invariant.1 k (omega arith)))
