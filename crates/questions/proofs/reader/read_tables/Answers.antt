-- `questions::reader::read_tables` meets its contract. The loop's invariant: what is left to read, after the i tables that are read, is what the
-- definition reads in all.
-- Assumes nothing.
use native.Mathlib.Omega.{arith}
use Rattle.questions.proofs.Reading.{passed_up}
use Rattle.questions.proofs.TablesReading.{tables-so-far-start, tables-so-far-refused, tables-so-far-read, tables-so-far-end}
use Rattle.questions.proofs.reader.read_tables.Goals as goal

pub loop-i-init : goal.loop-i-init
loop-i-init c = rw c.requires.2 (tables-so-far-start _ _ _ _ _ c.requires.0)

pub returns-in_err-entry : goal.returns-in_err-entry
returns-in_err-entry c =
    rw (passed_up _ _ c.from_residual.ensures.1) (record { is = tables-so-far-refused c.loop-i.invariant (omega arith) c.in_err-entry.ensures.is; within = tt; array = tt; entries = tt })

pub end-at-requires : goal.end-at-requires
end-at-requires c = omega (arith, c.in_ok-entry.ensures.within.ends)

pub loop-i-preserved : goal.loop-i-preserved
loop-i-preserved c = tables-so-far-read c.loop-i.invariant (omega arith) c.in_ok-entry.ensures c.end-at.ensures

pub returns : goal.returns
returns c = tables-so-far-end c.loop-i.invariant (omega arith)
