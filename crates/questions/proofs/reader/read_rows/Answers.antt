-- `questions::reader::read_rows` meets its contract. The loop's invariant: what is left to read, after the rows that are read, is what the
-- definition reads in all.
-- Assumes nothing.
use native.Mathlib.Omega.{arith}
use Rattle.questions.proofs.Reading.{passed_up}
use Rattle.questions.proofs.RowsReading.{rows-so-far-start, rows-so-far-refused, row-there, rows-so-far-read, rows-so-far-end, rows-so-far-there}
use Rattle.questions.proofs.reader.read_rows.Goals as goal

pub loop-init : goal.loop-init
loop-init c = rows-so-far-start _ _ _ _ _ _ c.requires (omega arith)

pub returns-in_err-row : goal.returns-in_err-row
returns-in_err-row c =
    rw (passed_up _ _ c.from_residual.ensures.1) (record { is = rows-so-far-refused c.loop.invariant (omega arith) c.in_err-row.ensures.is; there = tt })

pub overflow_add-at : goal.overflow_add-at
overflow_add-at c = omega (arith, row-there c.loop.invariant (omega arith) c.in_ok-row.row c.in_ok-row.ensures.is)

pub loop-preserved : goal.loop-preserved
loop-preserved c = rows-so-far-read c.loop.invariant (omega arith) c.in_ok-row.row c.in_ok-row.ensures.is

pub returns : goal.returns
returns c = record { is = rows-so-far-end c.loop.invariant (omega arith); there = rows-so-far-there c.loop.invariant (omega arith) }
