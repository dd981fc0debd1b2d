-- `fields::printer::put_digits` meets its contract, with the number as what falls: the digits of its tenth are put, and the last one.
-- Assumes nothing.
use mathlib.Core.Path.{refl}
use native.Mathlib.Omega.{arith}
use Rattle.fields.proofs.Decimals.{decimal-short, decimal-long}
use Rattle.fields.proofs.Puts.{puts_none, puts_then, puts-same}
use Rattle.fields.proofs.printer.+put_digits.Goals as goal
use Rattle.fields.proofs.printer.+put_digits.Goals.{then-value-ge10, else-value-ge10}

pub returns : goal.returns
returns t c =
    let s = c.args in
    elim c.if-value-ge10.branch [
      | then-value-ge10 w ↦
          puts-same (decimal-long s.value w.if-value-ge10.true) refl refl (puts_then (puts-same refl w.out-is w.end-is w.put_digits-end.ensures) c.put_byte.ensures)
      | else-value-ge10 w ↦
          puts-same (decimal-short s.value w.if-value-ge10.false) refl refl (puts_then (puts-same refl w.out-is w.end-is (puts_none s.at s.out.now (omega arith))) c.put_byte.ensures)
    ]
