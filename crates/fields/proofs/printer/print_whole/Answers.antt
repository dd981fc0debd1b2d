-- `fields::printer::print_whole` meets its contract: the bytes are counted on an empty slice, and put where they fit.
-- Assumes nothing.
use Rattle.std.proofs.Common.{List, [], ℕ}
use Rattle.fields.specs.Puts.{Puts, PutsWhole}
use Rattle.fields.proofs.Puts.{prints-all, prints-none}
use Rattle.fields.proofs.printer.print_whole.Goals as goal
use Rattle.fields.proofs.printer.print_whole.Goals.{then-count-out, else-count-out}

pub returns : goal.returns
returns g c = λ (bytes : List ℕ) (puts : PutsWhole g.F.Fn c.args.put bytes).
    let counted : Puts bytes 0 [] c.put-count.new.arg2 c.put-count.result = puts _ _ _ c.put-count.ensures in
    elim c.if-count-out.branch [
      | then-count-out w ↦ rw w.out-is (prints-all counted c.args.out.now w.if-count-out.true (puts _ _ _ w.put.ensures))
      | else-count-out w ↦ rw w.out-is (prints-none counted c.args.out.now w.if-count-out.false)
    ]
