-- `checker::widths::each_fits` meets its contract.
-- Assumes nothing.
use Rattle.std.proofs.Common.{rules, sym, ◌∙◌}
use borrow.Author.Tests.{tests, ne_eqb}
use Rattle.std.specs.Cmp.Lexicographic.{unequal}
use Rattle.std.proofs.lemmas.Iterator.{YieldsList-from_slice, YieldsList-from_zip}
use Rattle.std.proofs.lemmas.Iterator.Search.{all_from_yields_List}
use Rattle.boxes.proofs.Every.{pairs-all}
use Rattle.checker.proofs.widths.each_fits.Goals as goal
use Rattle.checker.proofs.widths.each_fits.Goals.{then-widths-elements, else-widths-elements}

pub returns : goal.returns
returns g c f says =
    let ws = c.args.widths.now in
    let xs = c.args.elements.now in
    elim c.if-widths-elements.branch [
      | then-widths-elements w ↦ w.result-is
          ∙ all_from_yields_List (λ z. f z.0 z.1) w.all.new.self _ _ w.all.ensures.ran (YieldsList-from_zip (YieldsList-from_slice ws cc) (YieldsList-from_slice xs cc)) (λ x b q k. search (rules, tests))
          ∙ pairs-all f ws xs w.if-widths-elements.true
      | else-widths-elements w ↦ w.result-is ∙ ne_eqb _ _ w.if-widths-elements.false ∙ sym (unequal f ws xs w.if-widths-elements.false)
    ]
