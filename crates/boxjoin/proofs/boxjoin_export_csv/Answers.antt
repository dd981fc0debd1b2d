-- `boxjoin::boxjoin_export_csv` meets its contract: what `export_csv` promises, and its count in a word.
-- Assumes nothing.
use mathlib.Core.Path.{ap, ◌∙◌}
use mathlib.Core.List.{[], ◌∷◌}
use Prim.Native.Nat.{ℕ}
use lib.ListN.{length, take}
use Rattle.questions.specs.Words.{over}
use Rattle.boxjoin.proofs.boxjoin_export_csv.Goals as goal

pub returns : goal.returns
returns c =
    let says = c.export_csv-made.ensures in
    let k = c.args.counts.now in
    record {
      number = says.number;
      bytes = says.bytes;
      counts = c.put_counts.ensures ∙ ap (λ (n : ℕ). over (take (length k) (n ∷ [])) k) says.count;
    }
