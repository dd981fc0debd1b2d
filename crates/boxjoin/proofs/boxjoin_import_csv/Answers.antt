-- `boxjoin::boxjoin_import_csv` meets its contract: what `import_csv` promises, and its count in a word.
-- Assumes nothing.
use mathlib.Core.Path.{ap, ◌∙◌}
use mathlib.Core.List.{[], ◌∷◌}
use Prim.Native.Nat.{ℕ}
use lib.ListN.{length, take}
use Rattle.questions.specs.Words.{over}
use Rattle.boxjoin.proofs.boxjoin_import_csv.Goals as goal

pub returns : goal.returns
returns c =
    let says = c.import_csv-made.ensures.import_says in
    let k = c.args.counts.now in
    record {
      number = says.number;
      words = says.words;
      counts = c.put_counts.ensures ∙ ap (λ (n : ℕ). over (take (length k) (n ∷ [])) k) says.count;
    }
