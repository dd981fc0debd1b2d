-- `questions::directory::cover_all` meets its contract.
-- Assumes nothing.
use mathlib.Core.Path.{◌∙◌}
use native.Mathlib.Omega.{arith}
use Rattle.std.proofs.Common.{rules}
use Rattle.std.proofs.lemmas.Iterator.{YieldsList-from_range}
use Rattle.std.proofs.lemmas.Iterator.Search.{all_from_yields_List}
use Rattle.questions.specs.Directories.{entries_restrict}
use Rattle.questions.proofs.Scans.{all-cover}
use Rattle.questions.proofs.directory.cover_all.Goals as goal

pub returns : goal.returns
returns c =
    all_from_yields_List (λ a. entries_restrict a c.args.entries.now) c.all.new.self _ _ c.all.ensures.ran
    (YieldsList-from_range 0 c.args.count c.args.count (cc) (omega arith))
    (λ x b q k. search rules)
    ∙ all-cover c.args.count c.args.entries.now
