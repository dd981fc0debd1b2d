-- `questions::directory::some_restricts` meets its contract.
-- Assumes nothing.
use mathlib.Core.Path.{◌∙◌}
use Rattle.std.proofs.Common.{rules}
use Rattle.std.proofs.lemmas.Iterator.{YieldsList-from_slice}
use Rattle.std.proofs.lemmas.Iterator.Search.{any_from_yields_List}
use Rattle.questions.specs.Directories.{entry_restricts}
use Rattle.questions.proofs.Scans.{any-restricts}
use Rattle.questions.proofs.directory.some_restricts.Goals as goal

pub returns : goal.returns
returns c =
    any_from_yields_List (entry_restricts c.args.attribute) c.any.new.self _ _ c.any.ensures.ran
    (YieldsList-from_slice c.args.entries.now cc)
    (λ x b q k. search rules)
    ∙ any-restricts c.args.attribute c.args.entries.now
