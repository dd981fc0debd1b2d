-- `questions::directory::TableEntry::has` meets its contract.
-- Assumes nothing.
use mathlib.Core.Path.{◌∙◌}
use lib.Dec.{eqb}
use Rattle.std.proofs.Common.{rules}
use Rattle.std.proofs.lemmas.Iterator.{YieldsList-from_slice, YieldsList-from_take}
use Rattle.std.proofs.lemmas.Iterator.Consumers.{YieldsList-at}
use Rattle.std.proofs.lemmas.Iterator.Search.{any_from_yields_List}
use Rattle.questions.specs.Directories.{attributes_of}
use Rattle.questions.proofs.Scans.{any-is_in}
use Rattle.questions.proofs.directory.TableEntry.has.Goals as goal

pub returns : goal.returns
returns c =
    any_from_yields_List (λ x. eqb c.args.attribute x) c.any.new.self _ _ c.any.ensures.ran
    (YieldsList-from_take c.args.self.arity (YieldsList-at c.take.ensures.source (YieldsList-from_slice c.args.self.schema cc)) cc)
    (λ x b q k. search rules)
    ∙ any-is_in c.args.attribute (attributes_of c.args.self)
