-- `csv_tables::columns::are_distinct` meets its contract: the first place of each attribute is its own.
-- Assumes nothing.
use Rattle.std.proofs.Common.{rules, ◌∙◌, Some, eqb}
use Rattle.std.specs.Option.{option_eq}
use Rattle.std.proofs.lemmas.Iterator.{YieldsList-from_slice}
use Rattle.std.proofs.lemmas.Iterator.Consumers.{YieldsList-from_enumerate}
use Rattle.std.proofs.lemmas.Iterator.Search.{all_from_yields_List}
use Rattle.csv_tables.specs.Columns.{column_in}
use Rattle.csv_tables.proofs.HeaderPlaces.{distinct-places}
use Rattle.csv_tables.proofs.columns.are_distinct.Goals as goal

pub returns : goal.returns
returns c =
    let xs = c.args.header.now in
    all_from_yields_List (λ p. option_eq eqb (column_in p.1 xs) (Some p.0)) _ _ c.all.result c.all.ensures.ran
    (YieldsList-from_enumerate (YieldsList-from_slice xs (cc)) (cc)) (λ x b q k. search rules)
    ∙ distinct-places xs
