use mathlib.Core.Path.{◌≡◌}
use Prim.Native.Nat.{◌-◌}
use lib.ListN.{replicate}
use Rattle.boxes.specs.Limits.{max_attributes}
use Rattle.files.specs.Raising.{raise_tables, TablesAt}
use Rattle.files.proofs.widths.highest_values.Given as goal

abbrev pub invariant-loop-table : goal.invariant-loop-table
invariant-loop-table l =
    TablesAt l.words (l.tables - l._table) l.at
    × (raise_tables l.words (l.tables - l._table) l.at l.highest ≡ raise_tables l.words l.tables l.from (replicate max_attributes 0))
