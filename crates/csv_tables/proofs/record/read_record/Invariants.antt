use mathlib.Core.List.{List}
use Prim.Native.Nat.{ℕ, ◌-◌, ◌≤◌}
use lib.ListN.{length}
use Rattle.std.specs.Prelude.{Option}
use Rattle.csv_tables.specs.Judging.{Judges, NoQuotes}
use Rattle.csv_tables.proofs.RecordFields.{RecordOpen}
use Rattle.csv_tables.proofs.record.read_record.Given as goal

abbrev pub invariant-fields : goal.invariant-fields
invariant-fields g l =
    (l.at ≤ length l.file)
    × ((j : List ℕ → Option ℕ) → Judges g.F.Fn l.judge j → NoQuotes j → RecordOpen j l.file l.from l.at l.count l.right l.values)

abbrev pub decreases-fields : goal.decreases-fields
decreases-fields g l = length l.file - l.at
