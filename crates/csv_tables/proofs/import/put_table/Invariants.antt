use mathlib.Core.Path.{◌≡◌}
use mathlib.Core.List.{◌++◌}
use Prim.Native.Nat.{◌+◌, ◌*◌}
use lib.ListN.{take}
use Rattle.questions.specs.Words.{flat, over}
use Rattle.csv_tables.specs.Keeping.{rows_in}
use Rattle.csv_tables.proofs.import.put_table.Given as goal

abbrev pub invariant-loop-number : goal.invariant-loop-number
invariant-loop-number l =
    (l.at ≡ l.initial.at + l.number-index * l.arity)
    × (l.words ≡ over (take l.initial.at l.initial.words ++ flat (rows_in l.arity l.rows (take l.number-index l.order))) l.initial.words)
