use mathlib.Core.Path.{◌≡◌}
use Prim.Native.Nat.{◌+◌, ◌-◌}
use Rattle.files.specs.Raising.{raise_columns}
use Rattle.files.proofs.widths.raise_table.Given as goal

abbrev pub invariant-loop-j : goal.invariant-loop-j
invariant-loop-j l =
    raise_columns l.words (l.names + l.j) (l.begin + l.j) l.arity l.count (l.arity - l.j) l.highest ≡ raise_columns l.words l.names l.begin l.arity l.count l.arity l.initial.highest
