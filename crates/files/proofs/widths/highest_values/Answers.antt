-- `files::widths::highest_values` meets its contract. The loop's invariant: the tables that are left stand there, and raise the highest values to what all of them do.
-- Assumes nothing.
use mathlib.Core.Path.{◌≡◌, sym, ◌∙◌}
use Prim.Native.Nat.{◌+◌, ◌-◌}
use native.Mathlib.Omega.{arith}
use Rattle.files.proofs.RaisedTables.{tables-turn, tables_end, first-at, rest_at}
use Rattle.files.proofs.widths.highest_values.Goals as goal

pub raise_table-at-requires : goal.raise_table-at-requires
raise_table-at-requires c = first-at c.args.words.now c.loop-table.invariant.0 (omega arith)

pub loop-table-preserved : goal.loop-table-preserved
loop-table-preserved c =
    let w = c.args.words.now in
    let l = c.loop-table in
    let left = c.args.tables - l._table in
    let rest : left - 1 ≡ c.args.tables - (l._table + 1) = omega arith in
    rw (c.raise_table-at.ensures.end, c.raise_table-at.ensures.raised, sym rest)
    (rest_at w l.invariant.0 (omega arith), tables-turn w left l.at l.highest (omega arith) ∙ l.invariant.1)

pub returns : goal.returns
returns c =
    let l = c.loop-table in
    sym (tables_end c.args.words.now (c.args.tables - l._table) l.at l.highest (λ h. omega arith)) ∙ l.invariant.1
