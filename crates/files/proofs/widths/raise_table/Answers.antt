-- `files::widths::raise_table` meets its contract. The loop's invariant: the columns that are left raise the highest values to what all of them do.
-- Assumes nothing.
use mathlib.Core.Path.{sym, ◌∙◌}
use Prim.Native.Nat.{◌+◌, ◌<◌}
use native.Mathlib.Omega.{arith}
use lib.ListN.{get_or}
use Rattle.boxes.specs.Limits.{max_attributes}
use Rattle.files.proofs.Raises.{columns-all, columns-turn, columns-end, name-low}
use Rattle.files.proofs.widths.raise_table.Goals as goal
use Rattle.files.proofs.widths.raise_table.Goals.{In-loop-j}

-- the attribute of the next column
low : (c : In-loop-j) → get_or c.args.words.now (c.args.at + 1 + c.loop-j.j) 0 < max_attributes
low c = name-low c.requires c.loop-j.j (omega arith)

pub loop-j-init : goal.loop-j-init
loop-j-init c =
    let w = c.args.words.now in
    let at = c.args.at in
    columns-all w (at + 1) (at + 1 + get_or w at 0 + 1) (get_or w at 0) (get_or w (at + 1 + get_or w at 0) 0) c.args.highest.now

pub bounds-highest-name : goal.bounds-highest-name
bounds-highest-name c = low (goal.at.bounds-highest-name c).In-loop-j

pub bounds-highest-name-in-loop-j : goal.bounds-highest-name-in-loop-j
bounds-highest-name-in-loop-j c = low (goal.at.bounds-highest-name-in-loop-j c).In-loop-j

pub loop-j-preserved : goal.loop-j-preserved
loop-j-preserved c =
    let w = c.args.words.now in
    let at = c.args.at in
    let k = get_or w at 0 in
    let m = get_or w (at + 1 + k) 0 in
    columns-turn w (at + 1) (at + 1 + k + 1) k m c.loop-j.j c.loop-j.highest c.highest_in.result (omega arith) c.highest_in.ensures ∙ c.loop-j.invariant

pub returns-clause-raised : goal.returns-clause-raised
returns-clause-raised c =
    let w = c.args.words.now in
    let at = c.args.at in
    let k = get_or w at 0 in
    let m = get_or w (at + 1 + k) 0 in
    sym (columns-end w (at + 1) (at + 1 + k + 1) k m c.loop-j.j c.loop-j.highest (omega arith)) ∙ c.loop-j.invariant
