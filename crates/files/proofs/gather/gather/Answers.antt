-- `files::gather::gather` meets its contract.
-- Assumes nothing.
use mathlib.Core.Logic.{inl, inr}
use Prim.Native.Nat.{◌≤◌}
use native.Mathlib.Omega.{arith}
use lib.ListN.{length, get_or}
use Rattle.boxes.specs.Limits.{max_attributes}
use Rattle.fields.proofs.Laws.{top_check-names}
use Rattle.files.proofs.Gathering.{so-far-start, end_refused, file-refused, file-taken, all-taken}
use Rattle.files.proofs.gather.gather.Goals as goal
use Rattle.files.proofs.gather.gather.Goals.{Else-end-from, Start, then-files-end-via-then-files-end, then-files-end-via-else-files-end+then-end-from}

-- few attributes and few files
few : (c : Start) → c.args.dimension ≤ max_attributes
few c = omega (arith, c.requires.dimension, (top_check-names c.args.names.now c.requires.named).few)

-- the file's end is not below the one before, and within the bytes
onward : (c : Else-end-from) → c.loop-i.from ≤ get_or c.args.ends.now c.loop-i.i 0
onward c = c.if-end-from.false

inside : (c : Else-end-from) → let a = c.args in get_or a.ends.now c.loop-i.i 0 ≤ length a.files.now
inside c = omega (arith, c.if-files-end.false)

pub overflow_add-size : goal.overflow_add-size
overflow_add-size c = omega (arith, few (goal.at.overflow_add-size c).Start)

pub loop-i-init : goal.loop-i-init
loop-i-init c = so-far-start c.args.files.now c.requires

pub overflow_cast-file : goal.overflow_cast-file
overflow_cast-file c = omega (arith, c.requires.few)

pub returns-then-files-end : goal.returns-then-files-end
returns-then-files-end c = end_refused c.loop-i.invariant (omega arith) c.loop-i.words (elim c.then-files-end.branch [
  | then-files-end-via-then-files-end w ↦ inl (omega (arith, w.if-files-end.true))
  | then-files-end-via-else-files-end+then-end-from w ↦ inr w.if-end-from.true
])

pub returns-in-Err : goal.returns-in-Err
returns-in-Err c =
    file-refused c.loop-i.invariant (omega arith) (inside (goal.at.returns-in-Err c).Else-end-from) (onward (goal.at.returns-in-Err c).Else-end-from)
    c.in-Err.ensures c.in_file.ensures

pub overflow_add-size-in-Ok : goal.overflow_add-size-in-Ok
overflow_add-size-in-Ok c = omega (arith, c.loop-i.invariant.bounded, c.requires.few, few (goal.at.overflow_add-size-in-Ok c).Start)

pub loop-i-preserved : goal.loop-i-preserved
loop-i-preserved c =
    file-taken c.loop-i.invariant (omega arith) (inside (goal.at.loop-i-preserved c).Else-end-from) (onward (goal.at.loop-i-preserved c).Else-end-from)
    c.in-Ok.ensures (omega arith)

pub returns : goal.returns
returns c = all-taken c.loop-i.invariant (omega arith)
