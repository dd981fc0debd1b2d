-- `files::join::run_and_export` meets its contract.
-- Assumes nothing.
use mathlib.Core.Path.{sym}
use native.Mathlib.Omega.{arith}
use lib.Seq.{length-take-le}
use Rattle.files.specs.Runs.{RunAsk}
use Rattle.files.proofs.RunFiles.{Whole, whole_run, stopped-says, complete-says}
use Rattle.files.proofs.join.run_and_export.Goals as goal
use Rattle.files.proofs.join.run_and_export.Goals.{Else-run-ne0}

pub returns-then-run-ne0 : goal.returns-then-run-ne0
returns-then-run-ne0 c a =
    stopped-says (rw a.words at c.run_join_with-run.ensures.run_says) (rw a.words at c.run_join_with-run.ensures.scratch) c.if-run-ne0.true _ c.ran.ensures

-- what the complete run left
whole : (c : Else-run-ne0) (a : RunAsk c.args.names.now c.args.dimension c.args.question.now)
    → Whole c.args.dimension a.question c.run_join_with-run.result c.run_join_with-run.new.listing
whole c a = whole_run a.over a.shaped c.args.listing.now c.args.store.now _ (rw a.words at c.run_join_with-run.ensures.run_says) c.if-run-ne0.false

pub overflow_mul-run : goal.overflow_mul-run
overflow_mul-run c = omega (arith, (whole (goal.at.overflow_mul-run c).Else-run-ne0 c.requires).room)

pub slice_bounds-export_csv-end : goal.slice_bounds-export_csv-end
slice_bounds-export_csv-end c = (whole (goal.at.slice_bounds-export_csv-end c).Else-run-ne0 c.requires).room

pub slice_bounds-export_csv-end-2 : goal.slice_bounds-export_csv-end-2
slice_bounds-export_csv-end-2 c = sym (length-take-le _ c.run_join_with-run.new.listing (whole (goal.at.slice_bounds-export_csv-end-2 c).Else-run-ne0 c.requires).room)

pub returns : goal.returns
returns c a =
    complete-says a.named (rw a.words at c.run_join_with-run.ensures.run_says) (rw a.words at c.run_join_with-run.ensures.scratch) c.if-run-ne0.false
    (rw a.dimension at (whole (goal.at.returns c).Else-run-ne0 a)) (rw a.dimension at c.export_csv-file.ensures) c.ran-2.ensures
