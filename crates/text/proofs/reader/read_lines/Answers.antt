-- `text::reader::read_lines` meets its contract. The loop's invariant: the lines before `at` were read, and those from there on are read as the whole.
-- Assumes nothing.
use mathlib.Core.Path.{sym, ◌∙◌}
use native.Mathlib.Omega.{arith}
use lib.Seq.{length-take-le}
use Rattle.fields.specs.Fields.{line_end}
use Rattle.fields.specs.Parts.{PartEnd}
use Rattle.fields.proofs.Laws.{part-ends}
use Rattle.questions.proofs.Laws.{passed_up}
use Rattle.text.proofs.AllLines.{lines_start, lines-safe, lines_end, lines-refused, lines_more}
use Rattle.text.proofs.reader.read_lines.Goals as goal
use Rattle.text.proofs.reader.read_lines.Goals.{After-part_end-end}

pub overflow_add-at : goal.overflow_add-at
overflow_add-at c = omega (arith, c.requires.within, c.requires.short)

-- the end of the line that is read
ends : (c : After-part_end-end) → PartEnd line_end c.args.text.now c.loop-progress.at c.part_end-end.result
ends c = part-ends line_end c.args.text.now c.loop-progress.at c.loop-progress.invariant.within c.part_end-end.ensures

pub loop-progress-init : goal.loop-progress-init
loop-progress-init c = lines_start c.requires c.new-progress.ensures

pub overflow_sub-end : goal.overflow_sub-end
overflow_sub-end c = (ends (goal.at.overflow_sub-end c).After-part_end-end).after

pub shape_of-words-then-end-text : goal.shape_of-words-then-end-text
shape_of-words-then-end-text c = c.loop-progress.invariant.long

pub returns-then-end-text : goal.returns-then-end-text
returns-then-end-text c = lines_end c.requires c.loop-progress.invariant (ends (goal.at.returns-then-end-text c).After-part_end-end) c.if-end-text.true c.end_lines.ensures

pub slice_bounds-take_line-end : goal.slice_bounds-take_line-end
slice_bounds-take_line-end c = sym (length-take-le c.args.top c.args.text.now (omega (arith, c.requires.within)))

pub slice_bounds-take_line-count : goal.slice_bounds-take_line-count
slice_bounds-take_line-count c = (ends (goal.at.slice_bounds-take_line-count c).After-part_end-end).after

pub slice_bounds-take_line-end-in-loop-progress : goal.slice_bounds-take_line-end-in-loop-progress
slice_bounds-take_line-end-in-loop-progress c = (ends (goal.at.slice_bounds-take_line-end-in-loop-progress c).After-part_end-end).within

pub take_line-requires : goal.take_line-requires
take_line-requires c =
    record { top_len_bound = omega (arith, length-take-le c.args.top c.args.text.now (omega (arith, c.requires.within)), c.requires.within, c.requires.short); safe = lines-safe c.requires c.loop-progress.invariant (ends (goal.at.take_line-requires c).After-part_end-end) }

pub shape_of-words-in_err-progress : goal.shape_of-words-in_err-progress
shape_of-words-in_err-progress c = c.take_line.auto.words ∙ c.loop-progress.invariant.long

pub returns-in_err-progress : goal.returns-in_err-progress
returns-in_err-progress c =
    let at = goal.at.returns-in_err-progress c in
    rw (passed_up _ _ c.from_residual.ensures.1)
    (lines-refused c.requires c.loop-progress.invariant (ends at.After-part_end-end) c.if-end-text.false c.take_line.ensures c.in_err-progress.was)

pub overflow_add-at-in-loop-progress : goal.overflow_add-at-in-loop-progress
overflow_add-at-in-loop-progress c = omega (arith, (ends (goal.at.overflow_add-at-in-loop-progress c).After-part_end-end).within, c.requires.short)

pub loop-progress-smaller : goal.loop-progress-smaller
loop-progress-smaller c = omega (arith, (ends (goal.at.loop-progress-smaller c).After-part_end-end).after, c.loop-progress.invariant.within)

pub loop-progress-preserved : goal.loop-progress-preserved
loop-progress-preserved c = lines_more c.requires c.loop-progress.invariant (ends (goal.at.loop-progress-preserved c).After-part_end-end) c.if-end-text.false c.take_line.ensures c.in_ok-progress.was c.take_line.auto.words
