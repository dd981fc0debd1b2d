-- `text::reader::read_text` meets its contract: for each way out, what the definition answers.
-- Assumes nothing.
use mathlib.Core.Path.{sym, ap}
use native.Mathlib.Omega.{arith}
use lib.Seq.{length-take-le}
use Rattle.fields.specs.Fields.{line_end}
use Rattle.fields.specs.Names.{why_told}
use Rattle.fields.specs.Parts.{PartEnd}
use Rattle.fields.proofs.Laws.{part-ends}
use Rattle.questions.proofs.Laws.{passed_up}
use Rattle.text.proofs.WholeTexts.{text-long, text-roomless, text-unended, text-refused, text-asks, text-stopped, text-read}
use Rattle.text.proofs.reader.read_text.Goals as goal
use Rattle.text.proofs.reader.read_text.Goals.{After-part_end-end}

pub returns-then-text-gt-MAX_BYTES : goal.returns-then-text-gt-MAX_BYTES
returns-then-text-gt-MAX_BYTES c = text-long c.args.text.now c.args.words.now c.if-text-gt-MAX_BYTES.true

pub returns-then-words-text : goal.returns-then-words-text
returns-then-words-text c = text-roomless c.args.text.now c.args.words.now c.if-text-gt-MAX_BYTES.false c.if-words-text.true

-- the end of the top line
ends : (c : After-part_end-end) → PartEnd line_end c.args.text.now 0 c.part_end-end.result
ends c = part-ends line_end c.args.text.now 0 (omega arith) c.part_end-end.ensures

pub returns-then-end-text : goal.returns-then-end-text
returns-then-end-text c =
    let s = c.args in
    text-unended s.text.now s.words.now c.if-text-gt-MAX_BYTES.false c.if-words-text.false (ends (goal.at.returns-then-end-text c).After-part_end-end) c.if-end-text.true

pub slice_bounds-read_top-end : goal.slice_bounds-read_top-end
slice_bounds-read_top-end c = sym (length-take-le c.part_end-end.result c.args.text.now (ends (goal.at.slice_bounds-read_top-end c).After-part_end-end).within)

pub returns-in-Err : goal.returns-in-Err
returns-in-Err c =
    let s = c.args in
    let top = c.read_top.ensures in
    rw c.from.ensures
    (text-refused s.text.now s.words.now c.if-text-gt-MAX_BYTES.false c.if-words-text.false (ends (goal.at.returns-in-Err c).After-part_end-end) c.if-end-text.false top.is top.number (ap why_told c.in-Err.is))

pub read_lines-requires : goal.read_lines-requires
read_lines-requires c =
    let s = c.args in
    let top = c.read_top.ensures in
    text-asks s.text.now s.words.now c.if-text-gt-MAX_BYTES.false c.if-words-text.false (ends (goal.at.read_lines-requires c).After-part_end-end) c.if-end-text.false top.is top.number (ap why_told c.in-Ok.is)

pub returns-in_err-progress : goal.returns-in_err-progress
returns-in_err-progress c =
    let s = c.args in
    let top = c.read_top.ensures in
    rw (passed_up _ _ c.from_residual.ensures.1)
    (text-stopped s.text.now s.words.now c.if-text-gt-MAX_BYTES.false c.if-words-text.false (ends (goal.at.returns-in_err-progress c).After-part_end-end) c.if-end-text.false top.is top.number (ap why_told c.in-Ok.is)
    c.read_lines.ensures c.in_err-progress.was)

pub returns : goal.returns
returns c =
    let s = c.args in
    let top = c.read_top.ensures in
    text-read s.text.now s.words.now c.if-text-gt-MAX_BYTES.false c.if-words-text.false (ends (goal.at.returns c).After-part_end-end) c.if-end-text.false top.is top.number (ap why_told c.in-Ok.is)
    c.read_lines.ensures c.in_ok-progress.was
