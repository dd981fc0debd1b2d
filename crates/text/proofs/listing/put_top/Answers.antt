-- `text::listing::put_top` meets its contract: the bytes up to the first line's end, and one more.
-- Assumes nothing.
use mathlib.Core.Path.{sym}
use native.Mathlib.Omega.{arith}
use lib.Seq.{length-take-le}
use Rattle.fields.proofs.Laws.{part-ends}
use Rattle.fields.specs.Fields.{line_end}
use Rattle.fields.specs.Parts.{PartEnd}
use Rattle.text.proofs.Answers.{top-puts}
use Rattle.text.proofs.listing.put_top.Goals as goal
use Rattle.text.proofs.listing.put_top.Goals.{After-part_end-top}

ends : (c : After-part_end-top) → PartEnd line_end c.args.text.now 0 c.part_end-top.result
ends c = part-ends line_end c.args.text.now 0 (omega arith) c.part_end-top.ensures

pub slice_bounds-put_bytes-end : goal.slice_bounds-put_bytes-end
slice_bounds-put_bytes-end c = sym (length-take-le c.part_end-top.result c.args.text.now (ends (goal.at.slice_bounds-put_bytes-end c).After-part_end-top).within)

pub returns : goal.returns
returns c = top-puts (ends (goal.at.returns c).After-part_end-top) c.put_bytes-names.ensures c.put_bytes.ensures
