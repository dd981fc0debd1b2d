-- `text::reader::take_line` meets its contract, by the line that comes next.
-- Assumes nothing.
use Rattle.text.proofs.EmptyLines.{empty-says}
use Rattle.text.proofs.reader.take_line.Goals as goal

pub returns-in-Widths : goal.returns-in-Widths
returns-in-Widths c = c.take_widths.ensures c.in-Widths.is c.args.top.now

pub returns-in-Empty : goal.returns-in-Empty
returns-in-Empty c = empty-says c.begin_table.ensures c.in-Empty.is c.args.top.now

pub returns-in-Names : goal.returns-in-Names
returns-in-Names c = c.take_names.ensures c.in-Names.is

pub returns-in-Row : goal.returns-in-Row
returns-in-Row c = c.take_row.ensures c.in-Row.is c.args.top.now
