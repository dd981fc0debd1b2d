-- `csv_tables::refusal::read_names` meets its contract: a line that is too long is not one of names.
-- Assumes nothing.
use Rattle.csv_tables.proofs.TopLines.{names-long}
use Rattle.csv_tables.proofs.refusal.read_names.Goals as goal

pub returns-then-line-ge-MAX_NAMES : goal.returns-then-line-ge-MAX_NAMES
returns-then-line-ge-MAX_NAMES c = names-long c.args.line.now c.if-line-ge-MAX_NAMES.true
