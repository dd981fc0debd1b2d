-- `csv_tables::rows::insert_at` meets its contract.
-- Assumes nothing.
use Rattle.csv_tables.proofs.Inserting.{put-in}
use Rattle.csv_tables.proofs.rows.insert_at.Goals as goal

pub returns : goal.returns
returns c = rw c.copy_within.ensures.after (put-in c.args.order.now c.args.count c.args.at c.args.number c.requires.count_in_bounds c.requires.at_le_count)
