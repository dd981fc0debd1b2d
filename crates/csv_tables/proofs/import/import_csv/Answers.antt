-- `csv_tables::import::import_csv` meets its contract.
-- Assumes nothing.
use Rattle.csv_tables.proofs.HeaderChecks.{refused-says}
use Rattle.csv_tables.proofs.Delivering.{import-delivered}
use Rattle.csv_tables.proofs.import.import_csv.Goals as goal

pub returns-in-Ok-clause-import_says : goal.returns-in-Ok-clause-import_says
returns-in-Ok-clause-import_says c = c.in-Ok.ensures.1

pub returns-in-Ok-clause-delivered : goal.returns-in-Ok-clause-delivered
returns-in-Ok-clause-delivered c = let s = c.args in import-delivered s.names.now s.file.now s.words.now c.in-Ok.ensures.1

pub returns-in-Err-clause-import_says : goal.returns-in-Err-clause-import_says
returns-in-Err-clause-import_says c = rw c.unwrap_or.ensures (refused-says c.in-Err.ensures.0 c.number.ensures c.in-Err.ensures.1)

pub returns-in-Err-clause-delivered : goal.returns-in-Err-clause-delivered
returns-in-Err-clause-delivered c = let s = c.args in import-delivered s.names.now s.file.now s.words.now (rw c.unwrap_or.ensures (refused-says c.in-Err.ensures.0 c.number.ensures c.in-Err.ensures.1))
