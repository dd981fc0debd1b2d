-- `csv_tables::import::write_table` meets its contract.
-- Assumes nothing.
use Rattle.csv_tables.proofs.TableImports.{rows-room, write-short, write-all}
use Rattle.csv_tables.proofs.import.write_table.Goals as goal

pub returns-then-words-size : goal.returns-then-words-size
returns-then-words-size c = let s = c.args in write-short s.columns.now s.header s.rows.now s.order.now c.requires s.words.now c.if-words-size.true

pub put_table-requires-clause-each : goal.put_table-requires-clause-each
put_table-requires-clause-each c = let s = c.args in rows-room s.columns.now s.header s.rows.now s.order.now c.requires

pub returns : goal.returns
returns c = let s = c.args in write-all s.columns.now s.header s.rows.now s.order.now c.requires s.words.now c.if-words-size.false c.put_table.ensures
