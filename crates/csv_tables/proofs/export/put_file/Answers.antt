-- `csv_tables::export::put_file` meets its contract: the names, the line's end and the tuples one after the other.
-- Assumes nothing.
use Rattle.fields.specs.Fields.{fields_of}
use Rattle.fields.specs.Writing.{tuples_of}
use Rattle.csv_tables.proofs.Exporting.{file-puts}
use Rattle.csv_tables.proofs.export.put_file.Goals as goal

pub returns : goal.returns
returns c =
    let s = c.args in
    file-puts (fields_of s.names.now) (tuples_of s.arity s.listing.now) c.put_fields-header.ensures c.put_bytes-line.ensures c.put_tuples.ensures
