-- The laws of comma-separated files that a layer above cites.

-- a file is read as records exactly if the grammar writes it for them
pub use Rattle.csv_tables.proofs.Parsed.{reads}
-- which questions a file is asked, and in which order; the numbers of its refusals
pub use Rattle.csv_tables.proofs.Asking.{import-asked}
pub use Rattle.csv_tables.proofs.Refusals.{ImportRefusal, import-refusal}
pub use Rattle.csv_tables.proofs.RefusalNumbers.{refusal-some}
-- which record of the file a refusal names
pub use Rattle.csv_tables.proofs.RefusedRecords.{import-record}
-- what a caller has: the table of a file, and what an import delivers
pub use Rattle.csv_tables.proofs.FileTables.{file-table, table-file, tables}
pub use Rattle.csv_tables.proofs.Delivering.{import-delivered}
-- an imported table is good, but for its widths
pub use Rattle.csv_tables.proofs.GoodFiles.{field_number-small, file-good, read-good}
-- after a line of names that passed the file is read
pub use Rattle.csv_tables.proofs.TopLines.{line-names, top-pass, top-refused, import-read, import-names, import-long, import-file}
-- the numbers of attributes, one after the other
pub use Rattle.csv_tables.proofs.HeaderColumns.{length-numbers, numbers-at}
-- what is exported is imported again
pub use Rattle.csv_tables.proofs.RoundTrip.{round_trip}
pub use Rattle.csv_tables.proofs.TopLines.{line-round-trip}
pub use Rattle.csv_tables.proofs.Exporting.{export_is, export-tuples, export-passes, export-import, there_and_back}
-- rows sorted, in whatever way
pub use Rattle.csv_tables.proofs.Sorting.{sort_sorted, sort-members, members-sort, sort-same}
pub use Rattle.csv_tables.proofs.Ordering.{sort-unique, sort-end}
-- small files
pub use Rattle.csv_tables.proofs.Examples.{empty-file, blank-header, header-only, header-ended, unended, quotes-off, doubled, doubled-value, line-in-quotes, comma-in-quotes, open-quote, quote-inside, after-quote, lone-feed, lone-carriage, high_byte, open-field, blank-line, blank-line-wide, shuffled, width-first, value-first, names-first, grammar-first, twice, written}
