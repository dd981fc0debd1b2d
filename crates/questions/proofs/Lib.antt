-- The laws of questions. The layers above cite Laws, and the tools that are not about questions, OrderedLists.
pub mod Laws
pub mod OrderedLists
mod Orders
mod Accepted
mod Beginnings
mod Directories
mod Yields
mod Readers
mod Reading
mod ListReading
mod RowReading
mod RowsReading
mod ContentsReading
mod TableReading
mod TablesReading
mod QuestionReading
mod Arrays
mod Arities
mod Contents
mod Pairs
mod PairReading
mod Entries
mod Narrow
mod Checks
mod Numbers
mod Padding
mod Covers
mod OpenTables
mod Instead
mod Scans
mod Examples
mod Words
mod RoundTrip
mod GoodTables
mod GoodWords
mod Values
