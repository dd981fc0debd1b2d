-- Comma-separated files: how they are read, imported and written.
pub mod Records
pub mod Imports
pub mod Refusals
pub mod Exports
pub mod Claims
pub mod Grammar
pub mod Columns
pub mod Keeping
pub mod Reading
pub mod Judging
pub mod Says
pub mod Importing
pub mod Exporting
