-- Questions: the definitions that the contracts cite.
pub mod Limits
pub mod Orders
pub mod Questions
pub mod Refusals
pub mod Good
pub mod Directories
pub mod Says
pub mod Narrow
pub mod Reads
pub mod Words
pub mod Beginnings
