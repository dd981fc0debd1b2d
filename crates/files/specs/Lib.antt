-- The join of comma-separated files.
pub mod Gathers
pub mod Widths
pub mod Raising
pub mod Says
pub mod Refusals
pub mod Parts
pub mod Runs
pub mod Claims
