-- The check of a listing and of records: the definitions that the contracts cite.
pub mod Limits
pub mod Checks
pub mod Kinds
pub mod Parts
pub mod Claims
pub mod Refusals
