-- The listing's text, in and out: the definitions that the contracts cite.
pub mod Limits
pub mod Refusals
pub mod Texts
pub mod Prints
pub mod TextRuns
pub mod Says
pub mod Progressing
pub mod Reads
pub mod Puts
pub mod Claims
