-- Fields of byte files: the definitions that the contracts cite.
pub mod Limits
pub mod Fields
pub mod Parts
pub mod Lines
pub mod Names
pub mod Decimals
pub mod Puts
pub mod Writing
