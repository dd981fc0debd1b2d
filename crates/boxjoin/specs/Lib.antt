-- The library for C: the definitions that the contracts cite.
pub mod Says
