-- The laws of the library for C.
pub mod Laws
