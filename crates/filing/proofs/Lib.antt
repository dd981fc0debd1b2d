-- The laws of filing. The layers above cite Laws.
pub mod Laws
mod Sharing
mod Differing
mod Comparing
mod Saying
mod Ordering
