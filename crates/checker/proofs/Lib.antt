-- The laws of the checker. The layers above cite Laws.
pub mod Laws
mod Ordering
mod Standing
mod Accepted
mod Sound
mod Complete
mod Words
mod Delivering
mod Places
mod Chains
mod Ascending
mod Checking
mod CodeChecks
mod Examples
