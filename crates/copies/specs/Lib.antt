-- The lift firm's copy: the definitions that the contracts cite.
pub mod Copies
pub mod Puts
pub mod Says
pub mod Claims
