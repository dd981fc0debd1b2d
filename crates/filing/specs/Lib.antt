-- Filing questions: the definitions that the contracts cite.
pub mod Comparisons
pub mod Claims
pub mod Says
