-- Standard input and output: the definitions that the contracts cite.
pub mod Says
