-- The laws of the copy. A layer above cites Laws.
pub mod Laws
mod HiddenMarks
mod LinePuts
mod Shown
mod Alike
mod NoLonger
mod Copying
mod ReliedCopies
mod Examples
