-- The laws of the copy that a layer above cites.

-- what the copy of a text is, by whether it is refused, complete or stopped
pub use Rattle.copies.proofs.Shown.{copied-states}
-- texts that are alike but for what is hidden have the same copy; so have two refused texts; and calls whose copies are the same end alike
pub use Rattle.copies.proofs.Alike.{secrecy, refused-secrecy, same-call}
-- the last line says `complete` only if the whole join is in the copy, and then it does
pub use Rattle.copies.proofs.ReliedCopies.{relied-copy, said_copy}
-- without numbers the tuples' lines are those that are printed
pub use Rattle.copies.proofs.HiddenMarks.{nothing_hidden}
-- no copy is longer than what is printed for the text, and so than a page
pub use Rattle.copies.proofs.NoLonger.{no_longer, copied-short}
