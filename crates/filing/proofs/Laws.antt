-- The laws of filing that the layers above cite.

-- two lists of words: what they share, which is the longest beginning of both, and all of each only if they are the same
pub use Rattle.filing.proofs.Sharing.{count-within, count-alike, count-common, count_same, count-equal}
-- of two accepted questions that differ, a first differing word exists
pub use Rattle.filing.proofs.Differing.{first-differs}
-- what an answer says of the two questions, and its number; what is known of the beginning that they share
pub use Rattle.filing.proofs.Comparing.{compares, compares-only, compared-number, shares}
-- the order is one: what an archive that is sorted by it relies on
pub use Rattle.filing.proofs.Ordering.{files}
