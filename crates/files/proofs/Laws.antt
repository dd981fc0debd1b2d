-- The laws of a join of comma-separated files that a layer above cites.

-- what a caller of `join_csv` has
pub use Rattle.files.proofs.Delivering.{join-delivered}
-- the width that is found for values is from 1 to the widest, holds them all, and no lower one does
pub use Rattle.files.proofs.LeastWidths.{least-width, least-holds, least-least}
