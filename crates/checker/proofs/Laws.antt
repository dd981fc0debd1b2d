-- The laws of the check that the layers above cite.

-- what the checks say of a listing and of records, part by part, there and back
pub use Rattle.checker.proofs.Standing.{GapStands, TupleStands, ResolventStands, Stands, of-gap, of-tuple, of-resolvent}
pub use Rattle.checker.proofs.Accepted.{IsTuple, Accepted, acceptable-accepted, accepted-acceptable}
-- an accepted listing is the join, whoever made it and its records
pub use Rattle.checker.proofs.Sound.{acceptable-join}
-- what a complete run leaves is accepted
pub use Rattle.checker.proofs.Complete.{left-acceptable, run-acceptable}
-- so in words
pub use Rattle.checker.proofs.Words.{accepts-join, run-accepts}
-- what a caller has, by the answer
pub use Rattle.checker.proofs.Delivering.{check-delivered}
-- K1: its run is accepted, and what differs from it in one place fails
pub use Rattle.checker.proofs.Examples.{K1Checks, k1-checks}
