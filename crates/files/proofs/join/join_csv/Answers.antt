-- `files::join::join_csv` meets its contract.
-- Assumes nothing.
use Rattle.files.proofs.Delivering.{join-delivered}
use Rattle.files.proofs.join.join_csv.Goals as goal

pub returns-in-Ok-clause-delivered : goal.returns-in-Ok-clause-delivered
returns-in-Ok-clause-delivered c = let a = c.args in join-delivered a.names.now a.files.now a.ends.now a.listing.now a.store.now a.scratch.now a.out.now c.in-Ok.ensures

pub returns-in-Err-clause-delivered : goal.returns-in-Err-clause-delivered
returns-in-Err-clause-delivered c =
    let a = c.args in rw c.refused.ensures (join-delivered a.names.now a.files.now a.ends.now a.listing.now a.store.now a.scratch.now a.out.now c.in-Err.ensures)
