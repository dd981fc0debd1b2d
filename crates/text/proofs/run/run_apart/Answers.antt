-- `text::run::run_apart` meets its contract: what the run says, with the store that it leaves.
-- Assumes nothing.
use Rattle.text.proofs.run.run_apart.Goals as goal

pub returns : goal.returns
returns c = record { store = c.run_join_with.new.store; run = c.run_join_with.ensures.run_says }
