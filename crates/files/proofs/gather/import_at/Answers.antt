-- `files::gather::import_at` meets its contract.
-- Assumes nothing.
use native.Mathlib.Omega.{arith}
use Rattle.questions.proofs.Laws.{passed_up}
use Rattle.csv_tables.specs.Imports.{import_csv}
use Rattle.files.proofs.FilePuts.{Starts, refused-put, made-put}
use Rattle.files.proofs.gather.import_at.Goals as goal
use Rattle.files.proofs.gather.import_at.Goals.{After-min-from}

-- where the part begins
starts : (c : After-min-from) → Starts c.args.at c.args.words.now c.min-from.result
starts c = record { most = omega arith; within = λ h. omega arith; not-before = omega arith }

pub returns-in_err-made : goal.returns-in_err-made
returns-in_err-made c =
    let a = c.args in
    rw (passed_up _ _ c.from_residual.ensures.1)
    (refused-put a.words.now _ (starts (goal.at.returns-in_err-made c).After-min-from) (import_csv a.names.now a.file.now) c.in_err-made.ensures)

pub returns : goal.returns
returns c = let a = c.args in made-put a.words.now _ (starts (goal.at.returns c).After-min-from) (import_csv a.names.now a.file.now) c.in_ok-made.ensures
