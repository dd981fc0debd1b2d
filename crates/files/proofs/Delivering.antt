-- What a caller of `join_csv` has.
--   delivered-as   == what a join delivers, by what its files are: a refusal, or tables
--   join-delivered == what a join promises is what `JoinDelivered` says
use mathlib.Core.List.{List}
use Prim.Native.Nat.{ℕ}
use Rattle.fields.specs.Fields.{fields_of}
use Rattle.files.specs.Gathers.{Gathered, refused_at, gathered, gather}
use Rattle.files.specs.Says.{JoinWith, JoinSays}
use Rattle.files.specs.Claims.{JoinDelivered}
use Rattle.files.specs.declared.join.CsvJoin.{CsvJoin}
use Rattle.files.proofs.FilesGathered.{GatheredSo, gathered-so}
use Rattle.files.proofs.RefusedJoins.{refused-join}
use Rattle.files.proofs.RunJoins.{run_join}

delivered-as : (l s es v : List ℕ) {v' : List ℕ} (w : List ℕ) {w' : List ℕ} (x : List ℕ) {x' : List ℕ} (o : List ℕ) {o' : List ℕ} {j : CsvJoin} (g : Gathered)
    → GatheredSo l s es g → JoinWith (fields_of l) g v v' w w' x x' o o' j → JoinDelivered l s es v v' w w' x x' o o' j
delivered-as l s es v w x o (refused_at n f r) so says = refused-join l s es v w x o so says
delivered-as l s es v w x o (gathered ts) (passed, files) says = run_join l s es v w x o passed files says

pub join-delivered : (l s es v : List ℕ) {v' : List ℕ} (w : List ℕ) {w' : List ℕ} (x : List ℕ) {x' : List ℕ} (o : List ℕ) {o' : List ℕ} {j : CsvJoin}
    → JoinSays l s es v v' w w' x x' o o' j → JoinDelivered l s es v v' w w' x x' o o' j
join-delivered l s es v w x o says = delivered-as l s es v w x o (gather l s es) (gathered-so l s es) says
