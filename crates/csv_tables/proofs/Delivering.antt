-- What a caller of `import_csv` has.
--   import-some, import-room == a refusal's number is neither 0 nor 13
--   delivered-as     == what an import delivers, by what it is: a refusal, or a table
--   import-delivered == what an import promises is what `ImportDelivered` says
--   with-delivered   == both
use mathlib.Core.Path.{◌≡◌, refl, sym, ◌∙◌}
use mathlib.Core.Bool.{Bool, true, false}
use mathlib.Core.Logic.{inl, inr}
use mathlib.Core.List.{List}
use Prim.Native.Nat.{ℕ}
use native.Mathlib.Omega.{arith}
use borrow.Author.Tests.{ltb-true, ltb-false}
use lib.Dec.{ltb}
use lib.ListN.{length}
use Rattle.boxes.proofs.Tests.{by}
use Rattle.questions.specs.Words.{table_words}
use Rattle.csv_tables.specs.Imports.{Imported, refused, imported, import_csv}
use Rattle.csv_tables.specs.Says.{ImportedSays, ImportSays}
use Rattle.csv_tables.specs.Claims.{ImportDelivered}
use Rattle.csv_tables.specs.declared.import.Import.{Import}
use Rattle.csv_tables.proofs.Asking.{import-asked}
use Rattle.csv_tables.proofs.Refusals.{ImportRefusal, import-refusal}
use Rattle.csv_tables.proofs.RefusedRecords.{import-record}
use Rattle.csv_tables.proofs.FileTables.{file-table}

import-some : {n : ℕ} → ImportRefusal n → n ≡ 0 → ⊥
import-some (inl e) z = omega (arith, e, z)
import-some (inr b) z = omega (arith, b.0, z)

import-room : {n : ℕ} → ImportRefusal n → n ≡ 13 → ⊥
import-room (inl e) z = omega (arith, e, z)
import-room (inr b) z = omega (arith, b.0, z)

delivered-as : (l s w : List ℕ) {w' : List ℕ} {r : Import} (x : Imported) → import_csv l s ≡ x → ImportSays l s w w' r → ImportedSays x w w' r → ImportDelivered l s w w' r
delivered-as l s w (refused n k) e all says = record {
  number = all.number ∙ import-asked l s w;
  refused = λ z. says.words;
  uncounted = λ z k. says.count;
  placed = λ z k. rw (says.number, says.place) (import-record l s e);
  short = λ z. absurd (import-room (import-refusal l s e) (sym says.number ∙ z));
  table = λ z. absurd (import-some (import-refusal l s e) (sym says.number ∙ z));
}
delivered-as l s w {w'} {r} (imported t) e all says = record {
  number = all.number ∙ import-asked l s w;
  refused = λ n. by few (λ b. says.words ∙ rw b) (λ f. absurd (n (says.number ∙ rw f)));
  uncounted = λ n k. by few (λ b. absurd (k (lacking b))) (λ f. absurd (n (enough f)));
  placed = λ n k. by few (λ b. absurd (k (lacking b))) (λ f. absurd (n (enough f)));
  short = λ z. (t, file-table l s e, says.count, by few (λ b. ltb-true (length w) (length (table_words t)) b) (λ f. absurd (omega (arith, z, enough f))));
  table = λ z.
      let f : few ≡ false = by few (λ b. absurd (omega (arith, z, lacking b))) (λ f. f) in
      (t, file-table l s e, says.words ∙ rw f, says.count, ltb-false (length w) (length (table_words t)) f);
}
  where
    few : Bool
    few = ltb (length w) (length (table_words t))

    lacking : few ≡ true → r.number ≡ 13
    lacking b = says.number ∙ rw b

    enough : few ≡ false → r.number ≡ 0
    enough f = says.number ∙ rw f

pub import-delivered : (l s w : List ℕ) {w' : List ℕ} {r : Import} → ImportSays l s w w' r → ImportDelivered l s w w' r
import-delivered l s w says = delivered-as l s w (import_csv l s) refl says says

-- all that `import_csv` promises
pub with-delivered : (l s w : List ℕ) {w' : List ℕ} {r : Import} → ImportSays l s w w' r → ImportSays l s w w' r × ImportDelivered l s w w' r
with-delivered l s w says = (says, import-delivered l s w says)
