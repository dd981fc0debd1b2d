-- Which record of a file a refused import names.
--   pick-either, pick-asked == what holds of an answer with a question in front, where it is a test; where its number refuses
--   RowsPlaced h m r x   == where x refuses, it is with 8 at the end, or it names the refused one of the records r, which m later records precede
--   rows-later           == so with one more record in front that passes
--   rows-placed          == so of `read_rows`
--   ImportPlaced l s x   == where x refuses, it names the refused record of the file s
--   records-placed       == so of the later records
--   header-placed        == so of all records
--   import-placed, import-record == so of the file
use mathlib.Core.Path.{◌≡◌, refl, sym, subst}
use mathlib.Core.Bool.{Bool, true, false}
use mathlib.Core.Logic.{◌⊎◌, inl, inr}
use mathlib.Core.List.{List, [], ◌∷◌, ◌++◌}
use Prim.Native.Nat.{ℕ, suc, ◌+◌}
use native.Mathlib.Omega.{arith}
use borrow.Author.Tests.{eqb-true, eqb-false}
use lib.Dec.{eqb, ltb}
use lib.ListN.{length}
use Rattle.boxes.specs.Intervals.{pick}
use Rattle.boxes.proofs.Tests.{by}
use Rattle.boxes.proofs.Lists.{length-end}
use Rattle.questions.specs.Limits.{max_rows}
use Rattle.fields.specs.Limits.{max_bytes}
use Rattle.fields.specs.Fields.{fields_of}
use Rattle.fields.specs.Names.{top_check}
use Rattle.csv_tables.specs.Records.{Records, ended, broken, next, records_of}
use Rattle.csv_tables.specs.Imports.{Imported, refused, imported, header_check, record_check, row_of, sort_rows, record_place, read_rows, read_header, read_csv, import_csv}
use Rattle.csv_tables.specs.Claims.{RefusedAfter, outside, here, later, RefusedRecord, no_record, at-header, at-record}

-- ---- one question

module _ (P : Imported → Type 0) where
  pick-either : (b : Bool) {x y : Imported} → P x → P y → P (pick b x y)
  pick-either true p q = p
  pick-either false p q = q

  pick-asked : (n k : ℕ) (x : Imported) → (n ≡ 0 → P x) → ((n ≡ 0 → ⊥) → P (refused n k)) → P (pick (eqb n 0) x (refused n k))
  pick-asked n k x p q = by (eqb n 0) (λ t. rw t (p (eqb-true n 0 t))) (λ f. rw f (q (eqb-false n 0 f)))

-- ---- the later records

abbrev RowsPlaced : List (List ℕ) → ℕ → Records → Imported → Type 0
RowsPlaced h m r (refused n p) = ((n ≡ 8) × (p ≡ 0)) ⊎ ((k : ℕ) × (p ≡ m + k + 2) × RefusedAfter h n r k)
RowsPlaced h m r (imported t) = Unit {0}

rows-later : (h fs : List (List ℕ)) (r : Records) (m : ℕ) (x : Imported) → record_check h fs ≡ 0 → RowsPlaced h (suc m) r x → RowsPlaced h m (next fs r) x
rows-later h fs r m (imported t) z p = tt
rows-later h fs r m (refused n q) z (inl e) = inl e
rows-later h fs r m (refused n q) z (inr p) = inr (suc p.0, omega (arith, p.1), later z p.2)

rows-placed : (names h rs : List (List ℕ)) (r : Records) → RowsPlaced h (length rs) r (read_rows names h rs r)
unfolding read_rows
rows-placed names h rs ended =
    pick-either (RowsPlaced h (length rs) ended) (ltb max_rows (length (sort_rows rs))) (inl (refl, refl)) tt
rows-placed names h rs broken = inr (0, omega arith, outside refl)
rows-placed names h rs (next fs r) =
    let row : List ℕ = row_of names h fs in
    let rest : Imported = read_rows names h (rs ++ (row ∷ [])) r in
    pick-asked (RowsPlaced h (length rs) (next fs r)) (record_check h fs) (record_place rs) rest
    (λ z. rows-later h fs r (length rs) rest z (subst (λ (m : ℕ). RowsPlaced h m r rest) (length-end rs row) (rows-placed names h (rs ++ (row ∷ [])) r)))
    (λ z. inr (0, omega arith, here refl z))

-- ---- the file

abbrev ImportPlaced : List ℕ → List ℕ → Imported → Type 0
ImportPlaced l s (refused n p) = RefusedRecord l s n p
ImportPlaced l s (imported t) = Unit {0}

module _ (l s : List ℕ) (named : top_check l ≡ 0) where
  records-placed : {h : List (List ℕ)} {r : Records} → records_of s ≡ next h r → header_check (fields_of l) h ≡ 0 → (x : Imported) → RowsPlaced h 0 r x → ImportPlaced l s x
  records-placed e z (imported t) p = tt
  records-placed e z (refused n q) (inl p) = subst (RefusedRecord l s n) (sym p.1) (no_record (inr (inr p.0)))
  records-placed e z (refused n q) (inr p) =
      let at : q ≡ p.0 + 2 = omega (arith, p.1) in
      subst (RefusedRecord l s n) (sym at) (at-record named (rw e z) (rw e p.2))

  header-placed : (r : Records) → records_of s ≡ r → ImportPlaced l s (read_header (fields_of l) r)
  unfolding read_header
  header-placed ended e = at-header named (rw e refl) (λ z. omega (arith, z))
  header-placed broken e = at-header named (rw e refl) (λ z. omega (arith, z))
  header-placed (next h r) e =
      let names : List (List ℕ) = fields_of l in
      let rest : Imported = read_rows names h [] r in
      pick-asked (ImportPlaced l s) (header_check names h) 1 rest
      (λ z. records-placed e z rest (rows-placed names h [] r))
      (λ z. at-header named (rw e refl) z)

import-placed : (l s : List ℕ) → ImportPlaced l s (import_csv l s)
unfolding import_csv read_csv
import-placed l s =
    pick-asked (ImportPlaced l s) (top_check l) 0 (read_csv (fields_of l) s)
    (λ z. pick-either (ImportPlaced l s) (ltb max_bytes (length s)) (no_record (inr (inl refl))) (header-placed l s z (records_of s) refl))
    (λ z. no_record (inl refl))

pub import-record : (l s : List ℕ) {n r : ℕ} → import_csv l s ≡ refused n r → RefusedRecord l s n r
import-record l s e = subst (ImportPlaced l s) e (import-placed l s)
