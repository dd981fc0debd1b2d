-- The numbers of an import's refusals.
--   ImportRefusal n  == n is 8, or from 15 to 19
--   Checked n  == n is 0, or a refusal's number
--   Answered x == x is a table, or refused with such a number
--   when-checked, first-checked == one question; two
--   pick-answered, when-answered == what is answered where a question's number refuses; where it is a test
--   rows-answered, header-answered, import-answered == the later records; all records; the names and the file
--   import-refusal == what refuses an import has such a number
use mathlib.Core.Path.{◌≡◌, refl, subst}
use mathlib.Core.Bool.{Bool, true, false, ◌&&◌, not}
use mathlib.Core.Logic.{◌⊎◌, inl, inr}
use mathlib.Core.List.{List, [], ◌∷◌, ◌++◌}
use Prim.Native.Nat.{ℕ, zero, suc, ◌≤◌}
use native.Mathlib.Omega.{arith}
use borrow.Author.Tests.{ne_eqb}
use lib.Dec.{eqb, ltb}
use lib.ListN.{length}
use Rattle.boxes.specs.Limits.{max_attributes}
use Rattle.boxes.specs.Intervals.{pick}
use Rattle.questions.specs.Limits.{max_rows}
use Rattle.questions.specs.Questions.{table_with, when, first_of}
use Rattle.fields.specs.Limits.{max_bytes}
use Rattle.fields.specs.Fields.{every, fields_of, is_number, is_one, distinct}
use Rattle.fields.specs.Names.{form, are_names, top_check}
use Rattle.csv_tables.specs.Records.{Records, ended, broken, next, records_of}
use Rattle.csv_tables.specs.Imports.{Imported, refused, imported, header_check, record_check, columns_of, row_of, sort_rows, record_place, read_rows, read_header, read_csv, import_csv}

abbrev pub ImportRefusal : ℕ → Type 0
ImportRefusal n = (n ≡ 8) ⊎ ((15 ≤ n) × (n ≤ 19))

abbrev Checked : ℕ → Type 0
Checked n = (n ≡ 0) ⊎ ImportRefusal n

abbrev Answered : Imported → Type 0
Answered (refused n k) = ImportRefusal n
Answered (imported t) = Unit {0}

-- ---- one question

when-checked : (b : Bool) {n : ℕ} → ImportRefusal n → Checked (when b n)
when-checked true r = inr r
when-checked false r = inl refl

first-checked : (a b : ℕ) → Checked a → Checked b → Checked (first_of a b)
first-checked zero b c d = d
first-checked (suc a) b c d = c

pick-answered : (n k : ℕ) (x : Imported) → Checked n → Answered x → Answered (pick (eqb n 0) x (refused n k))
pick-answered zero k x c a = a
pick-answered (suc n) k x (inl e) a = absurd (omega arith)
pick-answered (suc n) k x (inr r) a = rw (ne_eqb (suc n) 0 (λ e. omega (arith, e))) r

when-answered : (b : Bool) (n k : ℕ) (x : Imported) → ImportRefusal n → Answered x → Answered (pick b (refused n k) x)
when-answered true n k x r a = r
when-answered false n k x r a = a

form-no : ImportRefusal 15
form-no = inr (omega arith, omega arith)

names-no : ImportRefusal 16
names-no = inr (omega arith, omega arith)

bytes-no : ImportRefusal 17
bytes-no = inr (omega arith, omega arith)

grammar-no : ImportRefusal 18
grammar-no = inr (omega arith, omega arith)

values-no : ImportRefusal 19
values-no = inr (omega arith, omega arith)

-- ---- the file

module _ (names : List (List ℕ)) where
  rows-answered : (h rs : List (List ℕ)) (r : Records) → Answered (read_rows names h rs r)
  unfolding read_rows
  rows-answered h rs ended = when-answered (ltb max_rows (length (sort_rows rs))) 8 0 (imported (table_with (columns_of names h) (sort_rows rs))) (inl refl) tt
  rows-answered h rs broken = grammar-no
  rows-answered h rs (next fs r) =
      pick-answered (record_check h fs) (record_place rs) (read_rows names h (rs ++ (row_of names h fs ∷ [])) r)
      (first-checked (when (not (eqb (length fs) (length h))) 18) (when (not (every is_number fs)) 19) (when-checked (not (eqb (length fs) (length h))) grammar-no) (when-checked (not (every is_number fs)) values-no))
      (rows-answered h (rs ++ (row_of names h fs ∷ [])) r)

  header-answered : (r : Records) → Answered (read_header names r)
  unfolding read_header
  header-answered ended = grammar-no
  header-answered broken = grammar-no
  header-answered (next h r) =
      pick-answered (header_check names h) 1 (read_rows names h [] r) (when-checked (not (distinct h && every (is_one names) h)) names-no) (rows-answered h [] r)

import-answered : (l s : List ℕ) → Answered (import_csv l s)
unfolding import_csv read_csv
import-answered l s =
    let fs : List (List ℕ) = fields_of l in
    pick-answered (top_check l) 0 (read_csv fs s)
    (first-checked (form (are_names max_attributes fs)) (when (not (distinct fs)) 16) (when-checked (not (are_names max_attributes fs)) form-no) (when-checked (not (distinct fs)) names-no))
    (when-answered (ltb max_bytes (length s)) 17 0 (read_header fs (records_of s)) bytes-no (header-answered fs (records_of s)))

pub import-refusal : (l s : List ℕ) {n k : ℕ} → import_csv l s ≡ refused n k → ImportRefusal n
import-refusal l s e = subst Answered e (import-answered l s)
