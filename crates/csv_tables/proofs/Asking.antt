-- The number of an import is that of the first question answered no, in the order of `import_asked`.
--   pick_first, when-first == a question whose number refuses, or not; one that is a test
--   first-first   == three questions one after the other
--   tabled-asked, rows-asked, header-asked == at the end; of the later records; of all records
--   import-asked  == of the names, the file and the words
use mathlib.Core.Path.{◌≡◌, refl, sym, ap, ◌∙◌}
use mathlib.Core.Bool.{Bool, true, false}
use mathlib.Core.List.{List, [], ◌∷◌, ◌++◌, append-nil}
use Prim.Native.Nat.{ℕ, zero, suc}
use native.Mathlib.Omega.{arith}
use borrow.Author.Tests.{ne_eqb}
use lib.Dec.{eqb, ltb}
use lib.ListN.{length}
use lib.Seq.{append_snoc}
use Rattle.boxes.specs.Intervals.{pick}
use Rattle.questions.specs.Limits.{max_rows}
use Rattle.questions.specs.Questions.{table_with, when, first_of}
use Rattle.fields.specs.Limits.{max_bytes}
use Rattle.fields.specs.Fields.{fields_of}
use Rattle.fields.specs.Names.{top_check}
use Rattle.csv_tables.specs.Records.{Records, ended, broken, next, records_of}
use Rattle.csv_tables.specs.Imports.{Imported, refused, imported, header_check, record_check, columns_of, row_of, sort_rows, tabled, record_place, read_rows, read_header, read_csv, import_csv, header_of, later_of, header_asked, records_asked, record_rows, different_rows, table_from, import_asked}
use Rattle.csv_tables.specs.Says.{import_number}

-- ---- one question

pick_first : (n k : ℕ) (x : Imported) (w : List ℕ) → import_number (pick (eqb n 0) x (refused n k)) w ≡ first_of n (import_number x w)
pick_first zero k x w = refl
pick_first (suc n) k x w = rw (ne_eqb (suc n) 0 (λ e. omega (arith, e)))

when-first : (b : Bool) (n k : ℕ) (x : Imported) (w : List ℕ) → import_number (pick b (refused (suc n) k) x) w ≡ first_of (when b (suc n)) (import_number x w)
when-first true n k x w = refl
when-first false n k x w = refl

first-first : (a b c : ℕ) → first_of a (first_of b c) ≡ first_of (first_of a b) c
first-first zero b c = refl
first-first (suc a) b c = refl

-- ---- the records

module _ (names : List (List ℕ)) (w : List ℕ) where
  tabled-asked : (h rs : List (List ℕ)) → import_number (tabled names h rs) w
      ≡ first_of (when (ltb max_rows (length (sort_rows rs))) 8) (import_number (imported (table_with (columns_of names h) (sort_rows rs))) w)
  tabled-asked h rs = when-first (ltb max_rows (length (sort_rows rs))) 7 0 (imported (table_with (columns_of names h) (sort_rows rs))) w

  rows-asked : (h rs : List (List ℕ)) (r : Records) → import_number (read_rows names h rs r) w ≡ first_of (records_asked h r) (import_number (tabled names h (rs ++ record_rows names h r)) w)
  unfolding read_rows records_asked record_rows
  rows-asked h rs ended = ap (λ (l : List (List ℕ)). import_number (tabled names h l) w) (sym (append-nil rs))
  rows-asked h rs broken = refl
  rows-asked h rs (next fs r) =
      let row : List ℕ = row_of names h fs in
      pick_first (record_check h fs) (record_place rs) (read_rows names h (rs ++ (row ∷ [])) r) w
      ∙ ap (first_of (record_check h fs))
      (rows-asked h (rs ++ (row ∷ [])) r ∙ ap (λ (l : List (List ℕ)). first_of (records_asked h r) (import_number (tabled names h l) w)) (append_snoc rs row (record_rows names h r)))
      ∙ first-first (record_check h fs) (records_asked h r) (import_number (tabled names h (rs ++ (row ∷ record_rows names h r))) w)

  header-asked : (r : Records) → import_number (read_header names r) w
      ≡ first_of (header_asked names r) (first_of (records_asked (header_of r) (later_of r))
      (first_of (when (ltb max_rows (length (different_rows names r))) 8) (import_number (imported (table_from names r)) w)))
  unfolding read_header
  header-asked ended = refl
  header-asked broken = refl
  header-asked (next h r) =
      pick_first (header_check names h) 1 (read_rows names h [] r) w
      ∙ ap (first_of (header_check names h)) (rows-asked h [] r ∙ ap (first_of (records_asked h r)) (tabled-asked h (record_rows names h r)))

-- ---- the file

pub import-asked : (l s w : List ℕ) → import_number (import_csv l s) w ≡ import_asked l s w
unfolding import_csv read_csv import_asked
import-asked l s w =
    let names : List (List ℕ) = fields_of l in
    let r : Records = records_of s in
    pick_first (top_check l) 0 (read_csv names s) w
    ∙ ap (first_of (top_check l)) (when-first (ltb max_bytes (length s)) 16 0 (read_header names r) w
    ∙ ap (first_of (when (ltb max_bytes (length s)) 17)) (header-asked names w r))
