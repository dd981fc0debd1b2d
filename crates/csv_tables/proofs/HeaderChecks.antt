-- The header: its number, and the columns of one that passes.
--   header-zero, header-again, header-many, header-wrong == the code's number for a record
--   front-is, few-names == the code's numbers of known names are their places; distinct ones are few
--   header-check   == it is that of the header's names
--   header-refused-at == a header that does not pass
--   both           == one that passes: its names are distinct and known
--   header-goes, header_of_lem, header-attributes == the records after it are read; its columns; the table's attributes
--   file-imported  == what becomes of the file, where the records after it pass
--   refused-says, table-read, imported-says == what an import answers
use mathlib.Core.Path.{◌≡◌, refl, sym, ap, ap₂, subst, ◌∙◌}
use mathlib.Core.Bool.{true, false}
use mathlib.Core.List.{List, []}
use Prim.Native.Nat.{ℕ, ◌≤◌, ◌<◌}
use native.Mathlib.Omega.{arith}
use borrow.Author.Tests.{le-leb, lt-leb, leb-true, leb-false}
use lib.Dec.{leb}
use Rattle.std.specs.Prelude.{Option, None, Some, Result, Ok}
use lib.ListN.{length, take, drop, length-map}
use Rattle.boxes.specs.Limits.{max_attributes}
use Rattle.boxes.proofs.Tests.{by}
use Rattle.questions.specs.Questions.{table_with}
use Rattle.fields.specs.Fields.{every, fields_of, place, is_one, distinct}
use Rattle.fields.specs.Names.{top_check}
use Rattle.fields.specs.Lines.{values}
use Rattle.fields.proofs.Laws.{values-front, top_check-names}
use Rattle.csv_tables.specs.Records.{broken, records_of, follow}
use Rattle.csv_tables.specs.Columns.{are_distinct, sources_from, sourced}
use Rattle.csv_tables.specs.Judging.{judged, RecordFrom, RecordSays}
use Rattle.csv_tables.specs.Imports.{Imported, refused, imported, header_check, columns_of, read_rows, read_header}
use Rattle.csv_tables.specs.Importing.{header_number, HeaderOf, BodySays, TableRead}
use Rattle.csv_tables.specs.declared.refusal.Refused.{Refused}
use Rattle.csv_tables.specs.Says.{ImportedSays}
use Rattle.csv_tables.specs.Keeping.{kept_rows}
use Rattle.csv_tables.specs.declared.record.Record.{Record}
use Rattle.csv_tables.specs.declared.import.Import.{Import}
use Rattle.csv_tables.proofs.Taking.{header-yes, header_refused}
use Rattle.csv_tables.proofs.RoundTrip.{header-taken}
use Rattle.csv_tables.proofs.TopLines.{line-names}
use Rattle.csv_tables.proofs.RecordFields.{places-right, places-read}
use Rattle.csv_tables.proofs.HeaderNumbers.{numbers, are_distinct-names, sourced-header-array, header-few}

-- ---- the code's number

module _ (x : Record) where
  pub header-wrong : x.values ≡ None → header_number (Some x) ≡ 16
  header-wrong e = rw e

  module _ {vs : List ℕ} (r : x.values ≡ Some vs) where
    pub header-many : max_attributes < x.count → header_number (Some x) ≡ 16
    header-many h = rw (r, lt-leb x.count max_attributes h)

    module _ (h : x.count ≤ max_attributes) where
      pub header-again : are_distinct (take x.count vs) ≡ false → header_number (Some x) ≡ 16
      header-again e = rw (r, le-leb x.count max_attributes h, e)

      pub header-zero : are_distinct (take x.count vs) ≡ true → header_number (Some x) ≡ 0
      header-zero e = rw (r, le-leb x.count max_attributes h, e)

-- ---- the header's names

check-wrong : (names h : List (List ℕ)) → every (is_one names) h ≡ false → header_check names h ≡ 16
check-wrong names h f = by (distinct h) (λ t. rw (t, f)) (λ e. rw e)

check-twice : (names h : List (List ℕ)) → distinct h ≡ false → header_check names h ≡ 16
check-twice names h f = rw f

check-zero : (names h : List (List ℕ)) → distinct h ≡ true → every (is_one names) h ≡ true → header_check names h ≡ 0
check-zero names h d k = rw (d, k)

module _ (l : List ℕ) (top : top_check l ≡ 0) {s : List ℕ} {x : Record} (says : RecordFrom (judged (fields_of l) true) s 0 x) where
  abbrev names : List (List ℕ)
  names = fields_of l

  abbrev h : List (List ℕ)
  h = says.texts

  once : distinct names ≡ true
  once = (line-names l top).once

  module _ (known : every (is_one names) h ≡ true) where
    values-are : x.values ≡ Some (values (numbers names h))
    values-are = says.values ∙ rw (places-right names h, known, places-read names h known)

    pub front-is : length h ≤ max_attributes → take x.count (values (numbers names h)) ≡ numbers names h
    front-is few =
        let long : length (numbers names h) ≡ length h = length-map h (λ f. place f names) in
        ap (λ (n : ℕ). take n (values (numbers names h))) (says.count ∙ sym long) ∙ values-front (numbers names h) (omega arith)

    pub few-names : distinct h ≡ true → length h ≤ max_attributes
    few-names d = omega (arith, header-few names once h known d, (top_check-names l top).few)

    known-check : header_number (Some x) ≡ header_check names h
    known-check =
        by (leb (length h) max_attributes)
        (λ t.
        let few : length h ≤ max_attributes = leb-true (length h) max_attributes t in
        let same : are_distinct (take x.count (values (numbers names h))) ≡ distinct h = ap are_distinct (front-is few) ∙ are_distinct-names names once h known in
        by (distinct h)
        (λ d. header-zero x values-are (omega (arith, says.count)) (same ∙ d) ∙ sym (check-zero names h d known))
        (λ d. header-again x values-are (omega (arith, says.count)) (same ∙ d) ∙ sym (check-twice names h d)))
        (λ f.
        let many : max_attributes < length h = leb-false (length h) max_attributes f in
        header-many x values-are (omega (arith, says.count)) ∙ sym (check-twice names h (by (distinct h) (λ d. absurd (omega (arith, few-names d))) (λ e. e))))

  pub header-check : header_number (Some x) ≡ header_check names h
  header-check =
      by (every (is_one names) h)
      (λ k. known-check k)
      (λ f. header-wrong x (says.values ∙ rw (places-right names h, f)) ∙ sym (check-wrong names h f))

  passed-over : {n : ℕ} → header_number (Some x) ≡ n → (n ≡ 0 → ⊥) → read_header names (records_of s) ≡ refused n 1
  passed-over {n} e some =
      let is : header_check names h ≡ n = sym header-check ∙ e in
      ap (read_header names) says.reads ∙ header_refused names h (follow (drop x.next s)) (λ z. some (sym is ∙ z)) ∙ ap (λ (k : ℕ). refused k 1) is

  module _ (e : header_number (Some x) ≡ 0) where
    check : header_check names h ≡ 0
    check = sym header-check ∙ e

    pub both : (distinct h ≡ true) × (every (is_one names) h ≡ true)
    both = header-yes names h check

    pub header-goes : read_header names (records_of s) ≡ read_rows names h [] (follow (drop x.next s))
    header-goes = ap (read_header names) says.reads ∙ header-taken names h (follow (drop x.next s)) check

    -- the values are the numbers of its names
    module _ (vs : List ℕ) (v : x.values ≡ Some vs) where
      pub header-values : vs ≡ values (numbers names h)
      header-values = let same : Some vs ≡ Some (values (numbers names h)) = sym v ∙ values-are both.1 in cc

      abbrev pub header_of_lem : {n : ℕ} {c : List ℕ} → n ≡ length names → c ≡ sources_from 0 n (take x.count vs) → HeaderOf names c
      header_of_lem {n} i k = record {
        texts = h;
        known = both.1;
        once = both.0;
        columns = k ∙ ap₂ (λ (m : ℕ) (xs : List ℕ). sources_from 0 m xs) i (ap (take x.count) header-values ∙ front-is both.1 (few-names both.1 both.0));
      }

      pub header-attributes : {n : ℕ} {c : List ℕ} (i : n ≡ length names) (k : c ≡ sources_from 0 n (take x.count vs)) → sourced c vs ≡ columns_of names h
      header-attributes i k =
          ap₂ sourced (header_of_lem i k).columns header-values ∙ sourced-header-array names once h both.1 (few-names both.1 both.0)

    -- with the rows of the records after it
    pub file-imported : {k : ℕ} {w o : List ℕ} {m : ℕ} → BodySays names h k s x.next w o (Ok m) → {xs : List ℕ} → xs ≡ columns_of names h
        → read_header names (records_of s) ≡ imported (table_with xs (kept_rows k w o m))
    file-imported {k} {w} {o} {m} body i = header-goes ∙ body.reads ∙ ap (λ (ys : List ℕ). imported (table_with ys (kept_rows k w o m))) (sym i)

broken-header : (ns : List (List ℕ)) → read_header ns broken ≡ refused 18 1
unfolding read_header
broken-header ns = refl

pub header-refused-at : (l : List ℕ) → top_check l ≡ 0 → (s : List ℕ) (x : Option Record) → RecordSays (judged (fields_of l) true) s 0 x → {n : ℕ} → header_number x ≡ n → (n ≡ 0 → ⊥)
    → read_header (fields_of l) (records_of s) ≡ refused n 1
header-refused-at l top s None says e some = ap (read_header (fields_of l)) says ∙ broken-header (fields_of l) ∙ ap (λ (k : ℕ). refused k 1) e
header-refused-at l top s (Some x) says e some = passed-over l top says e some

-- ---- what an import answers

pub refused-says : {x : Imported} {n m p : ℕ} {w w' : List ℕ} → x ≡ refused n p → m ≡ n → w' ≡ w → ImportedSays x w w' (record { number = m; count = 0; place = p })
refused-says e number words = rw e (record { number = number; count = refl; place = refl; words = words })

pub table-read : {x y : Imported} (w w' : List ℕ) (r : Result Import Refused) → x ≡ y → TableRead y w w' r → TableRead x w w' r
table-read w w' r e s = subst (λ (z : Imported). TableRead z w w' r) (sym e) s

pub imported-says : {x y : Imported} {w w' : List ℕ} {r : Import} → x ≡ y → ImportedSays y w w' r → ImportedSays x w w' r
imported-says {w = w} {w' = w'} {r = r} e s = subst (λ (z : Imported). ImportedSays z w w' r) (sym e) s
