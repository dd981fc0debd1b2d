-- What is exported is imported again.
--   name-text, values-text == names and values stand in files without quotes
--   row-taken, check-passes == a record that passes adds its row; it passes where it has as many fields as the header, each a value
--   tuples-read        == the records of tuples are read as these tuples
--   header-taken       == a header that passes: the records after it are read
--   round_trip         == the tuples, over all attributes
use mathlib.Core.Path.{◌≡◌, sym, ap, ◌∙◌}
use mathlib.Core.Bool.{true, ◌&&◌}
use mathlib.Core.List.{List, [], ◌∷◌, ◌++◌, map, append-nil}
use Prim.Native.Nat.{ℕ, ◌≤◌, ◌<◌}
use native.Mathlib.Nat.{zero-add}
use native.Mathlib.Omega.{arith}
use borrow.Author.Tests.{leb-true, eq-eqb, le-ltb}
use lib.Dec.{leb}
use lib.ListN.{length, get_or, length-map}
use lib.Seq.{append_snoc}
use Rattle.boxes.specs.Fits.{Each, none, more}
use Rattle.boxes.proofs.Tests.{and_left, and_right}
use Rattle.boxes.proofs.Lists.{each-imp, each_map, each_at, mem-each, get_d_map}
use Rattle.questions.specs.Limits.{max_rows}
use Rattle.fields.specs.Limits.{max_bytes, max_value}
use Rattle.fields.specs.Fields.{is_letter, is_digit, every, is_name, is_number, field_number, is_one}
use Rattle.questions.specs.Questions.{table_with}
use Rattle.fields.specs.Decimals.{decimal}
use Rattle.fields.proofs.Laws.{every-each, member-known, distinct-place, name-letters, each-every, digits_decimal, number-decimal, field_number-decimal}
use Rattle.csv_tables.specs.Records.{Records, next, record_list}
use Rattle.csv_tables.specs.Imports.{imported, header_check, record_check, columns_of, value_at, row_of, tabled, read_rows, read_header, read_csv}
use Rattle.csv_tables.specs.Exports.{value_fields, export_csv}
use Rattle.csv_tables.specs.Claims.{numbers_from, Names, Listed, RoundTrip}
use Rattle.csv_tables.proofs.ByteKinds.{text-high}
use Rattle.csv_tables.proofs.Lines.{TextField, TextLine, texts, file-read}
use Rattle.csv_tables.proofs.HeaderColumns.{columns-all, map-numbers}
use Rattle.csv_tables.proofs.Sorting.{sort-same}

-- ---- no quotes

bytes-text : (m n : ℕ) → 45 ≤ m → n ≤ 126 → {f : List ℕ} → Each (λ b. (leb m b && leb b n) ≡ true) f → TextField f
bytes-text m n h l =
    each-imp (λ b t. text-high b (omega (arith, leb-true m b (and_left (leb m b) (leb b n) t))) (omega (arith, leb-true b n (and_right (leb m b) (leb b n) t))))

name-text : (f : List ℕ) → is_name f ≡ true → TextField f
name-text f t =
    bytes-text 97 122 (omega arith) (omega arith) (every-each is_letter f (name-letters f t))

value-text : (v : ℕ) → TextField (decimal v)
value-text v = bytes-text 48 57 (omega arith) (omega arith) (every-each is_digit (decimal v) (digits_decimal v))

text-line : (fs : List (List ℕ)) → 1 ≤ length fs → Each TextField fs → TextLine fs
text-line [] h e = absurd (omega arith)
text-line (f ∷ fs) h e = texts e

values-text : (t : List ℕ) → 1 ≤ length t → TextLine (value_fields t)
values-text t h = text-line (value_fields t) (omega (arith, length-map t decimal)) (each_map decimal (λ v u. value-text v) (mem-each {P = λ (v : ℕ). ℕ} t (λ v m. 0)))

-- ---- records that pass

pub row-taken : (names h rs fs : List (List ℕ)) (r : Records) → record_check h fs ≡ 0
    → read_rows names h rs (next fs r) ≡ read_rows names h (rs ++ (row_of names h fs ∷ [])) r
unfolding read_rows
row-taken names h rs fs r e = rw (eq-eqb (record_check h fs) 0 e)

pub check-passes : (h fs : List (List ℕ)) → length fs ≡ length h → every is_number fs ≡ true → record_check h fs ≡ 0
check-passes h fs e n = rw (eq-eqb (length fs) (length h) e, n)

module _ {names : List (List ℕ)} (n : Names names) where
  all_known : Each (λ g. is_one names g ≡ true) names
  all_known = mem-each names (λ g m. member-known g names m)

  columns-are : columns_of names names ≡ numbers_from 0 (length names)
  columns-are = columns-all names 0 all_known

  value-is : (t : List ℕ) → length t ≡ length names → Each (λ v. v ≤ max_value) t → (i : ℕ) → i < length t → value_at names names (value_fields t) i ≡ get_or t i 0
  value-is t e small i h =
      rw (distinct-place names n.once i (omega arith))
      (ap field_number (get_d_map decimal t i 0 [] h) ∙ field_number-decimal (get_or t i 0) (each_at small i 0 h))

  row_is : (t : List ℕ) → length t ≡ length names → Each (λ v. v ≤ max_value) t → row_of names names (value_fields t) ≡ t
  row_is t e small =
      ap (map (value_at names names (value_fields t))) (columns-are ∙ ap (numbers_from 0) (sym e))
      ∙ map-numbers (value_at names names (value_fields t)) 0 t (λ i j k l. ap (value_at names names (value_fields t)) (k ∙ zero-add i) ∙ value-is t e small i l)

  tuples-read : (rs : List (List ℕ)) {ts : List (List ℕ)} → Each (λ t. length t ≡ length names) ts → Each (Each (λ v. v ≤ max_value)) ts
      → read_rows names names rs (record_list (map value_fields ts)) ≡ tabled names names (rs ++ ts)
  unfolding record_list read_rows
  tuples-read rs none none = ap (tabled names names) (sym (append-nil rs))
  tuples-read rs (more {x = t} {xs = ts} e r) (more small s) =
      let fs : List (List ℕ) = value_fields t in
      let passes : record_check names fs ≡ 0 = check-passes names fs (length-map t decimal ∙ e) (each-every is_number (each_map decimal number-decimal small)) in
      row-taken names names rs fs (record_list (map value_fields ts)) passes
      ∙ ap (λ (x : List ℕ). read_rows names names (rs ++ (x ∷ [])) (record_list (map value_fields ts))) (row_is t e small)
      ∙ tuples-read (rs ++ (t ∷ [])) r s ∙ ap (tabled names names) (append_snoc rs t ts)

  header-passes : header_check names names ≡ 0
  header-passes = rw (n.once, each-every (is_one names) all_known)

  tabled-is : {ts : List (List ℕ)} → Listed (length names) ts → tabled names names ts ≡ imported (table_with (numbers_from 0 (length names)) ts)
  tabled-is {ts} l =
      rw (sort-same l.sorted, le-ltb max_rows (length ts) l.few) (ap (λ (xs : List ℕ). imported (table_with xs ts)) columns-are)

pub header-taken : (names h : List (List ℕ)) (r : Records) → header_check names h ≡ 0 → read_header names (next h r) ≡ read_rows names h [] r
unfolding read_header
header-taken names h r e = rw (eq-eqb (header_check names h) 0 e)

pub round_trip : RoundTrip
unfolding read_csv export_csv
round_trip names ts n l short =
    let lines : Each TextLine (names ∷ map value_fields ts) =
    more (text-line names n.some (each-imp name-text (every-each is_name names n.named)))
    (each_map value_fields (λ t e. values-text t (omega (arith, e, n.some))) l.long) in
    rw (le-ltb max_bytes (length (export_csv names ts)) short)
    (ap (read_header names) (file-read lines) ∙ header-taken names names (record_list (map value_fields ts)) (header-passes n)
    ∙ tuples-read n [] l.long l.small ∙ tabled-is n l)
