-- A file is imported as a table exactly if the table is that of the file: so `FileTable` leaves nothing of the table free.
--   line-passed  == where a table is imported, the line of names passed
--   file-numbers == a table's attributes are the numbers of the header's names
--   file-table   == an imported table is that of its file
--   table_taken, table-file == the table of a file is what the file is imported as
--   tables       == both
use mathlib.Core.Path.{◌≡◌, sym, ap, ap₂, subst, ◌∙◌}
use mathlib.Core.Logic.{◌↔◌}
use mathlib.Core.List.Memᴰ
use mathlib.Core.List.{List, [], map, Memᴰ}
use Prim.Native.Nat.{ℕ, ◌<◌}
use native.Mathlib.Nat.{zero-add}
use native.Mathlib.Omega.{arith}
use borrow.Author.Tests.{eqb-true, eqb-false}
use lib.Dec.{eqb}
use lib.ListN.{length, get_or, length-map}
use Rattle.boxes.specs.Fits.{Each}
use Rattle.boxes.proofs.Tests.{by}
use Rattle.boxes.proofs.Lists.{each-mem, each_map}
use Rattle.questions.specs.Questions.{Contents, Table}
use Rattle.questions.proofs.OrderedLists.{ordered_same}
use Rattle.fields.specs.Fields.{fields_of}
use Rattle.fields.specs.Names.{top_check}
use Rattle.fields.proofs.Laws.{top_check-names, known_member, member-known}
use Rattle.csv_tables.specs.Imports.{imported, columns_of, value_at, row_of, sort_rows, import_csv}
use Rattle.csv_tables.specs.Claims.{Under, FileTable, Tables}
use Rattle.csv_tables.proofs.Written.{file-reads}
use Rattle.csv_tables.proofs.Parsed.{file-parsed}
use Rattle.csv_tables.proofs.HeaderColumns.{Column, columns-each, columns-ascending, columns-mem}
use Rattle.csv_tables.proofs.Counting.{file-arity}
use Rattle.csv_tables.proofs.Ordering.{sort-unique}
use Rattle.csv_tables.proofs.Taking.{refused-imported, Taken, file-taken, taken-file}
use Rattle.csv_tables.proofs.FileRows.{row_under, under-row, file-contents, file-rows, file-sorted, file-ascending, file-below}
use Rattle.csv_tables.proofs.ReadBack.{file-read-back}
use Rattle.csv_tables.proofs.TopLines.{line-names, import-read, import-names}

-- ---- an imported table

line-passed : (l s : List ℕ) {t : Table} → import_csv l s ≡ imported t → top_check l ≡ 0
line-passed l s e =
    by (eqb (top_check l) 0)
    (λ p. eqb-true (top_check l) 0 p)
    (λ f. refused-imported (sym (import-names l s (eqb-false (top_check l) 0 f)) ∙ e))

file-numbers : {names : List (List ℕ)} {s : List ℕ} {t : Table} (k : Taken names s t) (a : ℕ) → a < length names
    → Memᴰ a t.attributes ↔ Memᴰ (get_or names a []) k.header
file-numbers {names} {t = t} k a small = (
  λ m. known_member (get_or names a []) h ((each-mem (columns-each h 0 names) (subst (λ (xs : List ℕ). Memᴰ a xs) are m)).known a (sym (zero-add a))),
  λ m. subst (λ (xs : List ℕ). Memᴰ a xs) (sym are) (columns-mem h 0 names a a (sym (zero-add a)) small (member-known (get_or names a []) h m)),
)
  where
    h : List (List ℕ)
    h = k.header

    are : t.attributes ≡ columns_of names h
    are = ap (λ (u : Table). u.attributes) k.is

pub file-table : (l s : List ℕ) {t : Table} → import_csv l s ≡ imported t → FileTable l s t
file-table l s {t} e =
    let named : top_check l ≡ 0 = line-passed l s e in
    let names : List (List ℕ) = fields_of l in
    let k : Taken names s t = file-taken names s (sym (import-read l s named) ∙ e) in
    record {
      header = k.header;
      records = k.records;
      rows = k.rows;
      named = named;
      short = k.short;
      written = file-parsed _ s k.read;
      once = k.once;
      known = k.known;
      long = k.long;
      values = k.values;
      arity = file-arity k (line-names l named).once;
      numbers = file-numbers k;
      ascending = file-ascending k;
      below = file-below k;
      contents = file-contents k;
      sorted = file-sorted k;
      few = k.few;
      has = file-rows names s t k;
      read_back = file-read-back k (top_check-names l named).few;
    }

-- ---- and back

pub table_taken : {l s : List ℕ} {t : Table} → FileTable l s t → Taken (fields_of l) s t
table_taken {l} {s} {t} f = record {
  header = h;
  records = f.records;
  short = f.short;
  read = file-reads f.written;
  once = f.once;
  known = f.known;
  long = f.long;
  values = f.values;
  rows = f.rows;
  sorts = rows_are;
  is = ap₂ (λ (xs : List ℕ) (c : Contents). record { attributes = xs; contents = c }) attributes-are f.contents;
  few = f.few;
}
  where
    names : List (List ℕ)
    names = fields_of l

    h : List (List ℕ)
    h = f.header

    rows : List (List ℕ)
    rows = map (row_of names h) f.records

    attributes-are : t.attributes ≡ columns_of names h
    attributes-are =
        ordered_same (λ a e. omega (arith, e)) (λ a b c d e. omega (arith, d, e)) f.ascending (columns-ascending h 0 names)
        (λ a m.
        let small : a < length names = each-mem f.below m in
        columns-mem h 0 names a a (sym (zero-add a)) small (member-known (get_or names a []) h ((f.numbers a small).0 m)))
        (λ a m.
        let c : Column 0 h names a = each-mem (columns-each h 0 names) m in
        (f.numbers a (omega (arith, c.below))).1 (known_member (get_or names a []) h (c.known a (sym (zero-add a)))))

    -- a row that has a record's values is that record's
    is_row : (r : List ℕ) → (fs : List (List ℕ)) × Memᴰ fs f.records × Under names h t.attributes fs r → Memᴰ r rows
    is_row r from =
        Memᴰ.cast (under-row names h from.0 r (subst (λ (xs : List ℕ). Under names h xs from.0 r) attributes-are from.2))
        (Memᴰ.map (row_of names h) from.1)

    has-row : (r : List ℕ) → Memᴰ r rows → Memᴰ r f.rows
    has-row r m =
        let from = Memᴰ.of_map (row_of names h) f.records m in
        let under : Under names h (columns_of names h) from.0 r = subst (Under names h (columns_of names h) from.0) from.2 (row_under names h f.once from.0) in
        (f.has r).1 (from.0, from.1, subst (λ (xs : List ℕ). Under names h xs from.0 r) (sym attributes-are) under)

    rows_are : f.rows ≡ sort_rows rows
    rows_are =
        let long : Each (λ r. length r ≡ length (columns_of names h)) rows = each_map (row_of names h) (λ fs e. length-map (columns_of names h) (value_at names h fs)) f.long in
        sort-unique long f.sorted (λ r m. is_row r ((f.has r).0 m)) has-row

pub table-file : (l s : List ℕ) {t : Table} → FileTable l s t → import_csv l s ≡ imported t
table-file l s f = import-read l s f.named ∙ taken-file (fields_of l) s (table_taken f)

pub tables : Tables
tables l s t = (λ e. file-table l s e, λ f. table-file l s f)
