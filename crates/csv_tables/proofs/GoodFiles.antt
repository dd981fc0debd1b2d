-- An imported table has all that a question asks of a table, but for the widths.
--   field_number-small == a field's number is at most the highest
--   row_small         == so is each value of a record's row
--   taken-good        == the table of a file is good, under at most max_attributes names
--   file-good, read-good == so is what a file is imported as, after a line of names or under these names
use mathlib.Core.Path.{◌≡◌, sym, ap, subst}
use mathlib.Core.Bool.{true, ◌||◌, not}
use mathlib.Core.List.{List, Memᴰ}
use Prim.Native.Nat.{ℕ, ◌≤◌}
use native.Mathlib.Omega.{arith}
use borrow.Author.Tests.{leb-true}
use lib.Dec.{eqb, leb}
use lib.ListN.{length, get_or}
use Rattle.boxes.specs.Limits.{max_attributes}
use Rattle.boxes.specs.Fits.{Each}
use Rattle.boxes.proofs.Tests.{by, and_right}
use Rattle.boxes.proofs.Lists.{mem-each, each_map}
use Rattle.questions.specs.Questions.{Table}
use Rattle.questions.proofs.Laws.{ascending-few}
use Rattle.fields.specs.Limits.{max_value}
use Rattle.fields.specs.Fields.{every, is_digit, value_from, is_number, field_number, fields_of}
use Rattle.fields.proofs.Laws.{top_check-names}
use Rattle.csv_tables.specs.Imports.{imported, columns_of, value_at, row_of, read_csv}
use Rattle.csv_tables.specs.Claims.{Under, FileTable, FileGood}
use Rattle.csv_tables.proofs.HeaderColumns.{columns-each}
use Rattle.csv_tables.proofs.Taking.{Taken, file-taken}
use Rattle.csv_tables.proofs.FileRows.{under-row, file-contents, file-rows, file-sorted, file-ascending, file-below, file-some}
use Rattle.csv_tables.proofs.FileTables.{table_taken}

-- ---- values

number_small : (f : List ℕ) → is_number f ≡ true → value_from 0 f ≤ max_value
unfolding is_number
number_small f e =
    leb-true (value_from 0 f) max_value
    (and_right (eqb (length f) 1 || not (eqb (get_or f 0 0) 48)) _ (and_right (every is_digit f) _ (and_right (leb 1 (length f)) _ e)))

pub field_number-small : (f : List ℕ) → field_number f ≤ max_value
unfolding field_number
field_number-small f = by (is_number f) (λ t. rw t (number_small f t)) (λ e. rw e (omega arith))

row_small : (names h fs : List (List ℕ)) → Each (λ v. v ≤ max_value) (row_of names h fs)
row_small names h fs = each_map (value_at names h fs) (λ a c. field_number-small _) (columns-each h 0 names)

-- ---- the table

taken-good : {names : List (List ℕ)} {s : List ℕ} {t : Table} → Taken names s t → length names ≤ max_attributes → FileGood (length names) t
taken-good {names} {s} {t} k short = record {
  some = file-some k;
  few = omega (arith, short, ascending-few (file-ascending k) (file-below k));
  below = file-below k;
  ascending = file-ascending k;
  rows = k.rows;
  contents = file-contents k;
  even = mem-each k.rows (λ r m. ((file-rows names s t k r).0 m).2.long);
  small = mem-each k.rows small_row;
  few-rows = k.few;
  sorted = file-sorted k;
}
  where
    attributes-are : t.attributes ≡ columns_of names k.header
    attributes-are = ap (λ (u : Table). u.attributes) k.is

    small_row : (r : List ℕ) → Memᴰ r k.rows → Each (λ v. v ≤ max_value) r
    small_row r m =
        let from = (file-rows names s t k r).0 m in
        let under : Under names k.header (columns_of names k.header) from.0 r = subst (λ (xs : List ℕ). Under names k.header xs from.0 r) attributes-are from.2 in
        subst (Each (λ v. v ≤ max_value)) (sym (under-row names k.header from.0 r under)) (row_small names k.header from.0)

pub file-good : {l s : List ℕ} {t : Table} → FileTable l s t → FileGood (length (fields_of l)) t
file-good {l} f = taken-good (table_taken f) (top_check-names l f.named).few

pub read-good : (names : List (List ℕ)) (s : List ℕ) {t : Table} → length names ≤ max_attributes → read_csv names s ≡ imported t → FileGood (length names) t
read-good names s short e = taken-good (file-taken names s e) short
