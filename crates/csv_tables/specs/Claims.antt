-- What is claimed of import and export. `ImportDelivered` is what a caller of `import_csv` has: the statement to read first.
--   numbers_from a n == the numbers a, a + 1, .., n of them
--   Names names     == names as in document 01: 1 to 12 small letters each, none twice, at least one
--   Listed n ts     == tuples of n values that fit 16 bits, ascending, not more than a table has
--   Under names h xs fs r == r has, at each attribute of xs, the value that the record fs has under that attribute's name in the header h
--   FileTable l s t == the table t is that of the file s under the names of the line l
--   FileGood n t    == the table t is over n attributes: at least one of them and at most max_attributes, rows of as many values, and all that a question asks of it but its widths
--   Tables          == a file is imported as a table exactly if the table is that of the file
--   RefusedAfter h n r k == below the header h the first k of the records r pass, and the one after them is refused with n
--   RefusedRecord l s n p == a file refused with n is refused at its record p, from 1; at none with 0
--   ImportDelivered l s w w' r == what the names l, the file s, the words before and after and the result of an import say of each other
--   listed_table l ts == the table of tuples over all attributes
--   ThereAndBack    == what an export wrote is imported as these tuples, given room
--   RoundTrip, LineRoundTrip == what is exported is imported as these tuples over all attributes; so after a line of names that passed 15 and 16
use Rattle.std.specs.Prelude.{◌≡◌, true, ◌↔◌, ◌⊎◌, ℕ, zero, suc, ◌+◌, ◌≤◌, ◌<◌, length, get_or, take}
use mathlib.Core.List.{List, [], ◌∷◌, ◌++◌, Memᴰ}
use Rattle.boxes.specs.Limits.{max_attributes}
use Rattle.boxes.specs.Fits.{Each, Point}
use Rattle.questions.specs.Limits.{max_rows}
use Rattle.questions.specs.Questions.{with_rows, Table, table_with, got, table_in}
use Rattle.questions.specs.Good.{Below, Ascending, Sorted, widths_at}
use Rattle.questions.specs.Words.{flat, over, table_words}
use Rattle.fields.specs.Limits.{max_bytes, max_value}
use Rattle.fields.specs.Fields.{every, fields_of, is_name, is_number, field_number, is_one, distinct}
use Rattle.fields.specs.Names.{top_check}
use Rattle.csv_tables.specs.Grammar.{FileWritten}
use Rattle.csv_tables.specs.Records.{Records, broken, next, records_of}
use Rattle.csv_tables.specs.Imports.{imported, record_check, read_csv, import_csv, header_of, later_of, header_asked, import_asked}
use Rattle.csv_tables.specs.Exports.{export_csv}
use Rattle.csv_tables.specs.Says.{ImportSays, ExportSays}
use Rattle.csv_tables.specs.declared.import.Import.{Import}
use Rattle.csv_tables.specs.declared.export.Export.{Export}

unfoldable pub numbers_from : ℕ → ℕ → List ℕ
numbers_from a zero = []
numbers_from a (suc n) = a ∷ numbers_from (suc a) n

pub record Names (names : List (List ℕ)) : Type 0 where
  pub some : 1 ≤ length names
  pub named : every is_name names ≡ true
  pub once : distinct names ≡ true

pub record Listed (n : ℕ) (ts : List (List ℕ)) : Type 0 where
  pub long : Each (λ t. length t ≡ n) ts
  pub small : Each (Each (λ v. v ≤ max_value)) ts
  pub sorted : Sorted ts
  pub few : length ts ≤ max_rows

pub record Under (names h : List (List ℕ)) (xs : List ℕ) (fs : List (List ℕ)) (r : List ℕ) : Type 0 where
  pub long : length r ≡ length xs
  pub value : (i j : ℕ) → i < length xs → j < length h → get_or h j [] ≡ get_or names (get_or xs i 0) [] → get_or r i 0 ≡ field_number (get_or fs j [])

pub record FileTable (l s : List ℕ) (t : Table) : Type 0 where
  pub header : List (List ℕ)
  pub records : List (List (List ℕ))
  pub rows : List (List ℕ)
  -- The line of names passed 15 and 16. The file is not too long, and by the RFC's grammar it is written for the header and the records.
  pub named : top_check l ≡ 0
  pub short : length s ≤ max_bytes
  pub written : FileWritten (header ∷ records) s
  -- The header's names are distinct and all known.
  pub once : distinct header ≡ true
  pub known : Each (λ g. is_one (fields_of l) g ≡ true) header
  -- Every record has as many fields as the header, and every field is a value.
  pub long : Each (λ fs. length fs ≡ length header) records
  pub values : Each (λ fs. every is_number fs ≡ true) records
  -- The table has as many attributes as the header has names: their numbers, ascending, below the number of names.
  pub arity : length t.attributes ≡ length header
  pub numbers : (a : ℕ) → a < length (fields_of l) → Memᴰ a t.attributes ↔ Memᴰ (get_or (fields_of l) a []) header
  pub ascending : Ascending t.attributes
  pub below : Below (length (fields_of l)) t.attributes
  -- It is not open: it has rows. They ascend, each once, at most 4,096: a row is in it exactly if some record has these values under the header's names.
  pub contents : t.contents ≡ with_rows rows
  pub sorted : Sorted rows
  pub few : length rows ≤ max_rows
  pub has : (r : List ℕ) → Memᴰ r rows ↔ ((fs : List (List ℕ)) × Memᴰ fs records × Under (fields_of l) header t.attributes fs r)
  -- Its words are read as this table, in a question over these names, with any widths that the values fit, and whatever words follow.
  pub read_back : (ws : List ℕ) → length ws ≡ length (fields_of l) → Each (Point (widths_at ws t.attributes)) rows
      → (rest : List ℕ) → table_in (length ws) ws (table_words t ++ rest) ≡ got t rest

pub record FileGood (n : ℕ) (t : Table) : Type 0 where
  pub some : 1 ≤ length t.attributes
  pub few : length t.attributes ≤ max_attributes
  pub below : Below n t.attributes
  pub ascending : Ascending t.attributes
  pub rows : List (List ℕ)
  pub contents : t.contents ≡ with_rows rows
  pub even : Each (λ r. length r ≡ length t.attributes) rows
  pub small : Each (Each (λ v. v ≤ max_value)) rows
  pub few-rows : length rows ≤ max_rows
  pub sorted : Sorted rows

abbrev pub Tables : Type 0
Tables = (l s : List ℕ) (t : Table) → (import_csv l s ≡ imported t) ↔ FileTable l s t

-- what is outside the grammar counts as the next record
pub data RefusedAfter (h : List (List ℕ)) (n : ℕ) : Records → ℕ → Type 0 where
  outside : n ≡ 18 → RefusedAfter h n broken 0
  here : {fs : List (List ℕ)} {r : Records} → record_check h fs ≡ n → (n ≡ 0 → ⊥) → RefusedAfter h n (next fs r) 0
  later : {fs : List (List ℕ)} {r : Records} {k : ℕ} → record_check h fs ≡ 0 → RefusedAfter h n r k → RefusedAfter h n (next fs r) (suc k)

-- none for the line of names, for 17 and for 8; the header; or a later record, before which all pass
pub data RefusedRecord (l s : List ℕ) (n : ℕ) : ℕ → Type 0 where
  no_record : (top_check l ≡ n) ⊎ ((n ≡ 17) ⊎ (n ≡ 8)) → RefusedRecord l s n 0
  at-header : top_check l ≡ 0 → header_asked (fields_of l) (records_of s) ≡ n → (n ≡ 0 → ⊥) → RefusedRecord l s n 1
  at-record : {k : ℕ} → top_check l ≡ 0 → header_asked (fields_of l) (records_of s) ≡ 0 → RefusedAfter (header_of (records_of s)) n (later_of (records_of s)) k
      → RefusedRecord l s n (k + 2)

pub record ImportDelivered (l s w w' : List ℕ) (r : Import) : Type 0 where
  -- The number is that of the first question answered no.
  pub number : r.number ≡ import_asked l s w
  -- With another number than 0 no word is changed.
  pub refused : (r.number ≡ 0 → ⊥) → w' ≡ w
  -- With another number than 0 and 13 the count is 0.
  pub uncounted : (r.number ≡ 0 → ⊥) → (r.number ≡ 13 → ⊥) → r.count ≡ 0
  -- With a refusal the place is that of the refused record.
  pub placed : (r.number ≡ 0 → ⊥) → (r.number ≡ 13 → ⊥) → RefusedRecord l s r.number r.place
  -- With 13 the file has a table, and the count says how many words it takes: more than there are.
  pub short : r.number ≡ 13 → (t : Table) × FileTable l s t × (r.count ≡ length (table_words t)) × (length w < length (table_words t))
  -- With 0 its words stand at the front, the count says how many, and later words are kept.
  pub table : r.number ≡ 0
      → (t : Table) × FileTable l s t × (w' ≡ over (table_words t) w) × (r.count ≡ length (table_words t)) × (length (table_words t) ≤ length w)

abbrev pub RoundTrip : Type 0
RoundTrip = (names ts : List (List ℕ)) → Names names → Listed (length names) ts → length (export_csv names ts) ≤ max_bytes
    → read_csv names (export_csv names ts) ≡ imported (table_with (numbers_from 0 (length names)) ts)

abbrev pub LineRoundTrip : Type 0
LineRoundTrip = (l : List ℕ) (ts : List (List ℕ)) → top_check l ≡ 0 → Listed (length (fields_of l)) ts → length (export_csv (fields_of l) ts) ≤ max_bytes
    → import_csv l (export_csv (fields_of l) ts) ≡ imported (table_with (numbers_from 0 (length (fields_of l))) ts)

abbrev pub listed_table : List ℕ → List (List ℕ) → Table
listed_table l ts = table_with (numbers_from 0 (length (fields_of l))) ts

-- of the bytes that an export left, and the words of an import of these
abbrev pub ThereAndBack : Type 0
ThereAndBack = (l : List ℕ) (ts : List (List ℕ)) (o o' w w' : List ℕ) (x : Export) (r : Import) → top_check l ≡ 0 → Listed (length (fields_of l)) ts
    → ExportSays l (flat ts) o o' x → x.number ≡ 0 → x.count ≤ max_bytes → ImportSays l (take x.count o') w w' r → length (table_words (listed_table l ts)) ≤ length w
    → (r.number ≡ 0) × (w' ≡ over (table_words (listed_table l ts)) w)
