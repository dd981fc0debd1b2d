-- What the import's parts promise to each other.
--   record_number x k     == the number for a record after a header of k names, or for none within the grammar
--   header_number x       == the number for a header (good_places, of its count and its values)
--   whole y              == a record whose fields all stand for values
--   Checked x n r        == what was asked of x, and its number: it passes, as r, or is refused with the number
--   placed_at p r        == the same with the place of the record
--   HeaderOf names c     == the columns c are those of a header whose names are distinct and known
--   RowsAsk s from c w o == what reading the records after the header asks: a place in a file that is not too long, columns of a header, and room for the
--                             rows and their order
--   RowsRead o x         == the rows that were read are few, and numbered below their count
--   body_of names h k w o x == what an import is by what became of the records after the header h
--   BodySays names h k s from w o x == x is what became of the records of the file s from a place on, below the header h; the rows of k values are in w
--                             and o
--   TableAsk c w o       == what writing a table asks: columns, and rows in w, numbered by o
--   FileAsk l n s w o    == what reading a file asks: a line of names that passed, their number, a file that is not too long, and room for rows and order
--   TableRead x w w' r   == a table is written, or lacks room; or a refusal's number and place, and then nothing is written
use Rattle.std.specs.Prelude.{◌≡◌, Bool, true, false, ◌&&◌, not, is_some, Option, None, Some, Result, Ok, Err, List, [], map, ℕ, ◌≤◌, ◌<◌, eqb, leb, length, take, drop}
use Rattle.boxes.specs.Limits.{max_attributes}
use Rattle.boxes.specs.Fits.{Each}
use Rattle.questions.specs.Limits.{max_rows}
use Rattle.questions.specs.Questions.{Table, table_with, when, first_of}
use Rattle.fields.specs.Limits.{max_bytes}
use Rattle.fields.specs.Fields.{every, fields_of, place, is_one, distinct}
use Rattle.fields.specs.Names.{top_check}
use Rattle.csv_tables.specs.Records.{follow}
use Rattle.csv_tables.specs.Columns.{are_distinct, sources_from}
use Rattle.csv_tables.specs.Keeping.{rows_words, kept_rows}
use Rattle.csv_tables.specs.Imports.{Imported, refused, imported, columns_of, read_rows}
use Rattle.csv_tables.specs.Refusals.{refusal_number, place_number}
use Rattle.csv_tables.specs.Says.{ImportedSays}
use Rattle.csv_tables.specs.declared.record.Record.{Record}
use Rattle.csv_tables.specs.declared.import.Row.{Row}
use Rattle.csv_tables.specs.declared.refusal.FileRefusal.{FileRefusal}
use Rattle.csv_tables.specs.declared.refusal.Refused.{Refused}
use Rattle.csv_tables.specs.declared.import.Import.{Import}

-- within the grammar, and as many fields as the header has names? 18. Is each a value? 19
abbrev pub record_number : Option Record → ℕ → ℕ
record_number None k = 18
record_number (Some x) k = first_of (when (not (eqb x.count k)) 18) (when (not (is_some x.values)) 19)

-- more than there are attributes cannot be distinct
abbrev pub good_places : ℕ → Option (List ℕ) → Bool
good_places n None = false
good_places n (Some vs) = leb n max_attributes && are_distinct (take n vs)

-- within the grammar? 18. Are its names distinct and known? 16
abbrev pub header_number : Option Record → ℕ
header_number None = 18
header_number (Some x) = when (not (good_places x.count x.values)) 16

abbrev pub whole : Row → Record
whole y = record { count = y.count; values = Some y.values; next = y.next }

abbrev pub Checked : Option Record → ℕ → Result Row FileRefusal → Type 0
Checked x n (Ok y) = (x ≡ Some (whole y)) × (n ≡ 0)
Checked x n (Err r) = n ≡ refusal_number r

abbrev pub placed_at : ℕ → Result Row FileRefusal → Result Row Refused
placed_at p (Ok y) = Ok y
placed_at p (Err r) = Err (record { why = r; place = Some p })

pub record HeaderOf (names : List (List ℕ)) (c : List ℕ) : Type 0 where
  pub texts : List (List ℕ)
  pub known : every (is_one names) texts ≡ true
  pub once : distinct texts ≡ true
  pub columns : c ≡ sources_from 0 (length names) (map (λ f. place f names) texts)

pub record RowsAsk (s : List ℕ) (from : ℕ) (c w o : List ℕ) : Type 0 where
  pub names : List ℕ
  pub named : top_check names ≡ 0
  pub short : length s ≤ max_bytes
  pub within : from ≤ length s
  pub header : HeaderOf (fields_of names) c
  pub rows_long : length w ≡ rows_words
  pub order-long : length o ≡ max_rows

abbrev pub RowsRead : List ℕ → Result ℕ Refused → Type 0
RowsRead o (Ok m) = (m ≤ max_rows) × Each (λ i. i < m) (take m o)
RowsRead o (Err r) = Unit

abbrev pub body_of : List (List ℕ) → List (List ℕ) → ℕ → List ℕ → List ℕ → Result ℕ Refused → Imported
body_of names h k w o (Ok m) = imported (table_with (columns_of names h) (kept_rows k w o m))
body_of names h k w o (Err r) = refused (refusal_number r.why) (place_number r.place)

pub record BodySays (names h : List (List ℕ)) (k : ℕ) (s : List ℕ) (from : ℕ) (w o : List ℕ) (x : Result ℕ Refused) : Type 0 where
  pub rows_long : length w ≡ rows_words
  pub order-long : length o ≡ max_rows
  pub rows : RowsRead o x
  pub reads : read_rows names h [] (follow (drop from s)) ≡ body_of names h k w o x

pub record TableAsk (c w o : List ℕ) : Type 0 where
  pub arity : length c ≤ max_attributes
  pub few : length o ≤ max_rows
  pub rows_long : length w ≡ rows_words
  pub numbers : Each (λ i. i < length o) o

pub record FileAsk (l : List ℕ) (n : ℕ) (s w o : List ℕ) : Type 0 where
  pub named : top_check l ≡ 0
  pub dimension : n ≡ length (fields_of l)
  pub short : length s ≤ max_bytes
  pub rows_long : length w ≡ rows_words
  pub order-long : length o ≡ max_rows

abbrev pub TableRead : Imported → List ℕ → List ℕ → Result Import Refused → Type 0
TableRead x w w' (Ok i) = ((t : Table) × (x ≡ imported t)) × ImportedSays x w w' i
TableRead x w w' (Err r) = (x ≡ refused (refusal_number r.why) (place_number r.place)) × (w' ≡ w)
