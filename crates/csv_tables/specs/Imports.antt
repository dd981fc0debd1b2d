-- How a comma-separated file is imported: 17; its first record, the header, 18 and then 16; record by record 18 and then 19; at the end 8.
--   Imported             == a refusal's number and the place of the refused record in the file, from 1 (0 where it is none's), or the table
--   header_check names h  == the number for the header's names
--   record_check h fs     == the number for a later record
--   columns_from a h names, columns_of names h == the attribute numbers of the header's names, ascending (of the names from the number a on)
--   value_at names h fs a == the value that a record has under an attribute's name
--   row_of names h fs     == the row of a record: its values in attribute order
--   insert_row r rs, sort_rows rs == a row put into ascending rows, unless it is there; rows ascending, each once
--   tabled names h rs    == at the end: the table of all rows read, 8
--   record_place rs       == the place of the record after those whose rows are rs
--   read_rows names h rs r == the records that follow, one after the other; rs are the rows read before, in the file's order
--   read_header names r   == the file's records
--   read_csv names s      == the whole file
--   import_csv l s        == the same after the names' line, 15 and 16
-- And which questions a file is asked, in which order, beside the paper's words; `import-asked` says that these are they.
--   header_of r, later_of r == the header, the first of the records r; the later ones
--   header_asked names r  == the number for the header
--   records_asked h r     == the first number for a record of r, below the header h
--   record_rows names h r == the rows of the records r, one after the other
--   different_rows names r, table_from names r == the different rows of the later records, ascending; the table of these
--   import_asked l s w    == the number of the first question answered no, of the names l, the file s and the words w; 0 where each is answered yes
use Rattle.std.specs.Prelude.{◌&&◌, not, List, [], ◌∷◌, ◌++◌, map, ℕ, suc, ◌+◌, eqb, ltb, length, get_or}
use Rattle.boxes.specs.Intervals.{pick}
use Rattle.questions.specs.Limits.{max_rows}
use Rattle.questions.specs.Orders.{same, before}
use Rattle.questions.specs.Questions.{Table, table_with, when, first_of}
use Rattle.questions.specs.Words.{table_words}
use Rattle.fields.specs.Limits.{max_bytes}
use Rattle.fields.specs.Fields.{every, fields_of, is_number, field_number, place, is_one, distinct}
use Rattle.fields.specs.Names.{top_check}
use Rattle.csv_tables.specs.Records.{Records, ended, broken, next, records_of}

pub data Imported : Type 0 where
  refused : ℕ → ℕ → Imported
  imported : Table → Imported

-- are its names distinct and known? 16
abbrev pub header_check : List (List ℕ) → List (List ℕ) → ℕ
header_check names h = when (not (distinct h && every (is_one names) h)) 16

-- has it as many fields as the header? 18. Is each a value? 19
abbrev pub record_check : List (List ℕ) → List (List ℕ) → ℕ
record_check h fs = first_of (when (not (eqb (length fs) (length h))) 18) (when (not (every is_number fs)) 19)

unfoldable pub columns_from : ℕ → List (List ℕ) → List (List ℕ) → List ℕ
columns_from a h [] = []
columns_from a h (g ∷ names) = pick (is_one h g) (a ∷ columns_from (suc a) h names) (columns_from (suc a) h names)

abbrev pub columns_of : List (List ℕ) → List (List ℕ) → List ℕ
columns_of names h = columns_from 0 h names

abbrev pub value_at : List (List ℕ) → List (List ℕ) → List (List ℕ) → ℕ → ℕ
value_at names h fs a = field_number (get_or fs (place (get_or names a []) h) [])

abbrev pub row_of : List (List ℕ) → List (List ℕ) → List (List ℕ) → List ℕ
row_of names h fs = map (value_at names h fs) (columns_of names h)

unfoldable pub insert_row : List ℕ → List (List ℕ) → List (List ℕ)
insert_row r [] = r ∷ []
insert_row r (x ∷ xs) = pick (before r x) (r ∷ (x ∷ xs)) (pick (same r x) (x ∷ xs) (x ∷ insert_row r xs))

unfoldable pub sort_rows : List (List ℕ) → List (List ℕ)
sort_rows [] = []
sort_rows (r ∷ rs) = insert_row r (sort_rows rs)

-- at most 4,096 different rows? 8
abbrev pub tabled : List (List ℕ) → List (List ℕ) → List (List ℕ) → Imported
tabled names h rs = pick (ltb max_rows (length (sort_rows rs))) (refused 8 0) (imported (table_with (columns_of names h) (sort_rows rs)))

-- the header is the first record
abbrev pub record_place : List (List ℕ) → ℕ
record_place rs = length rs + 2

unfoldable pub read_rows : List (List ℕ) → List (List ℕ) → List (List ℕ) → Records → Imported
read_rows names h rs ended = tabled names h rs
read_rows names h rs broken = refused 18 (record_place rs)
read_rows names h rs (next fs r) = pick (eqb (record_check h fs) 0) (read_rows names h (rs ++ (row_of names h fs ∷ [])) r) (refused (record_check h fs) (record_place rs))

-- a file has a first record, or something outside the grammar
unfoldable pub read_header : List (List ℕ) → Records → Imported
read_header names ended = refused 18 1
read_header names broken = refused 18 1
read_header names (next h r) = pick (eqb (header_check names h) 0) (read_rows names h [] r) (refused (header_check names h) 1)

-- at most 60,000 bytes? 17
unfoldable pub read_csv : List (List ℕ) → List ℕ → Imported
read_csv names s = pick (ltb max_bytes (length s)) (refused 17 0) (read_header names (records_of s))

-- the names are asked as a text's top line is
unfoldable pub import_csv : List ℕ → List ℕ → Imported
import_csv l s = pick (eqb (top_check l) 0) (read_csv (fields_of l) s) (refused (top_check l) 0)

-- ---- the questions, and their order

-- a file's first record is its header
abbrev pub header_of : Records → List (List ℕ)
header_of ended = []
header_of broken = []
header_of (next h r) = h

-- and the others are its later records
abbrev pub later_of : Records → Records
later_of ended = ended
later_of broken = broken
later_of (next h r) = r

-- "18 for a record outside that RFC's grammar"; "After 18 the header's names meet question 16"
abbrev pub header_asked : List (List ℕ) → Records → ℕ
header_asked names ended = 18
header_asked names broken = 18
header_asked names (next h r) = header_check names h

-- "18 for a record outside that RFC's grammar or with another number of fields than the header; then 19 for a field that isn't a value written as in 01"
unfoldable pub records_asked : List (List ℕ) → Records → ℕ
records_asked h ended = 0
records_asked h broken = 18
records_asked h (next fs r) = first_of (record_check h fs) (records_asked h r)

unfoldable pub record_rows : List (List ℕ) → List (List ℕ) → Records → List (List ℕ)
record_rows names h ended = []
record_rows names h broken = []
record_rows names h (next fs r) = row_of names h fs ∷ record_rows names h r

abbrev pub different_rows : List (List ℕ) → Records → List (List ℕ)
different_rows names r = sort_rows (record_rows names (header_of r) (later_of r))

abbrev pub table_from : List (List ℕ) → Records → Table
table_from names r = table_with (columns_of names (header_of r)) (different_rows names r)

unfoldable pub import_asked : List ℕ → List ℕ → List ℕ → ℕ
import_asked l s w =
    let names = fields_of l in
    let records = records_of s in
    -- the names as a text's top line: 15, then 16
    first_of (top_check l) (
    -- at most 60,000 bytes? 17. "New numbers, after 17, record by record:"
    first_of (when (ltb max_bytes (length s)) 17) (
    -- the first record is the header: 18, then 16
    first_of (header_asked names records) (
    -- each later record: 18, then 19
    first_of (records_asked (header_of records) (later_of records)) (
    -- "At the end, more than 4,096 different rows get 8,"
    first_of (when (ltb max_rows (length (different_rows names records))) 8) (
    -- "then .. a lent place too short 13"
    when (ltb (length w) (length (table_words (table_from names records)))) 13)))))
