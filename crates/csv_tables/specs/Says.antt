-- What the public functions promise.
--   import_number x w   == the number of an import: the refusal's, or 13 where the words w lack room for the table
--   import_count x      == how many words the table has; 0 for a refusal
--   import_place x      == the place of the refused record in the file, from 1; 0 where there is none
--   import_words x w    == the later content of the words
--   ImportedSays x w w' r == number, count and place of an import, and the later content of the words
--   ImportSays l s w w' r == so for every line of names, every file and any words
--   exported l v       == the file of a listing
--   export_check l v    == the number for the names and the listing
--   highest_count, counted n == the highest count; n, but never above it
--   export_with n k     == an answer to an export: its number and its count
--   export_number l v o == the number of an export: the refusal's, or 13 where the slice o lacks room for the file
--   export_count l v    == how many bytes the file has; 0 for a refusal
--   export_bytes l v o  == the later content of the slice
--   ExportSays l v o o' r == number and count of an export, and the later content of the slice, for every line of names, every listing and any slice
use Rattle.std.specs.Prelude.{◌≡◌, not, List, ℕ, ◌%◌, eqb, ltb, length}
use Rattle.boxes.specs.Intervals.{pick}
use Rattle.questions.specs.Questions.{when, first_of}
use Rattle.questions.specs.Words.{over, table_words}
use Rattle.fields.specs.Limits.{at_most}
use Rattle.fields.specs.Fields.{fields_of}
use Rattle.fields.specs.Names.{top_check}
use Rattle.fields.specs.Writing.{tuples_of}
use Rattle.csv_tables.specs.Imports.{Imported, refused, imported, import_csv}
use Rattle.csv_tables.specs.Exports.{export_csv}
use Rattle.csv_tables.specs.declared.import.Import.{Import}
use Rattle.csv_tables.specs.declared.export.Export.{Export}

-- a lent place too short? 13
abbrev pub import_number : Imported → List ℕ → ℕ
import_number (refused n k) w = n
import_number (imported t) w = when (ltb (length w) (length (table_words t))) 13

abbrev pub import_count : Imported → ℕ
import_count (refused n k) = 0
import_count (imported t) = length (table_words t)

abbrev pub import_place : Imported → ℕ
import_place (refused n k) = k
import_place (imported t) = 0

-- a refusal writes nothing; the words behind the table keep what they had
abbrev pub import_words : Imported → List ℕ → List ℕ
import_words (refused n k) w = w
import_words (imported t) w = pick (ltb (length w) (length (table_words t))) w (over (table_words t) w)

pub record ImportedSays (x : Imported) (w w' : List ℕ) (r : Import) : Type 0 where
  pub number : r.number ≡ import_number x w
  pub count : r.count ≡ import_count x
  pub place : r.place ≡ import_place x
  pub words : w' ≡ import_words x w

abbrev pub ImportSays : List ℕ → List ℕ → List ℕ → List ℕ → Import → Type 0
ImportSays l s w w' r = ImportedSays (import_csv l s) w w' r

abbrev pub exported : List ℕ → List ℕ → List ℕ
exported l v = export_csv (fields_of l) (tuples_of (length (fields_of l)) v)

-- a listing whose length is no multiple of the number of names? 3
abbrev pub export_check : List ℕ → List ℕ → ℕ
export_check l v = first_of (top_check l) (when (not (eqb (length v % length (fields_of l)) 0)) 3)

-- a count has 32 bits
abbrev pub highest_count : ℕ
highest_count = 4294967295

abbrev pub counted : ℕ → ℕ
counted n = at_most highest_count n

abbrev pub export_with : ℕ → ℕ → Export
export_with n k = record { number = n; count = k }

abbrev pub export_number : List ℕ → List ℕ → List ℕ → ℕ
export_number l v o = first_of (export_check l v) (when (ltb (length o) (length (exported l v))) 13)

abbrev pub export_count : List ℕ → List ℕ → ℕ
export_count l v = pick (eqb (export_check l v) 0) (counted (length (exported l v))) 0

-- a refusal writes nothing; the bytes behind the file keep what they had
abbrev pub export_bytes : List ℕ → List ℕ → List ℕ → List ℕ
export_bytes l v o = pick (eqb (export_number l v o) 0) (over (exported l v) o) o

pub record ExportSays (l v o o' : List ℕ) (r : Export) : Type 0 where
  pub number : r.number ≡ export_number l v o
  pub count : r.count ≡ export_count l v
  pub bytes : o' ≡ export_bytes l v o
