-- What a caller of `join_csv` has: `JoinDelivered` is the statement to read first.
--   Right s a e           == a file that begins at a ends within the bytes, and not below that
--   begin_from a es i      == where the file number i begins, the first one at a
--   file_of s es i, EndRight s es i == the bytes of the file number i, the first one from the first byte on; its end is right
--   FilesTables l s es ts == the tables ts are those of the files, one for each, under the names of the line l
--   RefusedFile l s es n f r == the file number f, from 1, is the first that is refused: with the number n, at the record number r, from 1, or at none
--   import_table x, tables_from l s a es == the table of an import; the tables of the files with the ends es, of which the first begins at a
--   files_asked l s a es   == the number of the first question that is answered no, of the files one after the other; 0 where none is
--   join_asked l s es v w o == the same of all questions, with the listing v, the store w and the slice o
--   Joins n ts ps         == ps are the tuples of n values that are in all tables, ascending, each once: the natural join, whatever the widths
--   ran_counts j k         == the counts of a run with the number k
--   Ran q v v' w w' j     == the question q is accepted, and listing and store are those of its run, with the counts of j
--   JoinDelivered l s es v v' w w' x x' o o' j == what the line of names, the files, the buffers before and after and the answer say of each other
use Rattle.std.specs.Prelude.{◌≡◌, true, not, ◌↔◌, ◌⊎◌, ℕ, zero, suc, ◌≤◌, ◌<◌, ltb, length, get_or}
use mathlib.Core.List.{List, [], ◌∷◌, Memᴰ}
use Rattle.questions.specs.Limits.{max_tables, max_words}
use Rattle.questions.specs.Questions.{Table, Question, when, first_of, tables_check, each_in}
use Rattle.questions.specs.Good.{Sorted}
use Rattle.questions.specs.Words.{over, words_of}
use Rattle.tables.specs.Rows.{in_all}
use Rattle.course.specs.Runs.{run_of}
use Rattle.course.specs.Claims.{no_table}
use Rattle.search.specs.Says.{store_room, list_room}
use Rattle.search.specs.Claims.{Accepts, Delivered}
use Rattle.search.specs.declared.run.Counts.{Counts}
use Rattle.fields.specs.Fields.{fields_of}
use Rattle.fields.specs.Names.{top_check}
use Rattle.csv_tables.specs.Imports.{Imported, refused, imported, import_csv}
use Rattle.csv_tables.specs.Exports.{export_csv}
use Rattle.csv_tables.specs.Claims.{FileTable, RefusedRecord}
use Rattle.fields.specs.Parts.{part}
use Rattle.files.specs.Gathers.{end_check}
use Rattle.files.specs.Widths.{question_for}
use Rattle.files.specs.Says.{join_file}
use Rattle.files.specs.Parts.{file_number}
use Rattle.files.specs.declared.join.CsvJoin.{CsvJoin}

-- a file's end is within the bytes, and not below the one before, where the file begins
abbrev pub Right : List ℕ → ℕ → ℕ → Type 0
Right s a e = (a ≤ e) × (e ≤ length s)

-- the first file begins at a, each later one where the one before ends
abbrev pub begin_from : ℕ → List ℕ → ℕ → ℕ
begin_from a es zero = a
begin_from a es (suc i) = get_or es i 0

abbrev pub file_of : List ℕ → List ℕ → ℕ → List ℕ
file_of s es i = part (begin_from 0 es i) (get_or es i 0) s

abbrev pub EndRight : List ℕ → List ℕ → ℕ → Type 0
EndRight s es i = Right s (begin_from 0 es i) (get_or es i 0)

pub record FilesTables (l s es : List ℕ) (ts : List Table) : Type 0 where
  -- The line of names passed 15 and 16, and there are 1 to 16 files.
  pub named : top_check l ≡ 0
  pub some : 1 ≤ length es
  pub few : length es ≤ max_tables
  -- Every end is right, and there is a table for each file: the file's.
  pub ends : (i : ℕ) → i < length es → EndRight s es i
  pub count : length ts ≡ length es
  pub each : (i : ℕ) → i < length es → FileTable l (file_of s es i) (get_or ts i no_table)

pub record RefusedFile (l s es : List ℕ) (n f r : ℕ) : Type 0 where
  -- The line of names passed 15 and 16, and there are not too many files.
  pub named : top_check l ≡ 0
  pub few : length es ≤ max_tables
  pub i : ℕ
  pub is : f ≡ suc i
  pub within : i < length es
  -- The files before it have right ends and are tables.
  pub earlier : (k : ℕ) → k < i → EndRight s es k × ((t : Table) × FileTable l (file_of s es k) t)
  -- Its end is wrong: 3, and no record is meant. Or it is right, and the file's import is refused so, at that record: the records before it pass.
  pub why : ((EndRight s es i → ⊥) × (n ≡ 3) × (r ≡ 0)) ⊎ (EndRight s es i × (import_csv l (file_of s es i) ≡ refused n r) × RefusedRecord l (file_of s es i) n r)

-- ---- the questions, and their order

abbrev pub import_table : Imported → Table
import_table (refused n r) = no_table
import_table (imported t) = t

unfoldable pub tables_from : List ℕ → List ℕ → ℕ → List ℕ → List Table
tables_from l s a [] = []
tables_from l s a (e ∷ es) = import_table (import_csv l (part a e s)) ∷ tables_from l s e es

-- file by file: its end 3, and all that an import asks of a file
unfoldable pub files_asked : List ℕ → List ℕ → ℕ → List ℕ → ℕ
files_asked l s a [] = 0
files_asked l s a (e ∷ es) = first_of (end_check s a e) (first_of (file_number (import_csv l (part a e s))) (files_asked l s e es))

unfoldable pub join_asked : List ℕ → List ℕ → List ℕ → List ℕ → List ℕ → List ℕ → ℕ
join_asked l s es v w o =
    let ts = tables_from l s 0 es in
    let q = question_for (length (fields_of l)) ts in
    -- the names 15, 16
    first_of (top_check l) (
    -- the number of files from 1 to 16? 5
    first_of (tables_check (length es)) (
    -- then file by file
    first_of (files_asked l s 0 es) (
    -- then the question: 1, for more than 32,000 words, and 12 can come
    first_of (when (ltb max_words (length (words_of q))) 1) (
    first_of (when (not (each_in (length (fields_of l)) ts)) 12) (
    -- then the run's 13 and 14
    first_of (run_of q (list_room q v) (store_room w)).number (
    -- then 13 if out is too short
    when (ltb (length o) (length (join_file (fields_of l) q))) 13))))))

-- ---- what is delivered

pub record Joins (n : ℕ) (ts : List Table) (ps : List (List ℕ)) : Type 0 where
  pub sorted : Sorted ps
  pub exactly : (p : List ℕ) → Memᴰ p ps ↔ ((length p ≡ n) × (in_all ts p ≡ true))

abbrev pub ran_counts : CsvJoin → ℕ → Counts
ran_counts j k = record { number = k; tuples = j.tuples; boxes = j.boxes; resolutions = j.resolutions }

pub record Ran (q : Question) (v v' w w' : List ℕ) (j : CsvJoin) : Type 0 where
  pub accepted : Accepts (words_of q) q
  -- The run's own number: that of the join, but 0 where the run is complete and out too short. Bytes are counted exactly if it is 0.
  pub own : ℕ
  pub number : (own ≡ j.number) ⊎ ((own ≡ 0) × (j.number ≡ 13))
  pub counted : (own ≡ 0) ↔ (j.bytes ≡ 0 → ⊥)
  -- The three demands hold of it.
  pub delivered : Delivered (words_of q) v v' w w' (ran_counts j own)

pub record JoinDelivered (l s es v v' w w' x x' o o' : List ℕ) (j : CsvJoin) : Type 0 where
  -- The number is that of the first question answered no.
  pub number : j.number ≡ join_asked l s es v w o
  -- Out gets something only with 0: with another number it keeps every byte.
  pub kept : (j.number ≡ 0 → ⊥) → o' ≡ o
  -- Every other refusal than 13 and 14 changes nothing, and counts nothing.
  pub refused : (j.number ≡ 0 → ⊥) → (j.number ≡ 13 → ⊥) → (j.number ≡ 14 → ⊥)
      → (v' ≡ v) × (w' ≡ w) × (x' ≡ x) × (j.tuples ≡ 0) × (j.boxes ≡ 0) × (j.resolutions ≡ 0) × (j.bytes ≡ 0)
  -- A file is named exactly if names and number of files pass and some file is refused: it is the first that is. Where none is named, no record is.
  pub refused-file : (j.file ≡ 0 → ⊥) → RefusedFile l s es j.number j.file j.place
  pub named-file : top_check l ≡ 0 → tables_check (length es) ≡ 0 → (files_asked l s 0 es ≡ 0 → ⊥) → j.file ≡ 0 → ⊥
  pub no-file : j.file ≡ 0 → j.place ≡ 0
  -- With 0, 13 and 14 all files are tables, their question is accepted, and listing and store stand as its run leaves them.
  pub ran : (j.number ≡ 0) ⊎ ((j.number ≡ 13) ⊎ (j.number ≡ 14))
      → FilesTables l s es (tables_from l s 0 es) × Ran (question_for (length (fields_of l)) (tables_from l s 0 es)) v v' w w' j
  -- With 0 out has the file of the natural join of the tables that the files are, all of it; bytes says how long that is, and later bytes are kept.
  pub complete : j.number ≡ 0
      → (ps : List (List ℕ)) × Joins (length (fields_of l)) (tables_from l s 0 es) ps × (length ps ≡ j.tuples)
      × (o' ≡ over (export_csv (fields_of l) ps) o) × (j.bytes ≡ length (export_csv (fields_of l) ps)) × (length (export_csv (fields_of l) ps) ≤ length o)
  -- With 13 and bytes the join is listed whole, and out is too short for its file, which has so many.
  pub short : j.number ≡ 13 → (j.bytes ≡ 0 → ⊥)
      → (ps : List (List ℕ)) × Joins (length (fields_of l)) (tables_from l s 0 es) ps × (length ps ≡ j.tuples)
      × (j.bytes ≡ length (export_csv (fields_of l) ps)) × (length o < length (export_csv (fields_of l) ps))
