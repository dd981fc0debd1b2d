-- What a call from C promises: what the crates below promise, its number as the result and its counts in words.
--   count_words c == the counts of a run in words: tuples, boxes, resolutions
--   CallSays     == of a run, with a scratch or without: the number, and the later content of listing, store and counts, for every question and any buffers
--   LiftCallSays   == of a copy: the number, and the later content of out and counts, for every text and any hidden numbers
--   ImportCallSays, ExportCallSays == the same of an import and of an export
--   join_words j    == the counts of a join of files in words: tuples, boxes, resolutions, bytes, file, record
--   JoinCallSays   == of a join of files: the number, and the later content of listing, store, scratch, out and counts
use Rattle.std.specs.Prelude.{◌≡◌, List, [], ◌∷◌, ℕ, length, take, Result}
use Rattle.questions.specs.Words.{over}
use Rattle.csv_tables.specs.Imports.{import_csv}
use Rattle.csv_tables.specs.Says.{import_number, import_count, import_words, export_number, export_count, export_bytes}
use Rattle.copies.specs.Says.{lift_number, lift_bytes, CopySays}
use Rattle.copies.specs.declared.copy.NoRoom.{NoRoom}
use Rattle.search.specs.Says.{RunSays}
use Rattle.search.specs.declared.run.Counts.{Counts}
use Rattle.files.specs.Says.{JoinSays}
use Rattle.files.specs.declared.join.CsvJoin.{CsvJoin}

abbrev pub count_words : Counts → List ℕ
count_words c = c.tuples ∷ c.boxes ∷ c.resolutions ∷ []

-- there is one result that their promise allows; of its counts as many are written as have a place, and later words are kept
pub record CallSays (w l l' s s' k k' : List ℕ) (r : ℕ) : Type 0 where
  pub result : Counts
  pub run : RunSays w l l' s s' result
  pub number : r ≡ result.number
  pub counts : k' ≡ over (take (length k) (count_words result)) k

-- and `lift_copy`, with its count in a word, if this has a place: there is one result that its promise allows
pub record LiftCallSays (s h o o' k k' : List ℕ) (r : ℕ) : Type 0 where
  pub result : Result ℕ NoRoom
  pub copy : CopySays s h o o' result
  pub number : r ≡ lift_number result
  pub counts : k' ≡ over (take (length k) (lift_bytes result ∷ [])) k

-- what `import_csv` promises, its number as the result and its count in a word, if this has a place
pub record ImportCallSays (l s w w' k k' : List ℕ) (r : ℕ) : Type 0 where
  pub number : r ≡ import_number (import_csv l s) w
  pub words : w' ≡ import_words (import_csv l s) w
  pub counts : k' ≡ over (take (length k) (import_count (import_csv l s) ∷ [])) k

-- and `export_csv`
pub record ExportCallSays (l v o o' k k' : List ℕ) (r : ℕ) : Type 0 where
  pub number : r ≡ export_number l v o
  pub bytes : o' ≡ export_bytes l v o
  pub counts : k' ≡ over (take (length k) (export_count l v ∷ [])) k

abbrev pub join_words : CsvJoin → List ℕ
join_words j = j.tuples ∷ j.boxes ∷ j.resolutions ∷ j.bytes ∷ j.file ∷ j.place ∷ []

-- and `join_csv`: there is one result that its promise allows
pub record JoinCallSays (l s es v v' w w' x x' o o' k k' : List ℕ) (r : ℕ) : Type 0 where
  pub result : CsvJoin
  pub join : JoinSays l s es v v' w w' x x' o o' result
  pub number : r ≡ result.number
  pub counts : k' ≡ over (take (length k) (join_words result)) k
