-- What `join_csv` promises.
--   join_file names q  == the file of a question's join
--   refusal_at n f r   == the answer to a refusal: its number, and the file and the record that it is of
--   ran_with c n b     == the answer after a run with the counts c: a number, and how many bytes its file has
--   RanSays names q v v' w w' x x' o o' j == number, counts and buffers after the run of a question: listing, store, scratch and out before and after
--   JoinWith names g v v' w w' x x' o o' j == so for what the files are; a refusal changes no word and no byte
--   JoinSays l s es v v' w w' x x' o o' j == so for every line of names l, all bytes s and ends es, and buffers of any length
use Rattle.std.specs.Prelude.{◌≡◌, List, ℕ, eqb, ltb, length}
use Rattle.boxes.specs.Intervals.{pick}
use Rattle.questions.specs.Questions.{Question, when, first_of}
use Rattle.questions.specs.Words.{over, words_of}
use Rattle.tables.specs.Joins.{join_of}
use Rattle.search.specs.Says.{RunSays, ScratchSays}
use Rattle.search.specs.declared.run.Counts.{Counts}
use Rattle.fields.specs.Fields.{fields_of}
use Rattle.csv_tables.specs.Exports.{export_csv}
use Rattle.csv_tables.specs.Says.{counted}
use Rattle.files.specs.Gathers.{Gathered, refused_at, gathered, gather}
use Rattle.files.specs.Widths.{question_for}
use Rattle.files.specs.declared.join.CsvJoin.{CsvJoin}

abbrev pub join_file : List (List ℕ) → Question → List ℕ
join_file names q = export_csv names (join_of q)

abbrev pub refusal_at : ℕ → ℕ → ℕ → CsvJoin
refusal_at n f r = record { number = n; tuples = 0; boxes = 0; resolutions = 0; bytes = 0; file = f; place = r }

abbrev pub ran_with : Counts → ℕ → ℕ → CsvJoin
ran_with c n b = record { number = n; tuples = c.tuples; boxes = c.boxes; resolutions = c.resolutions; bytes = b; file = 0; place = 0 }

-- the run of the question's words, and then, where it is complete, the file of its join
pub record RanSays (names : List (List ℕ)) (q : Question) (v v' w w' x x' o o' : List ℕ) (j : CsvJoin) : Type 0 where
  pub result : Counts
  pub run : RunSays (words_of q) v v' w w' result
  pub scratch : ScratchSays (words_of q) x x'
  -- the question's refusals, the run's 13 and 14; is out long enough for the file? 13
  pub number : j.number ≡ first_of result.number (when (ltb (length o) (length (join_file names q))) 13)
  pub tuples : j.tuples ≡ result.tuples
  pub boxes : j.boxes ≡ result.boxes
  pub resolutions : j.resolutions ≡ result.resolutions
  -- the bytes that are written, or with out's 13 those that it takes, else 0
  pub bytes : j.bytes ≡ pick (eqb result.number 0) (counted (length (join_file names q))) 0
  -- out gets the file only where the run is complete, and all of it; the bytes behind it keep what they had
  pub out : o' ≡ pick (eqb j.number 0) (over (join_file names q) o) o
  pub file : j.file ≡ 0
  pub place : j.place ≡ 0

abbrev pub JoinWith : List (List ℕ) → Gathered → List ℕ → List ℕ → List ℕ → List ℕ → List ℕ → List ℕ → List ℕ → List ℕ → CsvJoin → Type 0
JoinWith names (refused_at n f r) v v' w w' x x' o o' j = (j ≡ refusal_at n f r) × (v' ≡ v) × (w' ≡ w) × (x' ≡ x) × (o' ≡ o)
JoinWith names (gathered ts) v v' w w' x x' o o' j = RanSays names (question_for (length names) ts) v v' w w' x x' o o' j

abbrev pub JoinSays : List ℕ → List ℕ → List ℕ → List ℕ → List ℕ → List ℕ → List ℕ → List ℕ → List ℕ → List ℕ → List ℕ → CsvJoin → Type 0
JoinSays l s es v v' w w' x x' o o' j = JoinWith (fields_of l) (gather l s es) v v' w w' x x' o o' j
