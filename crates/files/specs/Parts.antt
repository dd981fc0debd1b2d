-- What the join's parts promise to each other.
--   tables_words ts      == the words of tables, one after the other
--   first_words n        == where the first table stands in a question of n attributes: behind their number, their widths and the number of tables
--   TableOver n t       == a table with rows over n attributes: their numbers below n, rows of as many values
--   FrontAsk w n k      == the words w have k tables over n attributes from first_words n on
--   TablesStand n ts w       == the tables ts stand in the words w, behind the front of a question of n attributes
--   file_number x        == the number of an import, where room is not asked
--   placed x at w       == the words after it, the table from a place on, if there is room
--   MadeAs x r          == such an import is a table of so many words, or refused so
--   FilePut x at w w' r == so, and the later content of the words
--   GatherAsk l n es w  == what gathering asks: a line of n names that passed, not too many files, and words for the longest question
--   TablesPut ts n w k  == the question of these tables has k words, and if they are not too many, the tables stand in their places
--   GatherSays g n w x  == the files are g: tables that are put so, or refused so
use Rattle.std.specs.Prelude.{◌≡◌, Result, Ok, Err, List, ◌++◌, map, ℕ, ◌+◌, ◌≤◌, leb, length, take, drop}
use Rattle.boxes.specs.Limits.{max_attributes}
use Rattle.boxes.specs.Intervals.{pick}
use Rattle.boxes.specs.Fits.{Each}
use Rattle.questions.specs.Limits.{max_tables, max_words}
use Rattle.questions.specs.Questions.{with_rows, Table}
use Rattle.questions.specs.Good.{Below}
use Rattle.questions.specs.Words.{flat, over, table_words}
use Rattle.fields.specs.Limits.{max_value}
use Rattle.fields.specs.Fields.{fields_of}
use Rattle.fields.specs.Names.{top_check}
use Rattle.csv_tables.specs.Imports.{Imported, refused, imported}
use Rattle.csv_tables.specs.Refusals.{refusal_number, place_number}
use Rattle.csv_tables.specs.declared.refusal.Refused.{Refused}
use Rattle.files.specs.Gathers.{Gathered, gathered}
use Rattle.files.specs.Refusals.{gathering_of}
use Rattle.files.specs.declared.refusal.JoinRefused.{JoinRefused}

abbrev pub tables_words : List Table → List ℕ
tables_words ts = flat (map table_words ts)

abbrev pub first_words : ℕ → ℕ
first_words n = n + 2

pub record TableOver (n : ℕ) (t : Table) : Type 0 where
  pub below : Below n t.attributes
  pub few : length t.attributes ≤ max_attributes
  pub rows : List (List ℕ)
  pub contents : t.contents ≡ with_rows rows
  pub even : Each (λ r. length r ≡ length t.attributes) rows
  pub small : Each (Each (λ v. v ≤ max_value)) rows

pub record FrontAsk (w : List ℕ) (n k : ℕ) : Type 0 where
  pub tables : List Table
  pub few : n ≤ max_attributes
  pub count : k ≡ length tables
  pub few-tables : k ≤ max_tables
  pub over : Each (TableOver n) tables
  pub back : List ℕ
  pub stand : drop (first_words n) w ≡ tables_words tables ++ back
  pub long : first_words n ≤ length w

-- the tables stand behind the front of a question
pub record TablesStand (n : ℕ) (ts : List Table) (w : List ℕ) : Type 0 where
  pub front : List ℕ
  pub back : List ℕ
  pub long : length front ≡ first_words n
  pub is : w ≡ front ++ (tables_words ts ++ back)

-- a file's number, where room is not asked
abbrev pub file_number : Imported → ℕ
file_number (refused n k) = n
file_number (imported t) = 0

-- its table from a place on, if there is room for it
abbrev pub placed : Imported → ℕ → List ℕ → List ℕ
placed (refused n k) at w = w
placed (imported t) at w = pick (leb (at + length (table_words t)) (length w)) (take at w ++ over (table_words t) (drop at w)) w

abbrev pub MadeAs : Imported → Result ℕ Refused → Type 0
MadeAs x (Ok n) = (t : Table) × (x ≡ imported t) × (n ≡ length (table_words t))
MadeAs x (Err r) = x ≡ refused (refusal_number r.why) (place_number r.place)

pub record FilePut (x : Imported) (at : ℕ) (w w' : List ℕ) (r : Result ℕ Refused) : Type 0 where
  pub made : MadeAs x r
  pub words : w' ≡ placed x at w

pub record GatherAsk (l : List ℕ) (n : ℕ) (es w : List ℕ) : Type 0 where
  pub named : top_check l ≡ 0
  pub dimension : n ≡ length (fields_of l)
  pub few : length es ≤ max_tables
  pub long : length w ≡ max_words

pub record TablesPut (ts : List Table) (n : ℕ) (w : List ℕ) (size : ℕ) : Type 0 where
  pub size_is : size ≡ first_words n + length (tables_words ts)
  pub long : length w ≡ max_words
  pub stand : first_words n + length (tables_words ts) ≤ max_words → TablesStand n ts w

abbrev pub GatherSays : Gathered → ℕ → List ℕ → Result ℕ JoinRefused → Type 0
GatherSays g n w (Ok size) = (ts : List Table) × (g ≡ gathered ts) × TablesPut ts n w size
GatherSays g n w (Err r) = g ≡ gathering_of r
