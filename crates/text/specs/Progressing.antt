-- What the reader knows between two lines: its progress, and the words that it has written.
--   start_of n          == the progress after a top line of n names
--   waiting next p     == the progress, with another line to come next; waiting Names p: after an empty line before a table; waiting Empty p: after the line `open`
--   rows_at ws ts xs    == the place of the word that counts the rows of a table over the attributes xs, after the widths ws and the tables ts
--   Last q p           == the last table of a question, with its rows, perhaps none so far, as the progress counts them
--   Stands top r p v w == the progress p and the words w, which were v before, stand for what was read, r, below the line top
--   Safe p l w         == the words have room for what a line adds, and no count grows too large
--   WordsBounded p at  == how far counts and words have grown by a place in the text
use Rattle.std.specs.Prelude.{◌≡◌, List, [], ◌∷◌, ◌++◌, map, ℕ, ◌+◌, ◌*◌, ◌≤◌, ◌<◌, length}
use Rattle.boxes.specs.Limits.{max_attributes}
use Rattle.questions.specs.Limits.{max_tables}
use Rattle.questions.specs.Questions.{Table, table_with, Question}
use Rattle.questions.specs.Words.{flat, table_words, over}
use Rattle.fields.specs.Limits.{max_bytes, max_value}
use Rattle.fields.specs.Fields.{fields_of}
use Rattle.text.specs.Texts.{Read, words_read}
use Rattle.text.specs.declared.reader.Next.{Next}
use Rattle.text.specs.declared.reader.Next.TheVariants.{Widths, Names, Row}
use Rattle.text.specs.declared.reader.Progress.{Progress}

abbrev pub start_of : ℕ → Progress
start_of n = record { next = Widths; dimension = n; tables = 0; words = 0; arity = 0; rows = 0; counter = 0 }

abbrev pub waiting : Next → Progress → Progress
waiting next p = record {
  next = next;
  dimension = p.dimension;
  tables = p.tables;
  words = p.words;
  arity = p.arity;
  rows = p.rows;
  counter = p.counter;
}

-- the words before the last table's rows: n, the widths and the number of tables, the tables before, then k and the attributes
abbrev pub rows_at : List ℕ → List Table → List ℕ → ℕ
rows_at ws ts xs = length ws + 2 + length (flat (map table_words ts)) + 1 + length xs

pub record Last (q : Question) (p : Progress) : Type 0 where
  pub before : List Table
  pub attributes : List ℕ
  pub rows : List (List ℕ)
  pub is : q.tables ≡ before ++ (table_with attributes rows ∷ [])
  pub arity : p.arity ≡ length attributes
  pub counted : p.rows ≡ length rows
  pub counter : p.counter ≡ rows_at q.widths before attributes

-- the counts are those of what was read, and its words stand at the front; before the widths there is no question yet, after them each attribute
-- has its width, and where a row may come the last table is counted too
pub record Stands (top : List ℕ) (r : Read) (p : Progress) (v w : List ℕ) : Type 0 where
  pub next : p.next ≡ r.next
  pub names : r.names ≡ fields_of top
  pub some : 1 ≤ length r.names
  pub dimension : p.dimension ≡ length r.names
  pub tables : p.tables ≡ length r.question.tables
  pub words : p.words ≡ length (words_read r)
  pub front : w ≡ over (words_read r) v
  pub measured : (p.next ≡ Widths → ⊥) → length r.question.widths ≡ length r.names
  pub fresh : p.next ≡ Widths → r.question ≡ record { widths = []; tables = [] }
  pub last : p.next ≡ Row → Last r.question p

-- counts within the limits, places within the words, and room for the line's values and up to three words more
pub record Safe (p : Progress) (l w : List ℕ) : Type 0 where
  pub few : p.dimension ≤ max_attributes
  pub arity : p.arity ≤ max_attributes
  pub tables : p.tables ≤ max_tables
  pub rows : p.rows < max_value
  pub counted : p.dimension + 1 < length w
  pub counter : p.counter < length w
  pub room : p.words + length l + 3 ≤ length w
  pub line : length l ≤ max_bytes

-- a line makes at most one word for each of its bytes and its end; two words more come with each table, and two with the question
pub record WordsBounded (p : Progress) (at : ℕ) : Type 0 where
  pub few : p.dimension ≤ max_attributes
  pub arity : p.arity ≤ max_attributes
  pub tables : p.tables ≤ max_tables
  pub begun : p.next ≡ Names → p.tables < max_tables
  pub rows : p.rows ≤ at
  pub counter : p.counter ≤ p.words
  pub words : p.words ≤ at + 2 * p.tables + 2
