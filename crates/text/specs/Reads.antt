-- What the reader's parts promise to each other: what became of a line, and of all lines.
--   text_end left p       == what became of the text's end, where so many bytes follow the last line's
--   BeginSays l p s      == what became of a line that has to be empty, before a table
--   progress_after p s    == the progress after a line: as before where it is refused
--   read_after r l        == what was read after a line: with it, or as before where it is refused
--   Taken top r l v w p s == s is the answer to the line l, and the progress after it and the words w stand for what was read then
--   TakeSays top l w w' p s == the line l was taken, whatever was read before
--   TakesSay next l w w' p s == so where the line `next` comes next, whatever the top line is
--   LinesAsk s top n w   == the top line of a text s ends at a place, and has n names; the words have room for the text
--   LinesSay s top w w' x == the answer x and the words w' are what comes of the lines after it
use Rattle.std.specs.Prelude.{◌≡◌, ◌&&◌, List, ℕ, ◌+◌, ◌≤◌, ◌<◌, eqb, ltb, length, take, Result, Ok, Err}
use Rattle.boxes.specs.Limits.{max_attributes}
use Rattle.boxes.specs.Intervals.{pick}
use Rattle.questions.specs.Limits.{max_tables}
use Rattle.questions.specs.Words.{over}
use Rattle.fields.specs.Limits.{max_bytes}
use Rattle.fields.specs.Fields.{line_end, fields_of}
use Rattle.fields.specs.Parts.{parts_from}
use Rattle.text.specs.Limits.{spare_words}
use Rattle.text.specs.Texts.{top_read, Read, Ended, is_empty, may_end, line_check, line_add, read_lines, words_read}
use Rattle.text.specs.Progressing.{waiting, Stands, WordsBounded}
use Rattle.text.specs.declared.reader.Next.{Next}
use Rattle.text.specs.declared.reader.Next.TheVariants.{Names}
use Rattle.text.specs.declared.reader.Progress.{Progress}
use Rattle.text.specs.Refusals.{passed_number}
use Rattle.text.specs.declared.refusal.TextRefusal.{TextRefusal}
use Rattle.text.specs.declared.refusal.TextRefusal.TheVariants.{Malformed}

abbrev pub text_end : ℕ → Progress → Result Progress TextRefusal
text_end left p = pick (eqb left 0 && may_end p.next) (Ok p) (Err Malformed)

abbrev pub BeginSays : List ℕ → Progress → Result Progress TextRefusal → Type 0
BeginSays l p s = s ≡ pick (is_empty l && ltb p.tables max_tables) (Ok (waiting Names p)) (Err Malformed)

abbrev pub progress_after : Progress → Result Progress TextRefusal → Progress
progress_after p (Ok q) = q
progress_after p (Err r) = p

abbrev pub read_after : Read → List ℕ → Read
read_after r l = pick (eqb (line_check r l) 0) (line_add r l) r

pub record Taken (top : List ℕ) (r : Read) (l v w : List ℕ) (p : Progress) (s : Result Progress TextRefusal) : Type 0 where
  pub number : passed_number s ≡ line_check r l
  pub stands : Stands top (read_after r l) (progress_after p s) v w

pub record TakeSays (top l w w' : List ℕ) (p : Progress) (s : Result Progress TextRefusal) : Type 0 where
  pub taken : (r : Read) (v : List ℕ) → Stands top r p v w → Taken top r l v w' p s
  pub grown : (at : ℕ) → WordsBounded p at → WordsBounded (progress_after p s) (at + length l + 1)

-- each function that takes one kind of line promises this of where such a line comes next
abbrev pub TakesSay : Next → List ℕ → List ℕ → List ℕ → Progress → Result Progress TextRefusal → Type 0
TakesSay next l w w' p s = p.next ≡ next → (top : List ℕ) → TakeSays top l w w' p s

pub record LinesAsk (s : List ℕ) (top n : ℕ) (w : List ℕ) : Type 0 where
  pub short : length s ≤ max_bytes
  pub within : top < length s
  pub roomy : length s + spare_words ≤ length w
  pub names : n ≡ length (fields_of (take top s))
  pub few : n ≤ max_attributes

pub record LinesSay (s : List ℕ) (top : ℕ) (w w' : List ℕ) (x : Result Progress TextRefusal) : Type 0 where
  pub end : Ended
  pub is : end ≡ read_lines (top_read (take top s)) (parts_from line_end s (top + 1))
  pub number : passed_number x ≡ end.number
  pub words : (q : Progress) → x ≡ Ok q → q.words ≡ length (words_read end.read)
  pub front : w' ≡ over (words_read end.read) w
