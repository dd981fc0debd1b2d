-- What the public functions promise.
--   lacks_room s w  == the words w lack room for a text s that is not too long
--   reading_number r == the paper's number of an answer: 0 for words, the refusal's, and 13 where the words lack room
--   reading_words r == how many words an answer says that there are; 0 with any other number than 0
--   reading_of e    == how reading ended: the number of words, or the refusal's number
--   read_number s w == the number of reading a text into words
--   ReadSays s w w' r == the answer, its number and its count of words, and the later content of the words, for every text and any words
--   ListSays s o o' r == how many bytes are printed for a text, and the later content of the slice: all of them at the front if they fit, else as before
use Rattle.std.specs.Prelude.{◌≡◌, Bool, ◌&&◌, List, ℕ, ◌+◌, eqb, ltb, leb, length, Result, Ok, Err}
use Rattle.boxes.specs.Intervals.{pick}
use Rattle.questions.specs.Words.{over}
use Rattle.fields.specs.Limits.{max_bytes}
use Rattle.text.specs.Limits.{spare_words}
use Rattle.text.specs.Texts.{Ended, words_read, read_text}
use Rattle.text.specs.Prints.{printed}
use Rattle.text.specs.Refusals.{refusal_number, by_number, passed_number}
use Rattle.text.specs.declared.refusal.TextRefusal.{TextRefusal}
use Rattle.text.specs.declared.refusal.TextRefusal.TheVariants.{NoRoom}

abbrev pub lacks_room : List ℕ → List ℕ → Bool
lacks_room s w = leb (length s) max_bytes && ltb (length w) (length s + spare_words)

abbrev pub reading_number : Result ℕ TextRefusal → ℕ
reading_number r = passed_number r

abbrev pub reading_words : Result ℕ TextRefusal → ℕ
reading_words (Ok k) = k
reading_words (Err r) = 0

abbrev pub reading_of : Ended → Result ℕ ℕ
reading_of e = pick (eqb e.number 0) (Ok (length (words_read e.read))) (Err e.number)

abbrev pub read_number : List ℕ → List ℕ → ℕ
read_number s w = pick (lacks_room s w) (refusal_number NoRoom) (read_text s).number

pub record ReadSays (s w w' : List ℕ) (r : Result ℕ TextRefusal) : Type 0 where
  pub answer : by_number r ≡ pick (lacks_room s w) (Err (refusal_number NoRoom)) (reading_of (read_text s))
  pub number : reading_number r ≡ read_number s w
  pub count : reading_words r ≡ pick (eqb (read_number s w) 0) (length (words_read (read_text s).read)) 0
  pub words : w' ≡ pick (lacks_room s w) w (over (words_read (read_text s).read) w)

pub record ListSays (s o o' : List ℕ) (r : ℕ) : Type 0 where
  pub count : r ≡ length (printed s)
  pub bytes : o' ≡ pick (leb (length (printed s)) (length o)) (over (printed s) o) o
