-- What `lift_copy` promises.
--   lift_number r, lift_bytes r == the number of an answer, 13 where there is no room; how many bytes the copy has
--   copy_number h s o   == 13 where the slice o lacks room for the copy, else 0
--   copy_written h s o  == the later content of the slice
--   CopySays s h o o' r == number and count, and the later content of the slice, for every text, any hidden numbers and any slice
use Rattle.std.specs.Prelude.{◌≡◌, List, ℕ, ltb, length, Result, Ok, Err}
use Rattle.boxes.specs.Intervals.{pick}
use Rattle.questions.specs.Questions.{when}
use Rattle.questions.specs.Words.{over}
use Rattle.copies.specs.Copies.{copied}
use Rattle.copies.specs.declared.copy.NoRoom.{NoRoom}

abbrev pub lift_number : Result ℕ NoRoom → ℕ
lift_number (Ok k) = 0
lift_number (Err r) = 13

abbrev pub lift_bytes : Result ℕ NoRoom → ℕ
lift_bytes (Ok k) = k
lift_bytes (Err r) = r.bytes

-- a lent place too short? 13
abbrev pub copy_number : List ℕ → List ℕ → List ℕ → ℕ
copy_number h s o = when (ltb (length o) (length (copied h s))) 13

-- and then nothing is written; the bytes behind the copy keep what they had
abbrev pub copy_written : List ℕ → List ℕ → List ℕ → List ℕ
copy_written h s o = pick (ltb (length o) (length (copied h s))) o (over (copied h s) o)

pub record CopySays (s h o o' : List ℕ) (r : Result ℕ NoRoom) : Type 0 where
  pub number : lift_number r ≡ copy_number h s o
  pub bytes : lift_bytes r ≡ length (copied h s)
  pub out : o' ≡ copy_written h s o
