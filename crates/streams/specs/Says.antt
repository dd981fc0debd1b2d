-- What can be said of reading and writing: what a program can count on, whatever the system moves.
--   bytes_read r      == how many bytes an answer says were read; 0 where a read failed
--   ReadWithin b r   == these stand in the buffer b
--   WrittenWithin p n r == where all was written, the page p has as many bytes
-- And which bytes were moved, where those are known that a reader has left (known, then left) or a writer holds (held, then holds):
--   ReadFrom known left b r == the buffer b begins with all that the reader gave; that is what the answer says, and all that there was unless the
--                              buffer is full; where a read failed, some of it
--   WrittenTo held holds p n r == where all was written, the writer holds the first n bytes of the page p besides; where not, fewer of them, and none if
--                              the page has fewer
use Rattle.std.specs.Prelude.{◌≡◌, List, ℕ, ◌≤◌, ◌<◌, length, take, Result, Ok, Err}
use Rattle.std.specs.Io.KnownBytes.{Consumes, IsAtEnd, Appends}
use Rattle.std.specs.declared.option.Option.{Option}

abbrev pub bytes_read : {E : Type 0} → Result ℕ E → ℕ
bytes_read (Ok n) = n
bytes_read (Err e) = 0

abbrev pub ReadWithin : {E : Type 0} → List ℕ → Result ℕ E → Type 0
ReadWithin b r = bytes_read r ≤ length b

abbrev pub WrittenWithin : {E : Type 0} → List ℕ → ℕ → Result Unit E → Type 0
WrittenWithin p n (Ok u) = n ≤ length p
WrittenWithin p n (Err e) = Unit

abbrev pub ReadFrom : {E : Type 0} → Option (List ℕ) → Option (List ℕ) → List ℕ → Result ℕ E → Type 0
ReadFrom known left b (Ok n) = Consumes known left (take n b) × (n < length b → IsAtEnd left)
ReadFrom known left b (Err e) = (n : ℕ) × (n ≤ length b) × Consumes known left (take n b)

abbrev pub WrittenTo : {E : Type 0} → Option (List ℕ) → Option (List ℕ) → List ℕ → ℕ → Result Unit E → Type 0
WrittenTo held holds p n (Ok u) = Appends held holds (take n p)
WrittenTo held holds p n (Err e) = (k : ℕ) × (k < n) × (length p < n → k ≡ 0) × Appends held holds (take k p)
