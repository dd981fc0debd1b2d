-- The grammar of RFC 4180, rule by rule, beside the reading of `records_of`: what is written for which records.
--   is_quotable b       == what a field in quotes may hold besides the doubled quote
--   InQuotes f w       == w is what stands between the quotes for the field f
--   FieldWritten f w   == w is written for the field f
--   RecordWritten fs w == w is written for a record with the fields fs
--   FileWritten rs w   == w is written for the records rs
--   Reads              == a file is read as records exactly if it is written for them
use Rattle.std.specs.Prelude.{◌≡◌, Bool, true, ◌||◌, List, [], ◌∷◌, ◌++◌, ◌↔◌, ℕ, ◌≤◌, eqb, length}
use Rattle.boxes.specs.Fits.{Each}
use Rattle.csv_tables.specs.Records.{comma, quote, carriage, feed, is_text, records_of, record_list}

-- TEXTDATA / COMMA / CR / LF
unfoldable pub is_quotable : ℕ → Bool
is_quotable b = is_text b || (eqb b comma || (eqb b carriage || eqb b feed))

-- *(TEXTDATA / COMMA / CR / LF / 2DQUOTE)
pub data InQuotes : List ℕ → List ℕ → Type 0 where
  empty : InQuotes [] []
  byte : {b : ℕ} {f w : List ℕ} → is_quotable b ≡ true → InQuotes f w → InQuotes (b ∷ f) (b ∷ w)
  doubled : {f w : List ℕ} → InQuotes f w → InQuotes (quote ∷ f) (quote ∷ (quote ∷ w))

-- field = (escaped / non-escaped); non-escaped = *TEXTDATA; escaped = DQUOTE .. DQUOTE
pub data FieldWritten : List ℕ → List ℕ → Type 0 where
  bare : {f : List ℕ} → Each (λ b. is_text b ≡ true) f → FieldWritten f f
  escaped : {f w : List ℕ} → InQuotes f w → FieldWritten f (quote ∷ (w ++ (quote ∷ [])))

-- record = field *(COMMA field)
pub data RecordWritten : List (List ℕ) → List ℕ → Type 0 where
  one : {f w : List ℕ} → FieldWritten f w → RecordWritten (f ∷ []) w
  many : {f w v : List ℕ} {fs : List (List ℕ)} → FieldWritten f w → RecordWritten fs v → RecordWritten (f ∷ fs) (w ++ (comma ∷ v))

-- file = record *(CRLF record) [CRLF]; what follows a line's end is no record where it is empty
pub data FileWritten : List (List (List ℕ)) → List ℕ → Type 0 where
  unended : {fs : List (List ℕ)} {w : List ℕ} → RecordWritten fs w → FileWritten (fs ∷ []) w
  line_ended : {fs : List (List ℕ)} {w : List ℕ} → RecordWritten fs w → FileWritten (fs ∷ []) (w ++ (carriage ∷ (feed ∷ [])))
  and_then : {fs : List (List ℕ)} {rs : List (List (List ℕ))} {w v : List ℕ} → RecordWritten fs w → 1 ≤ length v → FileWritten rs v
      → FileWritten (fs ∷ rs) (w ++ (carriage ∷ (feed ∷ v)))

abbrev pub Reads : Type 0
Reads = (rs : List (List (List ℕ))) (s : List ℕ) → FileWritten rs s ↔ (records_of s ≡ record_list rs)
