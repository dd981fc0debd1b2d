-- Rows kept ascending while a file is read: the rows as they came, and beside them their order.
--   rows_words        == how many words the rows have: one row more than a table may have, so that each new row has its place
--   row_at w k i      == the row number i in the words w, of k values
--   rows_in k w o     == the rows of the order o
--   kept_rows k w o m == the first m of them
--   PlaceSays l r x  == where a row stands among ascending rows, or where it belongs
--   put_in at x o     == a number put into an order at a place
--   KeptAs k w o rs x == the rows kept are the rows rs of the file, ascending, each once: so many; or these are more than a table may have
--   RowsKept k w o x rs == so in words and an order of their length
--   AddSays k r w w' o o' x x' == one row more
use Rattle.std.specs.Prelude.{◌≡◌, Option, None, Some, Result, Ok, Err, List, [], ◌∷◌, ◌++◌, map, ℕ, suc, ◌*◌, ◌≤◌, ◌<◌, length, take, drop}
use Rattle.boxes.specs.Limits.{max_attributes}
use Rattle.boxes.specs.Fits.{Each}
use Rattle.questions.specs.Limits.{max_rows}
use Rattle.csv_tables.specs.Imports.{insert_row, sort_rows}

abbrev pub rows_words : ℕ
rows_words = suc max_rows * max_attributes

abbrev pub row_at : List ℕ → ℕ → ℕ → List ℕ
row_at w k i = take k (drop (i * k) w)

abbrev pub rows_in : ℕ → List ℕ → List ℕ → List (List ℕ)
rows_in k w o = map (row_at w k) o

abbrev pub kept_rows : ℕ → List ℕ → List ℕ → ℕ → List (List ℕ)
kept_rows k w o m = rows_in k w (take m o)

abbrev pub PlaceSays : List (List ℕ) → List ℕ → Result ℕ ℕ → Type 0
PlaceSays l r (Ok p) = insert_row r l ≡ l
PlaceSays l r (Err p) = (p ≤ length l) × (insert_row r l ≡ take p l ++ (r ∷ drop p l))

abbrev pub put_in : ℕ → ℕ → List ℕ → List ℕ
put_in at x o = take at o ++ (x ∷ drop at o)

abbrev pub KeptAs : ℕ → List ℕ → List ℕ → List (List ℕ) → Option ℕ → Type 0
KeptAs k w o rs (Some m) = (m ≤ max_rows) × Each (λ i. i < m) (take m o) × (kept_rows k w o m ≡ sort_rows rs)
KeptAs k w o rs None = max_rows < length (sort_rows rs)

pub record RowsKept (k : ℕ) (w o : List ℕ) (x : Option ℕ) (rs : List (List ℕ)) : Type 0 where
  pub arity : k ≤ max_attributes
  pub rows_long : length w ≡ rows_words
  pub order-long : length o ≡ max_rows
  pub long : Each (λ r. length r ≡ k) rs
  pub is : KeptAs k w o rs x

-- whatever rows were kept before
abbrev pub AddSays : ℕ → List ℕ → List ℕ → List ℕ → List ℕ → List ℕ → Option ℕ → Option ℕ → Type 0
AddSays k r w w' o o' x x' = (rs : List (List ℕ)) → RowsKept k w o x rs → RowsKept k w' o' x' (rs ++ (r ∷ []))
