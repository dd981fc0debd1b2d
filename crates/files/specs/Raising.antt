-- The highest value of each attribute, found in the words of tables with rows, table by table and column by column.
--   highest vs          == the highest of some values, 0 where there is none
--   column_words s b k m      == the m words from the place b on, k apart
--   raise a vs hs       == the highest values hs, after the values vs of the attribute a
--   raise_columns s n b k m l hs == after l columns of m values, k apart: the first column's attribute stands at the place n, its first value at b
--   arity_at s at, row_count_at s at, begin_at s at, table_end s at == the arity of the table whose words begin at a place, how many rows it has, where they begin and end
--   raise_table s at hs, raise_tables s k at hs == after that table; after k tables that stand one after the other
--   TableAt s at        == a table's words begin at a place: its rows end within the words, its attributes are few, their numbers low
--   TablesAt s k at     == so do the words of k tables
--   widths_of hs         == for each highest value the least width that holds it
use Rattle.std.specs.Prelude.{List, [], ◌∷◌, map, ℕ, zero, suc, ◌+◌, ◌*◌, ◌≤◌, max, length, get_or, set, take, drop}
use Rattle.boxes.specs.Limits.{max_attributes}
use Rattle.questions.specs.Good.{Below}
use Rattle.files.specs.Widths.{least_width}

unfoldable pub highest : List ℕ → ℕ
highest [] = 0
highest (v ∷ vs) = max v (highest vs)

unfoldable pub column_words : List ℕ → ℕ → ℕ → ℕ → List ℕ
column_words s b k zero = []
column_words s b k (suc m) = get_or s b 0 ∷ column_words s (b + k) k m

abbrev pub raise : ℕ → List ℕ → List ℕ → List ℕ
raise a vs hs = set hs a (max (get_or hs a 0) (highest vs))

unfoldable pub raise_columns : List ℕ → ℕ → ℕ → ℕ → ℕ → ℕ → List ℕ → List ℕ
raise_columns s n b k m zero hs = hs
raise_columns s n b k m (suc l) hs = raise_columns s (suc n) (suc b) k m l (raise (get_or s n 0) (column_words s b k m) hs)

-- its arity, its attribute numbers, the number of its rows, then its rows
abbrev pub arity_at : List ℕ → ℕ → ℕ
arity_at s at = get_or s at 0

abbrev pub row_count_at : List ℕ → ℕ → ℕ
row_count_at s at = get_or s (at + 1 + arity_at s at) 0

abbrev pub begin_at : List ℕ → ℕ → ℕ
begin_at s at = at + 1 + arity_at s at + 1

abbrev pub table_end : List ℕ → ℕ → ℕ
table_end s at = begin_at s at + row_count_at s at * arity_at s at

abbrev pub raise_table : List ℕ → ℕ → List ℕ → List ℕ
raise_table s at hs = raise_columns s (at + 1) (begin_at s at) (arity_at s at) (row_count_at s at) (arity_at s at) hs

unfoldable pub raise_tables : List ℕ → ℕ → ℕ → List ℕ → List ℕ
raise_tables s zero at hs = hs
raise_tables s (suc k) at hs = raise_tables s k (table_end s at) (raise_table s at hs)

pub record TableAt (s : List ℕ) (at : ℕ) : Type 0 where
  pub few : arity_at s at ≤ max_attributes
  pub below : Below max_attributes (take (arity_at s at) (drop (at + 1) s))
  pub ends : table_end s at ≤ length s

pub data TablesAt (s : List ℕ) : ℕ → ℕ → Type 0 where
  none : {at : ℕ} → TablesAt s 0 at
  more : {k at : ℕ} → TableAt s at → TablesAt s k (table_end s at) → TablesAt s (suc k) at

abbrev pub widths_of : List ℕ → List ℕ
widths_of hs = map (λ h. least_width (h ∷ [])) hs
