-- What the parts of the reader ask and promise: each is the part of the definition that it is named after, at its place in the words s.
--   Arity k, Few m == an arity within the limits; not too many rows or pairs, unless m marks an open table
--   WordSays s at r == the word at a place, or refusal 3 where there is none
--   row_above k above == the row before, where there is one
--   WidthsSay, AttributesSay, RowSays, RowsSay, PairSays, PairsSay, ContentsSay, TableSays, TablesSay == what was answered is what the definition reads, and
--                         what the next part needs of an array or an entry
--   with_entries es r == what was answered of the tables, with the entries that were written
--   RestAsks, RestSays == the same of all that follows the widths
use Rattle.std.specs.Prelude.{◌≡◌, List, [], map, ℕ, suc, ◌+◌, ◌*◌, ◌≤◌, ◌<◌, length, get_or, take, drop, Option, Some, None, Ok, Err, IfOk, MatchResult}
use Rattle.boxes.specs.Limits.{max_attributes}
use Rattle.boxes.specs.Fits.{Each}
use Rattle.questions.specs.Limits.{max_tables, max_rows, open_mark}
use Rattle.questions.specs.Questions.{widths_in, attributes_in, row_in, rows_in, pair_in, pairs_in, arity_of, contents_in, table_in, tables_in, rest_in}
use Rattle.questions.specs.Refusals.{refusal_number, Reading, answer}
use Rattle.questions.specs.Directories.{rows_of, pair_at, pairs_of, contents_of, kind_words, FewRows, table_of, entry_end, entry_of, entries_from, Filled, Within, no_entry}
use Rattle.questions.specs.Says.{DirectorySays}
use Rattle.questions.specs.declared.widths.Widths.{Widths}
use Rattle.questions.specs.declared.directory.TableKind.{TableKind}
use Rattle.questions.specs.declared.directory.TableEntry.{TableEntry}
use Rattle.questions.specs.declared.directory.Directory.{Directory}

-- the arity of a table
abbrev pub Arity : ℕ → Type 0
Arity k = (1 ≤ k) × (k ≤ max_attributes)

-- the number of a table's rows or pairs, unless it is the mark of an open table
abbrev pub Few : ℕ → Type 0
Few m = (m ≡ open_mark → ⊥) → m ≤ max_rows

-- the word at a place
abbrev pub WordSays : List ℕ → ℕ → Reading ℕ → Type 0
WordSays s at r = MatchResult r (λ w. (at < length s) × (w ≡ get_or s at 0)) (λ e. (length s ≤ at) × (refusal_number e ≡ 3))

pub record WidthsSay (s : List ℕ) (from n : ℕ) (r : Reading Widths) : Type 0 where
  pub is : answer r (λ ws. take n ws.values) (λ ws. drop (from + n) s) ≡ widths_in n [] (drop from s)
  pub array : IfOk r (λ ws. Filled max_attributes 0 ws.values n)

pub record AttributesSay (s : List ℕ) (from n k : ℕ) (r : Reading (List ℕ)) : Type 0 where
  pub is : answer r (take k) (λ xs. drop (from + k) s) ≡ attributes_in k n [] (drop from s)
  pub array : IfOk r (λ xs. Filled max_attributes 0 xs k)

-- the row before, where there is one
abbrev pub row_above : ℕ → Option (List ℕ) → List ℕ
row_above k None = []
row_above k (Some row) = take k row

pub record RowSays (s : List ℕ) (from : ℕ) (ws xs : List ℕ) (k : ℕ) (above : Option (List ℕ)) (r : Reading (List ℕ)) : Type 0 where
  pub is : answer r (take k) (λ row. drop (from + k) s) ≡ row_in ws (take k xs) (row_above k above) [] (drop from s)

pub record RowsSay (s : List ℕ) (from m : ℕ) (ws xs : List ℕ) (k : ℕ) (r : Reading Unit) : Type 0 where
  pub is : answer r (λ u. rows_of s from k m) (λ u. drop (from + m * k) s) ≡ rows_in m ws (take k xs) [] [] (drop from s)
  pub there : IfOk r (λ u. from ≤ length s → from + m * k ≤ length s)

-- the least number above the pair
pub record PairSays (s : List ℕ) (at w least : ℕ) (r : Reading ℕ) : Type 0 where
  pub is : answer r (λ n. pair_at s at) (λ n. drop (at + 2) s) ≡ pair_in w least (drop at s)
  pub next : IfOk r (λ n. n ≡ suc (get_or s (at + 1) 0))
  pub there : IfOk r (λ n. at + 2 ≤ length s)

pub record PairsSay (s : List ℕ) (from m w : ℕ) (r : Reading Unit) : Type 0 where
  pub is : answer r (λ u. pairs_of s from m) (λ u. drop (from + m * 2) s) ≡ pairs_in m w 0 [] (drop from s)
  pub there : IfOk r (λ u. from ≤ length s → from + m * 2 ≤ length s)

pub record ContentsSay (s : List ℕ) (from k m : ℕ) (ws xs : List ℕ) (r : Reading TableKind) : Type 0 where
  pub is : answer r (contents_of s from (arity_of k)) (λ d. drop (from + kind_words (arity_of k) d) s) ≡ contents_in k m ws (take (arity_of k) xs) (drop from s)
  pub there : IfOk r (λ d. from + kind_words (arity_of k) d ≤ length s)
  pub few : IfOk r FewRows

pub record TableSays (s : List ℕ) (from n : ℕ) (ws : List ℕ) (r : Reading TableEntry) : Type 0 where
  pub is : answer r (table_of s) (λ e. drop (entry_end e) s) ≡ table_in n ws (drop from s)
  pub entry : IfOk r (λ e. e ≡ entry_of from (table_of s e))
  pub within : IfOk r (Within s)

-- what was answered, with the entries that were written
abbrev pub with_entries : List TableEntry → Reading ℕ → Reading (List TableEntry × ℕ)
with_entries es (Ok end) = Ok (es, end)
with_entries es (Err r) = Err r

-- the entries, and the place after the last table
pub record TablesSay (s : List ℕ) (from n : ℕ) (ws : List ℕ) (t : ℕ) (r : Reading (List TableEntry × ℕ)) : Type 0 where
  pub is : answer r (λ (es, end). map (table_of s) (take t es)) (λ (es, end). drop end s) ≡ tables_in t n ws [] (drop from s)
  pub within : IfOk r (λ (es, end). Each (Within s) (take t es))
  pub array : IfOk r (λ (es, end). Filled max_tables no_entry es t)
  pub entries : IfOk r (λ (es, end). take t es ≡ entries_from from (map (table_of s) (take t es)))

-- from 1 to max_attributes widths, with 0 beyond
pub record RestAsks (n : ℕ) (ws : List ℕ) : Type 0 where
  pub few : n ≤ max_attributes
  pub array : Filled max_attributes 0 ws n

abbrev pub RestSays : List ℕ → ℕ → List ℕ → Reading Directory → Type 0
RestSays s n ws r = DirectorySays s (rest_in n (take n ws) (drop (1 + n) s)) r
