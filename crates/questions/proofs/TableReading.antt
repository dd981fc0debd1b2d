-- Reading a table, part by part: what the definition says of it, by the place of each part in the words s.
--   first_at, count_at, rows_at    == the first word; the place of the number of rows or pairs, after k attribute numbers; and that number
--   ArityRead s from n k        == the first word is there and passes question 6, and k is the arity by it
--   AttributesRead s from n k xs == it was read, and then the attribute numbers, into xs
--   table-missing, table-arity       == the first word is not there, or is refused
--   table-named, table-turn          == an attribute number is refused; none is, and the rest follows
--   table-rows-missing, table-rows   == the number of rows or pairs is not there, or too high
--   table-contents, table_read, table-within == it is neither: what the table has is refused; all is read; and its entry is within the words
use mathlib.Core.Path.{◌≡◌, sym, ◌∙◌}
use mathlib.Core.List.{List, []}
use Prim.Native.Nat.{ℕ, ◌+◌, ◌≤◌, ◌<◌}
use lib.ListN.{length, get_or, take, drop}
use Rattle.std.specs.Prelude.{Ok}
use Rattle.boxes.specs.Limits.{max_attributes}
use Rattle.questions.specs.Questions.{bad, got, then_g, word_in, attributes_in, arity_check, arity_of, rows_check, contents_in, table_in}
use Rattle.questions.specs.Directories.{contents_of, kind_words, Filled, Within}
use Rattle.questions.specs.declared.directory.TableKind.{TableKind}
use Rattle.questions.specs.Reads.{Arity, ContentsSay}
use Rattle.questions.proofs.Reading.{word-missing, word-refused, word_read, then-refused}

-- the first word of the table that begins at a place, the place of its number of rows, and that number
abbrev pub first_at : List ℕ → ℕ → ℕ
first_at s from = get_or s from 0

abbrev pub count_at : ℕ → ℕ → ℕ
count_at from k = from + 1 + k

abbrev pub rows_at : List ℕ → ℕ → ℕ → ℕ
rows_at s from k = get_or s (count_at from k) 0

pub record ArityRead (s : List ℕ) (from n k : ℕ) : Type 0 where
  pub there : from < length s
  pub fair : arity_check n (first_at s from) ≡ 0
  pub is : k ≡ arity_of (first_at s from)

-- the attribute numbers were read, into xs
pub record AttributesRead (s : List ℕ) (from n k : ℕ) (xs : List ℕ) : Type 0 where
  pub arity : ArityRead s from n k
  pub is : got (take k xs) (drop (count_at from k) s) ≡ attributes_in k n [] (drop (from + 1) s)
  pub array : Filled max_attributes 0 xs k

module _ (s ws : List ℕ) (from n : ℕ) where
  pub table-missing : length s ≤ from → bad 3 ≡ table_in n ws (drop from s)
  unfolding table_in
  table-missing h = rw (word-missing (arity_check n) s from h)

  pub table-arity : from < length s → arity_check n (first_at s from) ≡ 6 → bad 6 ≡ table_in n ws (drop from s)
  unfolding table_in
  table-arity h e = rw (word-refused (arity_check n) s from h 5 e)

pub table-named : {s : List ℕ} {from n k m : ℕ} (ws : List ℕ) → ArityRead s from n k → bad m ≡ attributes_in k n [] (drop (from + 1) s) → bad m ≡ table_in n ws (drop from s)
unfolding table_in
table-named {s = s} {from = from} {n = n} ws r e = rw (word_read (arity_check n) s from r.there r.fair, ← r.is) (then-refused _ e)

module _ {s : List ℕ} {from n k : ℕ} {schema : List ℕ} (r : AttributesRead s from n k schema) (ws : List ℕ) where
  abbrev xs : List ℕ
  xs = take k schema

  abbrev at : ℕ
  at = count_at from k

  pub table-turn : then_g (word_in rows_check (drop at s)) (λ m t. then_g (contents_in (first_at s from) m ws xs t) (λ c u. got (record { attributes = xs; contents = c }) u))
      ≡ table_in n ws (drop from s)
  unfolding table_in
  table-turn = rw (word_read (arity_check n) s from r.arity.there r.arity.fair, ← r.arity.is, sym r.is)

  pub table-rows-missing : length s ≤ count_at from k → bad 3 ≡ table_in n ws (drop from s)
  table-rows-missing h = rw (word-missing rows_check s at h) at table-turn

  pub table-rows : count_at from k < length s → rows_check (rows_at s from k) ≡ 8 → bad 8 ≡ table_in n ws (drop from s)
  table-rows h e = rw (word-refused rows_check s at h 7 e) at table-turn

-- after a number of rows or pairs that question 8 lets pass
module _ {s : List ℕ} {from n k : ℕ} {schema : List ℕ} (r : AttributesRead s from n k schema) (there : count_at from k < length s) (fair : rows_check (rows_at s from k) ≡ 0) (ws : List ℕ) where
  abbrev attributes : List ℕ
  attributes = take k schema

  abbrev begin : ℕ
  begin = count_at from k + 1

  contents-turn : then_g (contents_in (first_at s from) (rows_at s from k) ws attributes (drop begin s)) (λ c u. got (record { attributes = attributes; contents = c }) u)
      ≡ table_in n ws (drop from s)
  contents-turn = rw (word_read rows_check s (count_at from k) there fair) at (table-turn r ws)

  pub table-contents : {m : ℕ} → bad m ≡ contents_in (first_at s from) (rows_at s from k) ws (take (arity_of (first_at s from)) schema) (drop (count_at from k + 1) s)
      → bad m ≡ table_in n ws (drop from s)
  table-contents e = then-refused _ (rw (← r.arity.is) at e) ∙ contents-turn

  -- its entry
  module _ {d : TableKind} (says : ContentsSay s (count_at from k + 1) (first_at s from) (rows_at s from k) ws schema (Ok d)) where
    pub table_read : got (record { attributes = take k schema; contents = contents_of s (count_at from k + 1) k d }) (drop (count_at from k + 1 + kind_words k d) s) ≡ table_in n ws (drop from s)
    table_read =
        let is : got (contents_of s begin k d) (drop (begin + kind_words k d) s) ≡ contents_in (first_at s from) (rows_at s from k) ws attributes (drop begin s) = rw (← r.arity.is) at says.is in
        rw (sym is) at contents-turn

    pub table-within : Arity k → Within s (record { begin = count_at from k + 1; kind = d; arity = k; schema = schema })
    table-within arity = record {
      some = arity.0;
      few = arity.1;
      few-rows = says.few;
      ends = rw (← r.arity.is) at says.there;
      array = r.array;
    }
