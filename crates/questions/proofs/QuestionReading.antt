-- Reading a question, part by part: what the definition says of it, by the place of each part in the words s.
--   refused_says              == what is promised of a refusal
--   tables_at s n, count_of s   == the number of tables; the number of attributes
--   CountRead s ws n          == the number of tables is there and in range
--   rest-missing, rest-count  == the number of tables is not there, or out of range
--   rest-tables, rest_more, rest-bare, rest_read == a table is refused; words are left; an attribute is in no table; all is read
--   DimensionRead s           == there are words, not too many, and the number of attributes is in range
--   question-long, question-none, question-count == too many words or none, the number of attributes out of range
--   question-widths, question-rest == a width is refused; what follows the widths
use mathlib.Core.Path.{◌≡◌, refl, sym, ap, ◌∙◌}
use mathlib.Core.Bool.{true, false}
use mathlib.Core.List.{List, [], ◌∷◌, map}
use Prim.Native.Nat.{ℕ, ◌+◌, ◌-◌, ◌≤◌, ◌<◌}
use native.Mathlib.Omega.{arith}
use borrow.Author.Tests.{eq-eqb, ne_eqb, lt-ltb, le-ltb}
use lib.Dec.{eqb}
use lib.ListN.{length, get_or, take, drop, length-drop}
use Rattle.boxes.specs.Limits.{max_attributes}
use Rattle.boxes.specs.Intervals.{pick}
use Rattle.questions.specs.Limits.{max_words}
use Rattle.std.specs.Prelude.{Err}
use Rattle.questions.specs.Questions.{out_of_range, Table, Question, Got, bad, got, then_g, widths_in, tables_in, each_in, closed, tables_check, rest_in, read_words, read_question}
use Rattle.questions.specs.Refusals.{refusal_number}
use Rattle.questions.specs.declared.refusal.Refusal.{Refusal}
use Rattle.questions.specs.Directories.{table_of, directory_of, Filled, entries_cover}
use Rattle.questions.specs.Says.{DirectorySays}
use Rattle.questions.specs.declared.directory.TableEntry.{TableEntry}
use Rattle.questions.proofs.Arrays.{filled-end, get_d_beyond}
use Rattle.questions.proofs.Covers.{entries_cover-tables}
use Rattle.questions.proofs.Padding.{tables_in-same}
use Rattle.questions.proofs.Reading.{word-missing, word-refused, word_read, then-refused}

pub refused_says : (s : List ℕ) (g : Got Question) (r : Refusal) → bad (refusal_number r) ≡ g → DirectorySays s g (Err r)
refused_says s g r e = record { directory = ap directory_of e; is = e; within = tt }

-- ---- after the widths

-- the place of the number of tables, and that number
abbrev pub tables_at : List ℕ → ℕ → ℕ
tables_at s n = get_or s (1 + n) 0

pub record CountRead (s ws : List ℕ) (n : ℕ) : Type 0 where
  pub array : Filled max_attributes 0 ws n
  pub there : 1 + n < length s
  pub fair : tables_check (tables_at s n) ≡ 0

module _ (s ws : List ℕ) (n : ℕ) where
  pub rest-missing : length s ≤ 1 + n → bad 3 ≡ rest_in n ws (drop (1 + n) s)
  unfolding rest_in
  rest-missing h = rw (word-missing tables_check s (1 + n) h)

  pub rest-count : 1 + n < length s → tables_check (tables_at s n) ≡ 5 → bad 5 ≡ rest_in n ws (drop (1 + n) s)
  unfolding rest_in
  rest-count h e = rw (word-refused tables_check s (1 + n) h 4 e)

module _ {s ws : List ℕ} {n : ℕ} (r : CountRead s ws n) where
  abbrev rest : Got Question
  rest = rest_in n (take n ws) (drop (1 + n) s)

  padded : (a : ℕ) → get_or ws a 0 ≡ get_or (take n ws) a 0
  padded a = ap (λ l. get_or l a 0) (filled-end r.array) ∙ get_d_beyond (take n ws) (max_attributes - n) a

  -- the tables that are read with zeros beyond the widths
  read-turn : then_g (tables_in (tables_at s n) n ws [] (drop (1 + n + 1) s)) (λ ts u. closed n (take n ws) ts u) ≡ rest
  unfolding rest_in
  read-turn = rw (word_read tables_check s (1 + n) r.there r.fair, tables_in-same ws (take n ws) padded (tables_at s n) n [] (drop (1 + n + 1) s))

  pub rest-tables : {m : ℕ} → bad m ≡ tables_in (tables_at s n) n ws [] (drop (1 + n + 1) s) → bad m ≡ rest_in n (take n ws) (drop (1 + n) s)
  rest-tables e = then-refused _ e ∙ read-turn

  module _ (es : List TableEntry) (end : ℕ) (read : got (map (table_of s) es) (drop end s) ≡ tables_in (tables_at s n) n ws [] (drop (1 + n + 1) s)) where
    abbrev ts : List Table
    ts = map (table_of s) es

    rest-turn : closed n (take n ws) ts (drop end s) ≡ rest
    rest-turn = rw (sym read) at read-turn

    pub rest_more : end < length s → bad 11 ≡ rest_in n (take n ws) (drop (1 + n) s)
    unfolding closed
    rest_more h =
        let l : eqb (length (drop end s)) 0 ≡ false = ne_eqb (length (drop end s)) 0 (λ z. omega (arith, length-drop end s)) in
        rw l at rest-turn

    module _ (ended : length s ≤ end) where
      ends : eqb (length (drop end s)) 0 ≡ true
      ends = eq-eqb (length (drop end s)) 0 (omega (arith, length-drop end s))

      pub rest-bare : entries_cover n es ≡ false → bad 12 ≡ rest_in n (take n ws) (drop (1 + n) s)
      unfolding closed
      rest-bare c = let d : each_in n ts ≡ false = sym (entries_cover-tables n s es) ∙ c in rw (ends, d) at rest-turn

      pub rest_read : entries_cover n es ≡ true → got (record { widths = take n ws; tables = map (table_of s) es }) [] ≡ rest_in n (take n ws) (drop (1 + n) s)
      unfolding closed
      rest_read c = let d : each_in n ts ≡ true = sym (entries_cover-tables n s es) ∙ c in rw (ends, d) at rest-turn

-- ---- from the first word on

read_words-none : (s : List ℕ) → length s ≡ 0 → read_words s ≡ bad 1
unfolding read_words
read_words-none [] e = refl
read_words-none (x ∷ s) e = absurd (omega arith)

-- the first word is the number of attributes
abbrev pub count_of : List ℕ → ℕ
count_of s = get_or s 0 0

read_words-some : (s : List ℕ) → 0 < length s
    → read_words s ≡ pick (out_of_range max_attributes (count_of s)) (bad 2) (then_g (widths_in (count_of s) [] (drop 1 s)) (λ ws t. rest_in (count_of s) ws t))
unfolding read_words
read_words-some [] h = absurd (omega arith)
read_words-some (x ∷ s) h = refl

module _ (s : List ℕ) where
  pub question-long : max_words < length s → bad 1 ≡ read_question s
  unfolding read_question
  question-long h = rw (lt-ltb max_words (length s) h)

  module _ (short : length s ≤ max_words) where
    question-turn : read_question s ≡ read_words s
    unfolding read_question
    question-turn = rw (le-ltb max_words (length s) short)

    pub question-none : length s ≡ 0 → bad 1 ≡ read_question s
    question-none e = sym (question-turn ∙ read_words-none s e)

    pub question-count : 0 < length s → out_of_range max_attributes (count_of s) ≡ true → bad 2 ≡ read_question s
    question-count some e = sym (question-turn ∙ read_words-some s some ∙ rw e)

pub record DimensionRead (s : List ℕ) : Type 0 where
  pub short : length s ≤ max_words
  pub some : 0 < length s
  pub fair : out_of_range max_attributes (count_of s) ≡ false

module _ {s : List ℕ} (r : DimensionRead s) where
  abbrev n : ℕ
  n = count_of s

  widths-turn : then_g (widths_in n [] (drop 1 s)) (λ ws t. rest_in n ws t) ≡ read_question s
  widths-turn = sym (question-turn s r.short ∙ read_words-some s r.some ∙ rw r.fair)

  pub question-widths : {m : ℕ} → bad m ≡ widths_in (count_of s) [] (drop 1 s) → bad m ≡ read_question s
  question-widths e = then-refused _ e ∙ widths-turn

  pub question-rest : {ws : List ℕ} → got ws (drop (1 + count_of s) s) ≡ widths_in (count_of s) [] (drop 1 s) → rest_in (count_of s) ws (drop (1 + count_of s) s) ≡ read_question s
  question-rest read = rw (sym read) at widths-turn
