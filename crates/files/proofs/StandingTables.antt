-- A table with rows whose words stand at a place.
--   arity-is, names-are, rows-even, rows_are == its arity, its attributes, that its rows have as many values, and its rows
--   back-stands == what stands behind it
--   table_at    == what walking it asks
use mathlib.Core.Path.{◌≡◌, sym, ap, ap₂, ◌∙◌}
use mathlib.Core.List.{List, ◌∷◌, ◌++◌, append_assoc}
use Prim.Native.Nat.{ℕ, ◌+◌, ◌*◌, ◌≤◌}
use native.Mathlib.Nat.{add-zero}
use native.Mathlib.Omega.{arith}
use lib.ListN.{length, get_or, take, drop, length-append, length-drop, take-append-drop}
use lib.Seq.{length-take-le, take_at, drop_at, drop-drop, get_or_at, get_or-drop}
use Rattle.boxes.specs.Limits.{max_attributes}
use Rattle.boxes.specs.Fits.{Each}
use Rattle.boxes.proofs.Lists.{each-imp}
use Rattle.questions.specs.Questions.{Contents, Table, has_pairs}
use Rattle.questions.specs.Directories.{rows_of}
use Rattle.questions.specs.Words.{flat, contents_words, table_words}
use Rattle.questions.proofs.Laws.{length-flat, rows_of-flat, table_words-plain}
use Rattle.files.specs.Parts.{TableOver}
use Rattle.files.specs.Raising.{arity_at, row_count_at, begin_at, table_end, TableAt}

rows_behind : {s : List ℕ} {ts : List (List ℕ)} (front back : List ℕ) (b k m : ℕ) → s ≡ front ++ (flat ts ++ back) → b ≡ length front → m ≡ length ts → Each (λ p. length p ≡ k) ts
    → rows_of s b k m ≡ ts
rows_behind front back b k m whole place count even = rw (whole, place, count) (rows_of-flat even front back)

module _ (s : List ℕ) (at : ℕ) {n : ℕ} {t : Table} (o : TableOver n t) (back : List ℕ) (stand : drop at s ≡ table_words t ++ back) where
  abbrev xs : List ℕ
  xs = t.attributes

  abbrev rs : List (List ℕ)
  rs = o.rows

  -- what stands behind the attributes
  abbrev rest : List ℕ
  rest = length rs ∷ (flat rs ++ back)

  words_are : drop at s ≡ length xs ∷ (xs ++ rest)
  words_are =
      stand ∙ ap (λ (l : List ℕ). l ++ back) (table_words-plain xs t.contents (ap has_pairs o.contents) ∙ ap (λ (c : Contents). length xs ∷ (xs ++ contents_words c)) o.contents)
      ∙ ap (λ (l : List ℕ). length xs ∷ l) (append_assoc xs (length rs ∷ flat rs) back)

  words_long : at + 2 + length xs + length (flat rs) + length back ≡ length s
  words_long = omega (arith, ap length words_are, length-drop at s, length-append xs rest, length-append (flat rs) back)

  pub arity-is : arity_at s at ≡ length xs
  arity-is = ap (λ (i : ℕ). get_or s i 0) (sym (add-zero at)) ∙ sym (get_or-drop at s 0 0) ∙ ap (λ (l : List ℕ). get_or l 0 0) words_are

  pub names-are : drop (at + 1) s ≡ xs ++ rest
  names-are = sym (drop-drop 1 at s) ∙ ap (drop 1) words_are

  count-is : row_count_at s at ≡ length rs
  count-is = sym (get_or-drop (at + 1) s (arity_at s at) 0) ∙ ap (λ (l : List ℕ). get_or l (arity_at s at) 0) names-are ∙ get_or_at xs (length rs) (flat rs ++ back) 0 (arity_at s at) (sym arity-is)

  rows-stand : drop (begin_at s at) s ≡ flat rs ++ back
  rows-stand =
      sym (drop-drop 1 (at + 1 + arity_at s at) s)
      ∙ ap (drop 1) (sym (drop-drop (arity_at s at) (at + 1) s) ∙ ap (drop (arity_at s at)) names-are ∙ drop_at xs rest (arity_at s at) (sym arity-is))

  rows_long : row_count_at s at * arity_at s at ≡ length (flat rs)
  rows_long = ap₂ ◌*◌ count-is arity-is ∙ sym (length-flat o.even)

  ends-within : table_end s at ≤ length s
  ends-within = omega (arith, words_long, arity-is, rows_long)

  pub back-stands : drop (table_end s at) s ≡ back
  back-stands = sym (drop-drop (row_count_at s at * arity_at s at) (begin_at s at) s) ∙ ap (drop (row_count_at s at * arity_at s at)) rows-stand ∙ drop_at (flat rs) back (row_count_at s at * arity_at s at) (sym rows_long)

  pub rows-even : Each (λ r. length r ≡ arity_at s at) rs
  rows-even = rw arity-is o.even

  pub rows_are : rows_of s (begin_at s at) (arity_at s at) (row_count_at s at) ≡ rs
  rows_are =
      let front : List ℕ = take (begin_at s at) s in
      let long : length front ≡ begin_at s at = length-take-le (begin_at s at) s (omega (arith, ends-within)) in
      let whole : s ≡ front ++ (flat rs ++ back) = sym (take-append-drop (begin_at s at) s) ∙ ap (λ (l : List ℕ). front ++ l) rows-stand in
      rows_behind front back (begin_at s at) (arity_at s at) (row_count_at s at) whole (sym long) count-is rows-even

  pub table_at : n ≤ max_attributes → TableAt s at
  table_at most =
      record {
        few = omega (arith, arity-is, o.few);
        below = rw (names-are, take_at xs rest (arity_at s at) (sym arity-is)) (each-imp (λ a h. omega arith) o.below);
        ends = ends-within;
      }
