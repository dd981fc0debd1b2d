-- Reading the rows of a table, one after the other, each beside the one above it.
--   rows_of-end     == one row more
--   row-there      == a row that was read stands in the words
--   RowsSoFar      == i rows are read, up to the place `at`; the rest will be what the definition reads
--   rows-so-far-start, -refused, -read, -end, -there == before the first row, at one that is refused, after one more, and after the last
use mathlib.Core.Path.{◌≡◌, sym, ap, ◌∙◌}
use mathlib.Core.List.{List, [], ◌∷◌, ◌++◌}
use Prim.Native.Nat.{ℕ, zero, suc, ◌+◌, ◌-◌, ◌*◌, ◌≤◌, ◌<◌}
use native.Mathlib.Nat.{suc-mul}
use native.Mathlib.Numerals.{add-one}
use native.Mathlib.Omega.{arith}
use Rattle.std.specs.Prelude.{Option, Some, None}
use lib.ListN.{length, take, drop, length-drop}
use Rattle.questions.specs.Questions.{Got, bad, got, then_g, row_in, rows_in}
use Rattle.questions.specs.Directories.{rows_of}
use Rattle.questions.specs.Reads.{Arity, row_above}
use Rattle.questions.proofs.Reading.{then-refused}
use Rattle.questions.proofs.Readers.{row_in-words}
use Rattle.questions.proofs.RowReading.{wide}

pub rows_of-end : (s : List ℕ) (b k i : ℕ) → rows_of s b k (suc i) ≡ rows_of s b k i ++ (take k (drop (b + i * k) s) ∷ [])
unfolding rows_of
rows_of-end s b k zero = let e : b + 0 * k ≡ b = omega arith in rw e
rows_of-end s b k (suc i) = let e : b + suc i * k ≡ b + k + i * k = omega (arith, suc-mul i k) in rw e (ap (λ l. take k (drop b s) ∷ l) (rows_of-end s (b + k) k i))

pub record RowsSoFar (s ws xs : List ℕ) (k from m at i : ℕ) (above : Option (List ℕ)) : Type 0 where
  pub arity : Arity k
  pub long : k ≤ length xs
  pub place : at ≡ from + i * k
  pub there : from ≤ length s → at ≤ length s
  pub rest : rows_in (m - i) ws (take k xs) (row_above k above) (rows_of s from k i) (drop at s) ≡ rows_in m ws (take k xs) [] [] (drop from s)

pub rows-so-far-start : (s ws xs : List ℕ) (k from m : ℕ) → Arity k → k ≤ length xs → RowsSoFar s ws xs k from m from 0 None
unfolding rows_of
rows-so-far-start s ws xs k from m arity long =
    let e : m - 0 ≡ m = omega arith in
    record { arity = arity; long = long; place = omega arith; there = λ h. h; rest = rw e }

module _ {s ws xs : List ℕ} {k from m at i : ℕ} {above : Option (List ℕ)} (r : RowsSoFar s ws xs k from m at i above) where
  abbrev whole : Got (List (List ℕ))
  whole = rows_in m ws (take k xs) [] [] (drop from s)

  -- the next row, by the definition
  abbrev row_is : Got (List ℕ)
  row_is = row_in ws (take k xs) (row_above k above) [] (drop at s)

  module _ (left : i < m) where
    rows-turn : then_g row_is (λ q t. rows_in (m - (i + 1)) ws (take k xs) q (rows_of s from k i ++ (q ∷ [])) t) ≡ whole
    unfolding rows_in
    rows-turn = let e : m - i ≡ suc (m - (i + 1)) = omega arith in rw e at r.rest

    pub rows-so-far-refused : {n : ℕ} → bad n ≡ row_in ws (take k xs) (row_above k above) [] (drop at s) → bad n ≡ whole
    rows-so-far-refused e = then-refused _ e ∙ rows-turn

    module _ (row : List ℕ) (read : got (take k row) (drop (at + k) s) ≡ row_in ws (take k xs) (row_above k above) [] (drop at s)) where
      words : (take k row ≡ take k (drop at s)) × (drop (at + k) s ≡ drop k (drop at s)) × (k ≤ length (drop at s))
      words = rw (wide k xs r.arity r.long) at (row_in-words ws (take k xs) (row_above k above) [] (drop at s) (sym read))

      pub row-there : at + k ≤ length s
      row-there = omega (arith, r.arity.0, length-drop at s, words.2)

      pub rows-so-far-read : RowsSoFar s ws xs k from m (at + k) (i + 1) (Some row)
      rows-so-far-read =
          let more : rows_of s from k (i + 1) ≡ rows_of s from k i ++ (take k row ∷ []) = rw (add-one i, words.0, r.place) (rows_of-end s from k i) in
          record {
            arity = r.arity;
            long = r.long;
            place = omega (arith, r.place, suc-mul i k, add-one i);
            there = λ h. row-there;
            rest = rw more (rw (sym read) at rows-turn);
          }

-- after the last row
module _ {s ws xs : List ℕ} {k from m at i : ℕ} {above : Option (List ℕ)} (r : RowsSoFar s ws xs k from m at i above) (done : i ≡ m) where
  last-place : from + m * k ≡ at
  last-place = rw (← done) (sym r.place)

  pub rows-so-far-end : got (rows_of s from k m) (drop (from + m * k) s) ≡ rows_in m ws (take k xs) [] [] (drop from s)
  unfolding rows_in
  rows-so-far-end =
      let z : m - m ≡ 0 = omega arith in
      rw last-place (rw z at (rw done at r.rest))

  pub rows-so-far-there : from ≤ length s → from + m * k ≤ length s
  rows-so-far-there b = rw last-place (r.there b)
