-- Reading a row into an array, value by value; and then, beside the row above it.
--   values_in, values_reader == a row's values, each below its limit, as a definition that reads words one by one
--   late above row           == there is a row above, and this one does not come after it
--   row_in-values            == a row is its values, and the question of its order after the last
--   wide                     == its attributes are as many as the arity says
--   ValuesSoFar              == i values of a row are read
--   values-start, -missing, -wide, -read == before the first value, at one that is not there, at one beyond its width, after one more
--   row-refused, row-late, row_read == a value is refused; all are read, and the row does not come after the one above, or it does
use mathlib.Core.Path.{◌≡◌, refl, sym, ◌∙◌}
use mathlib.Core.Bool.{Bool, true, false, ◌&&◌, not}
use mathlib.Core.List.{List, [], ◌∷◌, ◌++◌}
use Prim.Native.Nat.{ℕ, suc, ◌+◌, ◌-◌, ◌^◌, ◌≤◌, ◌<◌}
use native.Mathlib.Omega.{arith}
use borrow.Author.Tests.{le-leb, lt-leb, ne_eqb}
use lib.Dec.{eqb, leb}
use lib.ListN.{replicate, length, get_or, take, drop, set, drop_of_length-le}
use lib.Seq.{get_or-take, length-take-le, drop-cons}
use Rattle.std.specs.Prelude.{Option, Some, None}
use Rattle.boxes.specs.Limits.{max_attributes}
use Rattle.boxes.specs.Intervals.{pick}
use Rattle.boxes.proofs.Tests.{by}
use Rattle.questions.specs.Orders.{before}
use Rattle.questions.specs.Questions.{Got, bad, got, then_g, word_in, value_check, row_in}
use Rattle.questions.specs.Reads.{Arity, row_above}
use Rattle.questions.proofs.Reading.{then-refused}
use Rattle.questions.proofs.ListReading.{WordReader, ReadSoFar, so-far-start, so-far-long, so-far-missing, so-far-refused, so-far-read, so-far-end}

-- ---- a row as a list of words

unfoldable pub values_in : List ℕ → List ℕ → List ℕ → List ℕ → Got (List ℕ)
values_in ws [] r s = got r s
values_in ws (a ∷ xs) r s = then_g (word_in (value_check (get_or ws a 0)) s) (λ v t. values_in ws xs (r ++ (v ∷ [])) t)

abbrev pub late : List ℕ → List ℕ → Bool
late above row = not (eqb (length above) 0) && not (before above row)

row_in-values : (ws : List ℕ) (a : ℕ) (xs above r s : List ℕ) → row_in ws (a ∷ xs) above r s ≡ then_g (values_in ws (a ∷ xs) r s) (λ q t. pick (late above q) (bad 10) (got q t))
unfolding row_in values_in word_in
row_in-values ws a [] above r [] = refl
row_in-values ws a (b ∷ xs) above r [] = refl
row_in-values ws a [] above r (v ∷ s) =
    by (leb (2 ^ get_or ws a 0) v)
    (λ high. rw high)
    (λ low. by (late above (r ++ (v ∷ []))) (λ t. rw (low, t)) (λ f. rw (low, f)))
row_in-values ws a (b ∷ xs) above r (v ∷ s) =
    let more : eqb (length (b ∷ xs)) 0 ≡ false = ne_eqb (length (b ∷ xs)) 0 (λ z. omega arith) in
    by (leb (2 ^ get_or ws a 0) v)
    (λ high. rw high)
    (λ low. rw (low, more) (row_in-values ws b xs above (r ++ (v ∷ [])) s))

module _ (ws xs : List ℕ) (k : ℕ) (long : length xs ≡ k) where
  pub values_in-none : (r s : List ℕ) → values_in ws (drop (k - 0) xs) r s ≡ got r s
  unfolding values_in
  values_in-none r s = rw (drop_of_length-le xs {i = k - 0} (omega arith))

  pub values_in-turn : (l : ℕ) (r s : List ℕ) → length r + suc l ≡ k
      → values_in ws (drop (k - suc l) xs) r s ≡ then_g (word_in (value_check (get_or ws (get_or xs (length r) 0) 0)) s) (λ v t. values_in ws (drop (k - l) xs) (r ++ (v ∷ [])) t)
  unfolding values_in
  values_in-turn l r s e =
      let at : k - suc l ≡ length r = omega arith in
      let after : k - l ≡ suc (length r) = omega arith in
      rw (at, after, drop-cons xs (length r) 0 (omega arith))

  abbrev pub values_reader : WordReader k
  values_reader = record { read = λ l. values_in ws (drop (k - l) xs); check = λ r. value_check (get_or ws (get_or xs (length r) 0) 0); none = values_in-none; turn = values_in-turn }

-- ---- the values

pub wide : (k : ℕ) (xs : List ℕ) → Arity k → k ≤ length xs → length (take k xs) ≡ k
wide k xs arity long = length-take-le k xs long

pub record ValuesSoFar (s ws xs : List ℕ) (k from : ℕ) (row : List ℕ) (i : ℕ) : Type 0 where
  pub arity : Arity k
  pub long : k ≤ length xs
  pub words : ReadSoFar (values_reader ws (take k xs) k (wide k xs arity long)) s from i row

pub values-start : (s ws xs : List ℕ) (k from : ℕ) → Arity k → k ≤ length xs → ValuesSoFar s ws xs k from (replicate max_attributes 0) 0
values-start s ws xs k from arity long =
    record { arity = arity; long = long; words = so-far-start (values_reader ws (take k xs) k (wide k xs arity long)) s from arity.1 }

module _ {s ws xs : List ℕ} {k from : ℕ} {row : List ℕ} {i : ℕ} (r : ValuesSoFar s ws xs k from row i) where
  abbrev whole : Got (List ℕ)
  whole = values_in ws (take k xs) [] (drop from s)

  all : values_in ws (drop (k - k) (take k xs)) [] (drop from s) ≡ whole
  all = let z : k - k ≡ 0 = omega arith in rw z

  -- a refusal of a value, or the row that is read and then held against the one above
  module _ (above : Option (List ℕ)) where
    row-turn : then_g whole (λ q t. pick (late (row_above k above) q) (bad 10) (got q t)) ≡ row_in ws (take k xs) (row_above k above) [] (drop from s)
    row-turn =
        let some : take k xs ≡ get_or (take k xs) 0 0 ∷ drop 1 (take k xs) = drop-cons (take k xs) 0 0 (omega (arith, r.arity.0, wide k xs r.arity r.long)) in
        rw some (sym (row_in-values ws _ _ (row_above k above) [] (drop from s)))

    row-refused : {n : ℕ} → bad n ≡ whole → bad n ≡ row_in ws (take k xs) (row_above k above) [] (drop from s)
    row-refused e = then-refused _ e ∙ row-turn

    module _ (left : i < k) where
      check-is : value_check (get_or ws (get_or (take k xs) (length (take i row)) 0) 0) (get_or s (from + i) 0) ≡ value_check (get_or ws (get_or xs i 0) 0) (get_or s (from + i) 0)
      check-is = rw (so-far-long r.words (omega arith), get_or-take k xs i 0 left)

      pub values-missing : length s ≤ from + i → bad 3 ≡ row_in ws (take k xs) (row_above k above) [] (drop from s)
      values-missing h = row-refused (so-far-missing r.words left h ∙ all)

      pub values-wide : from + i < length s → 2 ^ get_or ws (get_or xs i 0) 0 ≤ get_or s (from + i) 0 → bad 9 ≡ row_in ws (take k xs) (row_above k above) [] (drop from s)
      values-wide there h = row-refused (so-far-refused r.words left there 8 (check-is ∙ rw (le-leb _ _ h)) ∙ all)

  pub values_read : i < k → from + i < length s → get_or s (from + i) 0 < 2 ^ get_or ws (get_or xs i 0) 0 → ValuesSoFar s ws xs k from (set row i (get_or s (from + i) 0)) (i + 1)
  values_read left there h =
      record { arity = r.arity; long = r.long; words = so-far-read r.words left there (check-is None left ∙ rw (lt-leb _ _ h)) }

  -- after the last value
  module _ (done : i ≡ k) where
    read : got (take k row) (drop (from + k) s) ≡ whole
    read = so-far-end r.words done ∙ all

    order-turn : (above : Option (List ℕ)) → pick (late (row_above k above) (take k row)) (bad 10) (got (take k row) (drop (from + k) s)) ≡ row_in ws (take k xs) (row_above k above) [] (drop from s)
    order-turn above = rw (sym read) at (row-turn above)

    pub row-first : got (take k row) (drop (from + k) s) ≡ row_in ws (take k xs) [] [] (drop from s)
    row-first = order-turn None

    module _ (above : List ℕ) (long-above : length above ≡ max_attributes) where
      some : eqb (length (take k above)) 0 ≡ false
      some = ne_eqb (length (take k above)) 0 (λ z. omega (arith, r.arity.0, wide k above r.arity (omega (arith, r.arity.1, long-above))))

      pub row-late : before (take k above) (take k row) ≡ false → bad 10 ≡ row_in ws (take k xs) (take k above) [] (drop from s)
      row-late f = rw (some, f) at (order-turn (Some above))

      pub row_read : before (take k above) (take k row) ≡ true → got (take k row) (drop (from + k) s) ≡ row_in ws (take k xs) (take k above) [] (drop from s)
      row_read t = rw (some, t) at (order-turn (Some above))
