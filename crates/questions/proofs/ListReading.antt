-- Reading a list of words into an array, each with its check: the loop of widths, that of attributes, and that of a row.
--   WordReader n               == a definition that reads n words one by one, with a check of each by those before it
--   widths_reader n, attributes_reader n k == two of them
--   ReadSoFar f s from i xs    == of the words from a place on, i are read into xs, and the rest will be what f reads
--   so-far-start, so-far-read, so-far-missing, so-far-refused, so-far-end == before the first word, after one more, at one that is not there, at
--   one that does not pass its check, and after the last; so-far-filled: then the rest of the array is 0
--   so-far-long, so-far-next   == how many words are read, and which they are after one more
use mathlib.Core.Path.{◌≡◌, refl, sym, ◌∙◌}
use mathlib.Core.List.{List, [], ◌∷◌, ◌++◌}
use Prim.Native.Nat.{ℕ, suc, ◌+◌, ◌-◌, ◌≤◌, ◌<◌}
use native.Mathlib.Omega.{arith}
use lib.Seq.{length-take-le}
use lib.ListN.{length, get_or, take, drop, set, replicate}
use Rattle.boxes.specs.Limits.{max_attributes}
use Rattle.questions.specs.Questions.{Got, bad, got, then_g, word_in, width_check, widths_in, attribute_check, attributes_in}
use Rattle.questions.specs.Directories.{Filled}
use Rattle.questions.proofs.Arrays.{filled_none, filled-set, filled-take}
use Rattle.questions.proofs.Reading.{word-missing, word-refused, word_read}

pub record WordReader (n : ℕ) : Type 0 where
  pub read : ℕ → List ℕ → List ℕ → Got (List ℕ)
  pub check : List ℕ → ℕ → ℕ
  pub none : (xs s : List ℕ) → read 0 xs s ≡ got xs s
  pub turn : (l : ℕ) (xs s : List ℕ) → length xs + suc l ≡ n → read (suc l) xs s ≡ then_g (word_in (check xs) s) (λ w t. read l (xs ++ (w ∷ [])) t)

module _ (n : ℕ) where
  pub widths_in-none : (xs s : List ℕ) → widths_in 0 xs s ≡ got xs s
  unfolding widths_in
  widths_in-none xs s = refl

  pub widths_in-turn : (l : ℕ) (xs s : List ℕ) → length xs + suc l ≡ n → widths_in (suc l) xs s ≡ then_g (word_in width_check s) (λ w t. widths_in l (xs ++ (w ∷ [])) t)
  unfolding widths_in
  widths_in-turn l xs s e = refl

  abbrev pub widths_reader : WordReader n
  widths_reader = record { read = widths_in; check = λ xs. width_check; none = widths_in-none; turn = widths_in-turn }

module _ (n k : ℕ) where
  pub attributes_in-none : (xs s : List ℕ) → attributes_in 0 n xs s ≡ got xs s
  unfolding attributes_in
  attributes_in-none xs s = refl

  pub attributes_in-turn : (l : ℕ) (xs s : List ℕ) → length xs + suc l ≡ k
      → attributes_in (suc l) n xs s ≡ then_g (word_in (attribute_check n xs) s) (λ w t. attributes_in l n (xs ++ (w ∷ [])) t)
  unfolding attributes_in
  attributes_in-turn l xs s e = refl

  abbrev pub attributes_reader : WordReader k
  attributes_reader = record { read = λ l. attributes_in l n; check = attribute_check n; none = attributes_in-none; turn = attributes_in-turn }

pub record ReadSoFar {n : ℕ} (f : WordReader n) (s : List ℕ) (from i : ℕ) (xs : List ℕ) : Type 0 where
  pub few : n ≤ max_attributes
  pub there : 1 ≤ i → from + i ≤ length s
  pub array : Filled max_attributes 0 xs i
  pub rest : f.read (n - i) (take i xs) (drop (from + i) s) ≡ f.read n [] (drop from s)

pub so-far-start : {n : ℕ} (f : WordReader n) (s : List ℕ) (from : ℕ) → n ≤ max_attributes → ReadSoFar f s from 0 (replicate max_attributes 0)
so-far-start {n} f s from few =
    let e : n - 0 ≡ n = omega arith in
    let p : from + 0 ≡ from = omega arith in
    record { few = few; there = λ h. absurd (omega arith); array = filled_none; rest = rw (e, p) }

module _ {n : ℕ} {f : WordReader n} {s : List ℕ} {from i : ℕ} {xs : List ℕ} (r : ReadSoFar f s from i xs) where
  abbrev whole : Got (List ℕ)
  whole = f.read n [] (drop from s)

  abbrev at : ℕ
  at = from + i

  pub so-far-long : i ≤ n → length (take i xs) ≡ i
  so-far-long h = length-take-le i xs (omega (arith, r.few, r.array.long))

  -- one word more, and then the rest
  so-far-turn : i < n → then_g (word_in (f.check (take i xs)) (drop at s)) (λ w t. f.read (n - (i + 1)) (take i xs ++ (w ∷ [])) t) ≡ whole
  so-far-turn h =
      let e : n - i ≡ suc (n - (i + 1)) = omega arith in
      sym (f.turn (n - (i + 1)) (take i xs) (drop at s) (omega (arith, so-far-long (omega arith)))) ∙ rw e at r.rest

  pub so-far-missing : i < n → length s ≤ from + i → bad 3 ≡ whole
  so-far-missing h k = rw (word-missing (f.check (take i xs)) s at k) at (so-far-turn h)

  pub so-far-refused : i < n → from + i < length s → (m : ℕ) → f.check (take i xs) (get_or s (from + i) 0) ≡ suc m → bad (suc m) ≡ whole
  so-far-refused h k m e = rw (word-refused (f.check (take i xs)) s at k m e) at (so-far-turn h)

  pub so-far-next : i < n → take (i + 1) (set xs i (get_or s (from + i) 0)) ≡ take i xs ++ (get_or s (from + i) 0 ∷ [])
  so-far-next h = filled-take r.array (get_or s at 0) (omega (arith, r.few))

  pub so-far-read : i < n → from + i < length s → f.check (take i xs) (get_or s (from + i) 0) ≡ 0 → ReadSoFar f s from (i + 1) (set xs i (get_or s (from + i) 0))
  so-far-read h k e =
      let p : from + (i + 1) ≡ at + 1 = omega arith in
      record {
        few = r.few;
        there = λ some. omega arith;
        array = filled-set r.array (get_or s at 0) (omega (arith, r.few));
        rest = rw (p, so-far-next h) (rw (word_read (f.check (take i xs)) s at k e) at (so-far-turn h));
      }

  module _ (done : i ≡ n) where
    pub so-far-end : got (take n xs) (drop (from + n) s) ≡ whole
    so-far-end =
        let z : n - n ≡ 0 = omega arith in
        sym (f.none (take n xs) (drop (from + n) s)) ∙ rw z at (rw done at r.rest)

    pub so-far-filled : Filled max_attributes 0 xs n
    so-far-filled = rw done at r.array
