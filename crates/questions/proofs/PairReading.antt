-- Reading the pairs of a range table, one after the other.
--   pairs_of-none, pairs_of-turn, length-pairs_of, pairs_of-end == no pair; one pair and then the others; how many there are; one more
--   pair-missing, pair-cut, pair-wide, pair-high, pair-falls, pair-late, pair_read == how one pair is answered: its words are missing, or their values are too
--                      high; its lowest value is above its highest; it is not above the pair before; it is read
--   PairsSoFar      == i pairs are read, up to the place `at`; the rest will be what the definition reads
--   pairs-so-far-start, -refused, -read, -end, -there == before the first pair, at one that is refused, after one more, and after the last
use mathlib.Core.Path.{◌≡◌, refl, sym, ap, ◌∙◌}
use mathlib.Core.List.{List, [], ◌∷◌, ◌++◌}
use Prim.Native.Nat.{ℕ, zero, suc, ◌+◌, ◌-◌, ◌*◌, ◌^◌, ◌≤◌, ◌<◌}
use native.Mathlib.Numerals.{add-one}
use native.Mathlib.Omega.{arith}
use borrow.Author.Tests.{le-leb, lt-leb, lt-ltb, le-ltb}
use lib.ListN.{length, get_or, drop}
use Rattle.questions.specs.Questions.{Pair, Got, bad, got, then_g, value_check, highest_check, pair_in, pairs_in}
use Rattle.questions.specs.Directories.{pair_at, pairs_of}
use Rattle.questions.proofs.Reading.{word-missing, word-refused, word_read, then-refused}

pub pairs_of-none : (s : List ℕ) (b : ℕ) → pairs_of s b 0 ≡ []
unfolding pairs_of
pairs_of-none s b = refl

pub pairs_of-turn : (s : List ℕ) (b m : ℕ) → pairs_of s b (suc m) ≡ pair_at s b ∷ pairs_of s (b + 2) m
unfolding pairs_of
pairs_of-turn s b m = refl

pub length-pairs_of : (s : List ℕ) (b m : ℕ) → length (pairs_of s b m) ≡ m
unfolding pairs_of
length-pairs_of s b zero = refl
length-pairs_of s b (suc m) = ap suc (length-pairs_of s (b + 2) m)

pairs_of-end : (s : List ℕ) (b i : ℕ) → pairs_of s b (suc i) ≡ pairs_of s b i ++ (pair_at s (b + i * 2) ∷ [])
unfolding pairs_of
pairs_of-end s b zero = let e : b + 0 * 2 ≡ b = omega arith in rw e
pairs_of-end s b (suc i) = let e : b + suc i * 2 ≡ b + 2 + i * 2 = omega arith in rw e (ap (λ (l : List Pair). pair_at s b ∷ l) (pairs_of-end s (b + 2) i))

-- ---- one pair

module _ (s : List ℕ) (at w least : ℕ) where
  abbrev low : ℕ
  low = get_or s at 0

  abbrev high : ℕ
  high = get_or s (at + 1) 0

  abbrev one : Got Pair
  one = pair_in w least (drop at s)

  pub pair-missing : length s ≤ at → bad 3 ≡ one
  unfolding pair_in
  pair-missing h = rw (word-missing (value_check w) s at h)

  module _ (there : at < length s) where
    pub pair-wide : 2 ^ w ≤ low → bad 9 ≡ one
    unfolding pair_in
    pair-wide h = rw (word-refused (value_check w) s at there 8 (rw (le-leb (2 ^ w) low h)))

    module _ (inside : low < 2 ^ w) where
      first : value_check w low ≡ 0
      first = rw (lt-leb (2 ^ w) low inside)

      pub pair-cut : length s ≤ at + 1 → bad 3 ≡ one
      unfolding pair_in
      pair-cut h = rw (word_read (value_check w) s at there first, word-missing (highest_check w least low) s (at + 1) h)

      module _ (both : at + 1 < length s) where
        refused : (n : ℕ) → highest_check w least low high ≡ suc n → bad (suc n) ≡ one
        unfolding pair_in
        refused n e = rw (word_read (value_check w) s at there first, word-refused (highest_check w least low) s (at + 1) both n e)

        pub pair-high : 2 ^ w ≤ high → bad 9 ≡ one
        pair-high h = refused 8 (rw (le-leb (2 ^ w) high h))

        module _ (within : high < 2 ^ w) where
          pub pair-falls : high < low → bad 28 ≡ one
          pair-falls h = refused 27 (rw (lt-leb (2 ^ w) high within, lt-ltb high low h))

          module _ (ordered : low ≤ high) where
            pub pair-late : low < least → bad 10 ≡ one
            pair-late h = refused 9 (rw (lt-leb (2 ^ w) high within, le-ltb high low ordered, lt-ltb low least h))

            pub pair_read : least ≤ low → got (pair_at s at) (drop (at + 2) s) ≡ one
            unfolding pair_in
            pair_read h =
                let passes : highest_check w least low high ≡ 0 = rw (lt-leb (2 ^ w) high within, le-ltb high low ordered, le-ltb low least h) in
                let after : at + 1 + 1 ≡ at + 2 = omega arith in
                rw (word_read (value_check w) s at there first, word_read (highest_check w least low) s (at + 1) both passes, after)

-- ---- the pairs

pub record PairsSoFar (s : List ℕ) (from m w least at i : ℕ) : Type 0 where
  pub place : at ≡ from + i * 2
  pub there : from ≤ length s → at ≤ length s
  pub rest : pairs_in (m - i) w least (pairs_of s from i) (drop at s) ≡ pairs_in m w 0 [] (drop from s)

pub pairs-so-far-start : (s : List ℕ) (from m w : ℕ) → PairsSoFar s from m w 0 from 0
unfolding pairs_of
pairs-so-far-start s from m w =
    let e : m - 0 ≡ m = omega arith in
    record { place = omega arith; there = λ h. h; rest = rw e }

module _ {s : List ℕ} {from m w least at i : ℕ} (r : PairsSoFar s from m w least at i) where
  abbrev whole : Got (List Pair)
  whole = pairs_in m w 0 [] (drop from s)

  module _ (left : i < m) where
    pairs-turn : then_g (pair_in w least (drop at s)) (λ p t. pairs_in (m - (i + 1)) w (suc p.highest) (pairs_of s from i ++ (p ∷ [])) t) ≡ whole
    unfolding pairs_in
    pairs-turn = let e : m - i ≡ suc (m - (i + 1)) = omega arith in rw e at r.rest

    pub pairs-so-far-refused : {n : ℕ} → bad n ≡ pair_in w least (drop at s) → bad n ≡ whole
    pairs-so-far-refused e = then-refused _ e ∙ pairs-turn

    pub pairs-so-far-read : {next : ℕ} → got (pair_at s at) (drop (at + 2) s) ≡ pair_in w least (drop at s) → next ≡ suc (get_or s (at + 1) 0) → at + 2 ≤ length s
        → PairsSoFar s from m w next (at + 2) (i + 1)
    pairs-so-far-read read next there =
        let more : pairs_of s from (i + 1) ≡ pairs_of s from i ++ (pair_at s at ∷ []) = rw (add-one i, r.place) (pairs_of-end s from i) in
        record { place = omega (arith, r.place); there = λ h. there; rest = rw (more, next) (rw (sym read) at pairs-turn) }

-- after the last pair
module _ {s : List ℕ} {from m w least at i : ℕ} (r : PairsSoFar s from m w least at i) (done : i ≡ m) where
  last-place : from + m * 2 ≡ at
  last-place = omega (arith, r.place)

  pub pairs-so-far-end : got (pairs_of s from m) (drop (from + m * 2) s) ≡ pairs_in m w 0 [] (drop from s)
  unfolding pairs_in
  pairs-so-far-end =
      let z : m - m ≡ 0 = omega arith in
      rw last-place (rw z at (rw done at r.rest))

  pub pairs-so-far-there : from ≤ length s → from + m * 2 ≤ length s
  pairs-so-far-there b = rw last-place (r.there b)
