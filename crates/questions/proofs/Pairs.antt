-- The pairs of a range table: what is read is good, and good pairs are read back from their words.
--   pair_in-yields, pairs_in-yields == what the readers give; of pairs: PairsRead
--   pair_in-good, pairs_in-good     == good pairs are read, after what was read before them, and the words that follow are left
use mathlib.Core.Path.{◌≡◌, refl, ◌∙◌}
use mathlib.Core.List.{List, [], ◌∷◌, ◌++◌, map, append_assoc, append-nil}
use Prim.Native.Nat.{ℕ, zero, suc, ◌+◌, ◌^◌, ◌≤◌, ◌<◌}
use native.Mathlib.Omega.{arith}
use borrow.Author.Tests.{ltb-false, lt-leb, le-ltb}
use lib.Dec.{ltb}
use lib.ListN.{length}
use Rattle.boxes.specs.Fits.{Each, none, more}
use Rattle.boxes.proofs.Lists.{length-end, each-end, each-imp}
use Rattle.questions.specs.Orders.{is_in}
use Rattle.questions.specs.Good.{Ordered, GoodPair, Apart}
use Rattle.questions.specs.Questions.{Pair, got, when, value_check, highest_check, pair_in, pairs_in}
use Rattle.questions.specs.Words.{flat, pair_words}
use Rattle.questions.proofs.OrderedLists.{ordered_end}
use Rattle.questions.proofs.Readers.{value_check-check}
use Rattle.questions.proofs.Reading.{word_in-passes, then_is}
use Rattle.questions.proofs.Yields.{Yields, gives, yields-then, yields-map, Check, check-when, check-first, check-map, word_in-yields}

-- ---- what is read

highest_check-check : (w least low high : ℕ) → Check ((high < 2 ^ w) × ((low ≤ high) × (least ≤ low))) (highest_check w least low high)
unfolding is_in
highest_check-check w least low high =
    check-first (value_check w high) _ (value_check-check w high)
    (check-first (when (ltb high low) 28) _
    (check-map (ltb-false high low) (check-when (ltb high low) 28 refl))
    (check-map (ltb-false low least) (check-when (ltb low least) 10 refl)))

pair_in-yields : (w least : ℕ) (s : List ℕ) → Yields (λ p t. GoodPair w p × (least ≤ p.lowest)) (pair_in w least s)
unfolding pair_in
pair_in-yields w least s =
    yields-then (word_in-yields s (value_check-check w)) (λ low t l.
    yields-then (word_in-yields t (highest_check-check w least low)) (λ high u h.
    gives (record { lowest = low; highest = high }) u (record { ordered = h.1.1.0; within = h.1.0 }, h.1.1.1)))

-- the pairs qs were read, l of them, after the pairs ps; `least` is the least number above these
pub record PairsRead (l w least : ℕ) (ps qs : List Pair) : Type 0 where
  pub long : length qs ≡ length ps + l
  pub within : Each (GoodPair w) ps → Each (GoodPair w) qs
  pub apart : Each (λ p. p.highest < least) ps → Apart ps → Apart qs

pub pairs_in-yields : (l w least : ℕ) (ps : List Pair) (s : List ℕ) → Yields (λ qs t. PairsRead l w least ps qs) (pairs_in l w least ps s)
unfolding pairs_in
pairs_in-yields zero w least ps s = gives ps s (record { long = omega arith; within = λ h. h; apart = λ h o. o })
pairs_in-yields (suc l) w least ps s =
    yields-then (pair_in-yields w least s) (λ p t h.
    yields-map (λ qs u k.
    let low : least ≤ p.lowest = h.1 in
    let high : p.lowest ≤ p.highest = h.0.ordered in
    record {
      long = omega (arith, k.long, length-end ps p);
      within = λ e. k.within (each-end e h.0);
      apart = λ e o.
          k.apart (each-end (each-imp (λ x (m : x.highest < least). omega arith) e) (omega arith))
          (ordered_end o (each-imp (λ x (m : x.highest < least). omega arith) e));
    })
    (pairs_in-yields l w (suc p.highest) (ps ++ (p ∷ [])) t))

-- ---- what is written

pair_in-good : (w least : ℕ) (p : Pair) (s : List ℕ) → GoodPair w p → least ≤ p.lowest → pair_in w least (pair_words p ++ s) ≡ got p s
unfolding pair_in
pair_in-good w least p s good low =
    let lowest : value_check w p.lowest ≡ 0 = rw (lt-leb (2 ^ w) p.lowest (omega (arith, good.ordered, good.within))) in
    let highest : highest_check w least p.lowest p.highest ≡ 0 = rw (lt-leb (2 ^ w) p.highest good.within, le-ltb p.highest p.lowest good.ordered, le-ltb p.lowest least low) in
    then_is _ (word_in-passes (value_check w) p.lowest (p.highest ∷ s) lowest)
    ∙ then_is _ (word_in-passes (highest_check w least p.lowest) p.highest s highest)

pub pairs_in-good : (w least : ℕ) (qs : List Pair) {ps : List Pair} (s : List ℕ) → Each (GoodPair w) ps → Apart ps → Each (λ p. least ≤ p.lowest) ps
    → pairs_in (length ps) w least qs (flat (map pair_words ps) ++ s) ≡ got (qs ++ ps) s
unfolding pairs_in flat
pairs_in-good w least qs s none Ordered.none none = rw append-nil
pairs_in-good w least qs s (more {x = p} {xs = ps} h within) (Ordered.more later apart) (more low lows) =
    rw (append_assoc (pair_words p) (flat (map pair_words ps)) s)
    (then_is _ (pair_in-good w least p (flat (map pair_words ps) ++ s) h low) ∙ rw append_assoc at (pairs_in-good w (suc p.highest) (qs ++ (p ∷ [])) s within apart later))
