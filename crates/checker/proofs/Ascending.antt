-- What `is_sorted_by` answers of a listing's tuples: whether each is before the next.
--   less-before == of two lists of one length, what std answers by `<`
--   ascends-is  == of the tuples as they come out of the words
use Rattle.std.proofs.Common.{◌≡◌, refl, sym, ap, ap₂, ◌∙◌, ℕ, zero, suc, ◌+◌, ◌*◌, ◌/◌, ◌≤◌, ◌<◌, Bool, true, false, eqb, ltb, Option, Some, None, List, [], ◌∷◌, length, get_or, take, drop, add-one, arith}
use denote.Ref.{Bor}
use Rattle.std.specs.Slice.Iter.{chunks_exact_rest, chunks_exact_size, chunks_exact_steps}
use Rattle.std.specs.Bool.{OnTrue}
use Rattle.std.specs.Option.{option_map, IfSome}
use Rattle.std.specs.List.{IsSubsliceAt}
use Rattle.std.specs.Iterator.Runs.{Run, IsChunksExactRun}
use Rattle.std.specs.Iterator.Order.{IsSortedAnswer}
use Rattle.std.proofs.lemmas.Nat.{le-div}
use Rattle.std.specs.Ordering.{nat_cmp, partial_lt}
use Rattle.std.specs.Cmp.Lexicographic.{slice_partial_cmp}
use Rattle.boxes.proofs.Tests.{by}
use Rattle.questions.specs.Orders.{before}
use Rattle.questions.proofs.Laws.{length-rows_of, rows_of-at}
use Rattle.checker.specs.Checks.{ascending, part_count, read_tuples}
use Rattle.checker.proofs.Checking.{parts_are}

pub less-before : (xs ys : List ℕ) → length xs ≡ length ys → partial_lt (slice_partial_cmp (λ (x y : ℕ). Some (nat_cmp x y))) xs ys ≡ before xs ys
unfolding before
less-before [] [] e = refl
less-before [] (y ∷ ys) e = absurd (omega arith)
less-before (x ∷ xs) [] e = absurd (omega arith)
less-before (x ∷ xs) (y ∷ ys) e =
    by (ltb x y)
    (λ t. rw t)
    (λ f. by (eqb x y) (λ t. rw (f, t) (less-before xs ys (omega arith))) (λ g. rw (f, g)))

-- stands past the items, where nothing is read
nowhere : Bor (List ℕ)
nowhere = record { ref_ptr = (0, 0); now = [] }

-- each is before the next, or one is not
ascending-all : (ts : List (List ℕ)) → ((k : ℕ) → suc k < length ts → before (get_or ts k []) (get_or ts (suc k) []) ≡ true) → ascending ts ≡ true
unfolding ascending
ascending-all [] h = refl
ascending-all (p ∷ []) h = refl
ascending-all (p ∷ r ∷ ts) h = rw (h 0 (omega arith)) (ascending-all (r ∷ ts) (λ k l. h (suc k) (omega arith)))

ascending-not : (ts : List (List ℕ)) (k : ℕ) → suc k < length ts → before (get_or ts k []) (get_or ts (suc k) []) ≡ false → ascending ts ≡ false
unfolding ascending
ascending-not [] k h f = absurd (omega arith)
ascending-not (p ∷ []) k h f = absurd (omega arith)
ascending-not (p ∷ r ∷ ts) zero h f = rw f
ascending-not (p ∷ r ∷ ts) (suc k) h f = by (before p r) (λ t. rw t (ascending-not (r ∷ ts) k (omega arith) f)) (λ g. rw g)

-- ---- as they come out of the words

module _ (n : ℕ) (l : List ℕ) (some : 1 ≤ n) (p : Run (chunks_exact_steps {A = ℕ})) (parts : IsChunksExactRun p n l) where
  abbrev ts : List (List ℕ)
  ts = read_tuples n l

  count : length (read_tuples n l) ≡ length l / n
  count = length-rows_of l 0 n (part_count n l) ∙ sym (parts_are n l some)

  few : p.len ≤ length (read_tuples n l)
  few = omega (arith, count, le-div p.len (length l) n some parts.0)

  -- the item at a place is the tuple there
  item_is : (k : ℕ) (d : Bor (List ℕ)) → k < p.len → (length (get_or p.items k d).now ≡ n) × ((get_or p.items k d).now ≡ get_or (read_tuples n l) k [])
  item_is k d h = go (p.at k) (get_or p.items k d) (p.reads k d h) (parts.2 k)
    where
      go : (o : Option (Bor (List ℕ))) (y : Bor (List ℕ)) → option_map (λ (x : Bor (List ℕ)). x) o ≡ Some y
          → IfSome o (λ x. (length x.now ≡ n) × (k * n + n ≤ length l) × IsSubsliceAt n l (k * n) x.now)
          → (length y.now ≡ n) × (y.now ≡ get_or (read_tuples n l) k [])
      go (Some x) y e f =
          let is : x ≡ y = cc in
          let at : 0 + k * n ≡ k * n = omega arith in
          rw (← is) (f.0, f.2.0 ∙ sym (rows_of-at l 0 n (part_count n l) k (omega (arith, few, length-rows_of l 0 n (part_count n l))) ∙ ap (λ (b : ℕ). take n (drop b l)) at))
      go None y e f = absurd cc

  before_is : (k : ℕ) (d : Bor (List ℕ)) → k + 1 < p.len
      → partial_lt (slice_partial_cmp (λ (x y : ℕ). Some (nat_cmp x y))) (get_or p.items k d).now (get_or p.items (k + 1) d).now
      ≡ before (get_or (read_tuples n l) k []) (get_or (read_tuples n l) (suc k) [])
  before_is k d h =
      let one = item_is k d (omega arith) in
      let next = item_is (k + 1) d h in
      less-before _ _ (omega (arith, one.0, next.0)) ∙ ap₂ before one.1 (next.1 ∙ ap (λ (i : ℕ). get_or ts i []) (add-one k))

  ascends : (r : Bool) → OnTrue r (p.whole ≡ true)
      → IsSortedAnswer (λ (x y : Bor (List ℕ)). partial_lt (slice_partial_cmp (λ (x y : ℕ). Some (nat_cmp x y))) x.now y.now) p.items r
      → r ≡ ascending (read_tuples n l)
  ascends true whole answer =
      sym (ascending-all ts (λ k h. sym (before_is k nowhere (omega (arith, parts.1 whole, count))) ∙ (answer.1 k nowhere (omega (arith, parts.1 whole, count, p.long))).1))
  ascends false whole answer =
      let at : answer.0.0 + 1 < p.len = omega (arith, p.long, answer.0.1) in
      sym (ascending-not ts answer.0.0 (omega (arith, few, at)) (sym (before_is answer.0.0 nowhere at) ∙ answer.0.2 nowhere))

pub ascends-is : (n : ℕ) (l : List ℕ) → 1 ≤ n → (p : Run (chunks_exact_steps {A = ℕ})) → chunks_exact_rest p.from ≡ l → chunks_exact_size p.from ≡ n
    → (0 < chunks_exact_size p.from → IsChunksExactRun p (chunks_exact_size p.from) (chunks_exact_rest p.from))
    → (r : Bool) → OnTrue r (p.whole ≡ true)
    → IsSortedAnswer (λ (x y : Bor (List ℕ)). partial_lt (slice_partial_cmp (λ (x y : ℕ). Some (nat_cmp x y))) x.now y.now) p.items r
    → r ≡ ascending (read_tuples n l)
ascends-is n l some p rest size parts =
    let here : IsChunksExactRun p n l = rw (rest, size) at (parts (omega arith)) in
    ascends n l some p here
