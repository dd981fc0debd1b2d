-- A row's place among ascending rows: how two rows are compared, and what the search by halves keeps.
--   compared-first, compared-same == how two rows compare, by the first value that differs; where none does
--   OrderSays xs ys o, order-says == what an order says of two rows; it is so for rows of the same length
--   insert-place          == a row put in at p, if the rows below p are before it and the next one is after it
--   insert-same           == a row that is there
--   Between l r low high  == the rows below low are before r, and those from high on are after it
--   between_start         == at first that is said of no row
--   between-before, between-after == one row, before or after r, halves what is left
--   between-end, between-there    == the place, where nothing is left; a row that is there
use mathlib.Core.Path.{◌≡◌, refl, sym, ap, ap₂, ◌∙◌}
use mathlib.Core.Bool.{true, ◌&&◌}
use mathlib.Core.List.{List, [], ◌∷◌, ◌++◌}
use Prim.Native.Nat.{ℕ, zero, suc, ◌≤◌, ◌<◌, zero-le}
use native.Mathlib.Omega.{arith}
use borrow.Author.Tests.{ltb-true, ltb-false, lt-ltb, eq-eqb}
use lib.Dec.{eqb, ltb}
use lib.ListN.{length, get_or, take, drop}
use Rattle.std.specs.Prelude.{Ok, Err}
use Rattle.std.specs.declared.cmp.Ordering.{Ordering}
use Rattle.std.specs.declared.cmp.Ordering.TheVariants.{Less, Equal, Greater}
use Rattle.std.specs.Ordering.{MatchOrdering, nat_cmp, ordering_then}
use Rattle.std.specs.Cmp.Lexicographic.{slice_cmp}
use Rattle.std.specs.Cmp.{nat_cmp_is}
use Rattle.std.proofs.lemmas.Cmp.{ranked}
use Rattle.boxes.proofs.Tests.{by, and_both, or_left, or_right}
use Rattle.boxes.proofs.Lists.{each_at}
use Rattle.questions.specs.Orders.{before}
use Rattle.questions.specs.Good.{Ordered, Sorted}
use Rattle.questions.proofs.Laws.{same_refl, before-itself, before-trans, before-not, before-differs}
use Rattle.questions.proofs.OrderedLists.{ordered_at}
use Rattle.csv_tables.specs.Imports.{insert_row}
use Rattle.csv_tables.specs.Keeping.{PlaceSays}
use Rattle.csv_tables.proofs.Sorting.{insert-none, insert-first, insert-there, insert-past}

-- ---- two rows compared

abbrev pub OrderSays : List ℕ → List ℕ → Ordering → Type 0
OrderSays xs ys Less = before xs ys ≡ true
OrderSays xs ys Equal = xs ≡ ys
OrderSays xs ys Greater = before ys xs ≡ true

module _ (x y : ℕ) (xs ys : List ℕ) where
  first-before : x < y → before (x ∷ xs) (y ∷ ys) ≡ true
  unfolding before
  first-before h = or_left (eqb x y && before xs ys) (lt-ltb x y h)

  later-before : x ≡ y → before xs ys ≡ true → before (x ∷ xs) (y ∷ ys) ≡ true
  unfolding before
  later-before e b = or_right (ltb x y) (and_both (eq-eqb x y e) b)

-- the first value that differs decides
pub compared-first : (o : Ordering) (xs ys : List ℕ) → length xs ≡ length ys → (i : ℕ) → i < length xs → ((k : ℕ) → k < i → get_or xs k 0 ≡ get_or ys k 0)
    → nat_cmp (get_or xs i 0) (get_or ys i 0) ≡ o → ((p : Ordering) → ordering_then o p ≡ o) → slice_cmp nat_cmp xs ys ≡ o
compared-first o [] ys e i h same is first = absurd (omega arith)
compared-first o (x ∷ xs) [] e i h same is first = absurd (omega arith)
compared-first o (x ∷ xs) (y ∷ ys) e zero h same is first = ap (λ (q : Ordering). ordering_then q (slice_cmp nat_cmp xs ys)) is ∙ first (slice_cmp nat_cmp xs ys)
compared-first o (x ∷ xs) (y ∷ ys) e (suc i) h same is first =
    ap (λ (q : Ordering). ordering_then q (slice_cmp nat_cmp xs ys)) (sym (nat_cmp_is x y Equal (same 0 (omega arith))))
    ∙ compared-first o xs ys (omega arith) i (omega arith) (λ k l. same (suc k) (omega arith)) is first

pub compared-same : (xs ys : List ℕ) → length xs ≡ length ys → ((k : ℕ) → k < length xs → get_or xs k 0 ≡ get_or ys k 0) → slice_cmp nat_cmp xs ys ≡ Equal
compared-same [] [] e same = refl
compared-same [] (y ∷ ys) e same = absurd (omega arith)
compared-same (x ∷ xs) [] e same = absurd (omega arith)
compared-same (x ∷ xs) (y ∷ ys) e same =
    ap (λ (q : Ordering). ordering_then q (slice_cmp nat_cmp xs ys)) (sym (nat_cmp_is x y Equal (same 0 (omega arith))))
    ∙ compared-same xs ys (omega arith) (λ k l. same (suc k) (omega arith))

-- the first values, and then the others
then-says : (x y : ℕ) (xs ys : List ℕ) (o p : Ordering) → MatchOrdering o (x < y) (x ≡ y) (y < x) → OrderSays xs ys p → OrderSays (x ∷ xs) (y ∷ ys) (ordering_then o p)
then-says x y xs ys Less p h s = first-before x y xs ys h
then-says x y xs ys Equal Less h s = later-before x y xs ys h s
then-says x y xs ys Equal Equal h s = ap₂ ◌∷◌ h s
then-says x y xs ys Equal Greater h s = later-before y x ys xs (sym h) s
then-says x y xs ys Greater p h s = first-before y x ys xs h

pub order-says : (xs ys : List ℕ) → length xs ≡ length ys → OrderSays xs ys (slice_cmp nat_cmp xs ys)
order-says [] [] e = refl
order-says [] (y ∷ ys) e = absurd (omega arith)
order-says (x ∷ xs) [] e = absurd (omega arith)
order-says (x ∷ xs) (y ∷ ys) e = then-says x y xs ys (nat_cmp x y) (slice_cmp nat_cmp xs ys) (ranked x y (nat_cmp x y) refl) (order-says xs ys (omega arith))

-- ---- a row put in at its place

module _ (r : List ℕ) where
  -- a row that is after the first is put into the others
  insert-later : (x : List ℕ) (xs : List (List ℕ)) → before x r ≡ true → insert_row r (x ∷ xs) ≡ x ∷ insert_row r xs
  insert-later x xs t = insert-past r x xs (before-not x r t) (before-differs x r t)

  pub insert-place : (l : List (List ℕ)) (p : ℕ) → p ≤ length l → ((k : ℕ) → k < p → before (get_or l k []) r ≡ true)
      → (p < length l → before r (get_or l p []) ≡ true) → insert_row r l ≡ take p l ++ (r ∷ drop p l)
  insert-place [] zero h below above = insert-none r
  insert-place [] (suc p) h below above = absurd (omega arith)
  insert-place (x ∷ xs) zero h below above = insert-first r x xs (above (omega arith))
  insert-place (x ∷ xs) (suc p) h below above =
      insert-later x xs (below 0 (omega arith))
      ∙ ap (λ (m : List (List ℕ)). x ∷ m) (insert-place xs p (omega arith) (λ k a. below (suc k) (omega arith)) (λ a. above (omega arith)))

  pub insert-same : {l : List (List ℕ)} → Sorted l → (k : ℕ) → k < length l → get_or l k [] ≡ r → insert_row r l ≡ l
  insert-same Ordered.none k h e = absurd (omega arith)
  insert-same (Ordered.more {x = x} {xs = xs} later o) zero h e =
      insert-there r x xs (rw e (before-itself r)) (rw e (same_refl r))
  insert-same (Ordered.more {x = x} {xs = xs} later o) (suc k) h e =
      insert-later x xs (rw (sym e) (each_at later k [] (omega arith)))
      ∙ ap (λ (m : List (List ℕ)). x ∷ m) (insert-same o k (omega arith) e)

-- ---- the search by halves

pub record Between (l : List (List ℕ)) (r : List ℕ) (low high : ℕ) : Type 0 where
  pub ends : low ≤ high
  pub most : high ≤ length l
  pub below : (k : ℕ) → k < low → before (get_or l k []) r ≡ true
  pub above : (k : ℕ) → high ≤ k → k < length l → before r (get_or l k []) ≡ true

pub between_start : (l : List (List ℕ)) (r : List ℕ) (n : ℕ) → length l ≡ n → Between l r 0 n
between_start l r n e = record { ends = zero-le; most = omega arith; below = λ k h. absurd (omega arith); above = λ k h i. absurd (omega arith) }

module _ {l : List (List ℕ)} {r : List ℕ} {low high : ℕ} (sorted : Sorted l) (b : Between l r low high) where
  -- all rows up to one that is before r are
  pub between-before : (m : ℕ) → low ≤ m → m < high → before (get_or l m []) r ≡ true → Between l r (suc m) high
  between-before m h i t =
      record {
        ends = omega arith;
        most = b.most;
        below = λ k a. by (ltb k m)
            (λ u. before-trans (get_or l k []) (get_or l m []) r (ordered_at sorted k m [] (ltb-true k m u) (omega (arith, b.most))) t)
            (λ u. let e : k ≡ m = omega (arith, ltb-false k m u) in rw e t);
        above = b.above;
      }

  pub between-after : (m : ℕ) → low ≤ m → m < high → before r (get_or l m []) ≡ true → Between l r low m
  between-after m h i t =
      record {
        ends = h;
        most = omega (arith, b.most);
        below = b.below;
        above = λ k a u. by (ltb m k)
            (λ v. before-trans r (get_or l m []) (get_or l k []) t (ordered_at sorted m k [] (ltb-true m k v) u))
            (λ v. let e : k ≡ m = omega (arith, ltb-false m k v) in rw e t);
      }

  pub between-end : high ≤ low → PlaceSays l r (Err low)
  between-end h = (omega (arith, b.ends, b.most), insert-place r l low (omega (arith, b.ends, b.most)) b.below (λ a. b.above low h a))

  pub between-there : (m : ℕ) → m < high → get_or l m [] ≡ r → PlaceSays l r (Ok m)
  between-there m h e = insert-same r sorted m (omega (arith, b.most)) e
