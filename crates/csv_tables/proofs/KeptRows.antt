-- Rows kept one after the other in words, with their order beside them.
--   row-end, row-long, row-part == a row of the first m ends among their words; it has k values; a row as the code takes it
--   kept-long           == how many rows the first of an order are
--   row_new, row_old, kept-old == the words with a row more: it is read there, and the rows before it are as before
--   compared            == how a row of the order stands to another
--   sourced-long        == a row has as many values as columns
--   put-each, put_map   == a number put into an order: what holds of each number, and the rows of the numbers
--   keep-room, keep-long, keep-ends == the room for one row more; the rows kept are so many, and end among the words
--   row-written         == a row written among the words, as the code does it
--   added-same, added-row, added-sorted == the words with one row more: how many they are, the row, the rows kept ascend
--   taken-ends, taken-sorted, taken-place == the same for the row as the code takes it
--   keep-many, keep-there, keep-full, keep_at == one row more: there were too many, it is there, then there are too many, it is put in
use mathlib.Core.Path.{◌≡◌, refl, sym, ap, ap₂, subst, ◌∙◌}
use mathlib.Core.List.{List, [], ◌∷◌, ◌++◌, map, append_assoc}
use Prim.Native.Nat.{ℕ, zero, suc, ◌+◌, ◌-◌, ◌*◌, ◌≤◌, ◌<◌}
use native.Mathlib.Nat.{suc-mul, mul-le-mul, mul-le-mul_right}
use native.Mathlib.Numerals.{add-one}
use native.Mathlib.Omega.{arith}
use borrow.Rule.Slice.PartMut.{put_mid}
use Rattle.std.specs.Prelude.{None, Some, Result, Ok, Err}
use Rattle.std.specs.declared.cmp.Ordering.{Ordering}
use Rattle.std.specs.Ordering.{nat_cmp}
use Rattle.std.specs.Cmp.Lexicographic.{slice_cmp}
use Rattle.std.proofs.lemmas.Slice.{put_mid-paste}
use lib.ListN.{length, get_or, take, drop, length-append, length-drop, length-map, take-append-drop}
use lib.Seq.{length-take-le, take-take, take-add, take_at, drop_at, take_all, paste, length-paste}
use Rattle.boxes.specs.Limits.{max_attributes}
use Rattle.boxes.specs.Fits.{Each, none, more}
use Rattle.boxes.proofs.Lists.{get_d_map, each-end, each-imp}
use Rattle.questions.specs.Limits.{max_rows}
use Rattle.questions.specs.Good.{Sorted}
use Rattle.csv_tables.specs.Columns.{sourced}
use Rattle.csv_tables.specs.Imports.{insert_row, sort_rows}
use Rattle.csv_tables.specs.Keeping.{rows_words, row_at, rows_in, kept_rows, put_in, PlaceSays, RowsKept}
use Rattle.csv_tables.proofs.Sorting.{sort_sorted}
use Rattle.csv_tables.proofs.Placing.{OrderSays, order-says}
use Rattle.csv_tables.proofs.Ordering.{sort-end, insert-grows}

-- ---- rows in words

module _ (k : ℕ) where
  pub row-end : (i m : ℕ) → i < m → i * k + k ≤ m * k
  row-end i m h = omega (arith, suc-mul i k, mul-le-mul_right {m = suc i} {n = m} k h)

  pub row-long : (w : List ℕ) (i : ℕ) → i * k + k ≤ length w → length (row_at w k i) ≡ k
  row-long w i h = length-take-le k (drop (i * k) w) (omega (arith, length-drop (i * k) w))

  -- as the code takes it
  pub row-part : (w : List ℕ) (i : ℕ) → take (i * k + k - i * k) (drop (i * k) w) ≡ row_at w k i
  row-part w i = let e : i * k + k - i * k ≡ k = omega arith in ap (λ (n : ℕ). take n (drop (i * k) w)) e

  pub kept-long : (w o : List ℕ) (m : ℕ) → m ≤ length o → length (kept_rows k w o m) ≡ m
  kept-long w o m l = length-map (take m o) (row_at w k) ∙ length-take-le m o l

  -- a row as the end of the words up to its own end
  row-front : (w : List ℕ) (a : ℕ) → a ≤ length w → take k (drop a w) ≡ drop a (take (a + k) w)
  row-front w a h =
      sym (drop_at (take a w) (take k (drop a w)) a (length-take-le a w h))
      ∙ ap (drop a) (sym (take-add a k w))

  row_same : (w v : List ℕ) (a n : ℕ) → a + k ≤ n → a ≤ length w → a ≤ length v → take n v ≡ take n w → take k (drop a v) ≡ take k (drop a w)
  row_same w v a n h i j e =
      row-front v a j
      ∙ ap (drop a) (sym (take-take (a + k) n v h) ∙ ap (take (a + k)) e ∙ take-take (a + k) n w h)
      ∙ sym (row-front w a i)

  -- the row r written as number m
  module _ (w r : List ℕ) (m : ℕ) (room : m * k + k ≤ length w) (long : length r ≡ k) where
    pub row_new : row_at (paste w (m * k) r k) k m ≡ r
    row_new =
        let front : List ℕ = take (m * k) w in
        let rest : List ℕ = drop (m * k + k) w in
        ap (λ (l : List ℕ). take k (drop (m * k) l)) (append_assoc front (take k r) rest)
        ∙ ap (take k) (drop_at front (take k r ++ rest) (m * k) (length-take-le (m * k) w (omega arith)))
        ∙ take_at (take k r) rest k (length-take-le k r (omega arith))
        ∙ take_all k r (omega arith)

    pub row_old : (i : ℕ) → i < m → row_at (paste w (m * k) r k) k i ≡ row_at w k i
    row_old i h =
        let front : List ℕ = take (m * k) w in
        let rest : List ℕ = drop (m * k + k) w in
        let ends : i * k + k ≤ m * k = row-end i m h in
        row_same w (paste w (m * k) r k) (i * k) (m * k) ends (omega arith)
        (omega (arith, length-paste w (m * k) r k room (omega arith)))
        (ap (take (m * k)) (append_assoc front (take k r) rest) ∙ take_at front (take k r ++ rest) (m * k) (length-take-le (m * k) w (omega arith)))

    pub kept-old : {o : List ℕ} → Each (λ i. i < m) o → map (row_at (paste w (m * k) r k) k) o ≡ map (row_at w k) o
    kept-old none = refl
    kept-old (more {x = i} h e) = ap₂ ◌∷◌ (row_old i h) (kept-old e)

-- a row of the order against another of the same length
pub compared : (k : ℕ) (w o row : List ℕ) (i : ℕ) → i < length o → suc (get_or o i 0) * k ≤ length w → length row ≡ k
    → {p : Ordering} → p ≡ slice_cmp nat_cmp (take (get_or o i 0 * k + k - get_or o i 0 * k) (drop (get_or o i 0 * k) w)) row → OrderSays (get_or (rows_in k w o) i []) row p
compared k w o row i h e long {p} is =
    let at : List ℕ = row_at w k (get_or o i 0) in
    let here : get_or (rows_in k w o) i [] ≡ at = get_d_map (row_at w k) o i 0 [] h in
    let same : p ≡ slice_cmp nat_cmp at row = is ∙ ap (λ (r : List ℕ). slice_cmp nat_cmp r row) (row-part k w (get_or o i 0)) in
    rw (here, same) (order-says at row (row-long k w (get_or o i 0) (omega (arith, e, suc-mul (get_or o i 0) k)) ∙ sym long))

pub sourced-long : (xs vs : List ℕ) → length (sourced xs vs) ≡ length xs
sourced-long xs vs = length-map xs (λ i. get_or vs i 0)

-- a row written among the words, as the code does it
pub row-written : (k m : ℕ) (w r : List ℕ) {z : List ℕ} → z ≡ r → length r ≡ k → put_mid (m * k) (m * k + k - m * k) w z ≡ paste w (m * k) r k
row-written k m w r {z} e long = put_mid-paste (m * k) (m * k + k - m * k) w z r k e (omega arith) (sym long)

-- ---- a number put into an order

pub put-each : {P : ℕ → Type 0} (p x : ℕ) {o : List ℕ} → P x → Each P o → Each P (put_in p x o)
put-each zero x h e = more h e
put-each (suc p) x h none = more h none
put-each (suc p) x h (more a e) = more a (put-each p x h e)

pub put_map : (f : ℕ → List ℕ) (p x : ℕ) (o : List ℕ) → map f (put_in p x o) ≡ take p (map f o) ++ (f x ∷ drop p (map f o))
put_map f zero x o = refl
put_map f (suc p) x [] = refl
put_map f (suc p) x (y ∷ o) = ap (λ (l : List (List ℕ)). f y ∷ l) (put_map f p x o)

put-long : (p : ℕ) (l : List (List ℕ)) (r : List ℕ) → length (take p l ++ (r ∷ drop p l)) ≡ suc (length l)
put-long p l r =
    length-append (take p l) (r ∷ drop p l)
    ∙ omega (arith, length-append (take p l) (drop p l), ap length (take-append-drop p l))

-- ---- the rows kept, and one row more

-- there were too many
pub keep-many : {k : ℕ} {w o : List ℕ} {rs : List (List ℕ)} → RowsKept k w o None rs → (r : List ℕ) → length r ≡ k → RowsKept k w o None (rs ++ (r ∷ []))
keep-many {rs = rs} kept r long = record {
  arity = kept.arity;
  rows_long = kept.rows_long;
  order-long = kept.order-long;
  long = each-end kept.long long;
  is = rw (sort-end r kept.long long) (omega (arith, kept.is, (insert-grows r (sort_rows rs)).0));
}

module _ (k : ℕ) (w o : List ℕ) (m : ℕ) (rs : List (List ℕ)) (kept : RowsKept k w o (Some m) rs) where
  pub keep-room : m * k + k ≤ length w
  keep-room = omega (arith, kept.rows_long, suc-mul m k, mul-le-mul {n₁ = suc m} {m₁ = k} {n₂ = suc max_rows} {m₂ = max_attributes} (omega (arith, kept.is.0)) kept.arity)

  pub keep-long : length (kept_rows k w o m) ≡ m
  keep-long = kept-long k w o m (omega (arith, kept.order-long, kept.is.0))

  keep-sorted : Sorted (kept_rows k w o m)
  keep-sorted = rw kept.is.2 (sort_sorted kept.long)

  -- each of them ends among the words
  pub keep-ends : (v : List ℕ) → length v ≡ length w → Each (λ i. suc i * k ≤ length v) (take m o)
  keep-ends v same = each-imp (λ i h. omega (arith, keep-room, suc-mul m k, mul-le-mul_right {m = suc i} {n = m} k h)) kept.is.1

  -- v are the words with the row r
  module _ (r : List ℕ) (long : length r ≡ k) (v : List ℕ) (written : v ≡ paste w (m * k) r k) where
    all-long : Each (λ z. length z ≡ k) (rs ++ (r ∷ []))
    all-long = each-end kept.long long

    one_more : sort_rows (rs ++ (r ∷ [])) ≡ insert_row r (sort_rows rs)
    one_more = sort-end r kept.long long

    pub added-same : length v ≡ length w
    added-same = ap length written ∙ length-paste w (m * k) r k keep-room (omega arith)

    added-long : length v ≡ rows_words
    added-long = added-same ∙ kept.rows_long

    pub added-row : row_at v k m ≡ r
    added-row = ap (λ (l : List ℕ). row_at l k m) written ∙ row_new k w r m keep-room long

    added-rows : kept_rows k v o m ≡ kept_rows k w o m
    added-rows = ap (λ (l : List ℕ). kept_rows k l o m) written ∙ kept-old k w r m keep-room long kept.is.1

    added_is : kept_rows k v o m ≡ sort_rows rs
    added_is = added-rows ∙ kept.is.2

    pub added-sorted : Sorted (kept_rows k v o m)
    added-sorted = rw added-rows keep-sorted

    -- the row as the code takes it
    module _ {t : List ℕ} (is : t ≡ r) where
      taken-long : length t ≡ k
      taken-long = ap length is ∙ long

      pub taken-ends : Each (λ i. suc i * length t ≤ length v) (take m o)
      taken-ends = rw taken-long (keep-ends v added-same)

      pub taken-sorted : Sorted (rows_in (length t) v (take m o))
      taken-sorted = rw taken-long added-sorted

      pub taken-place : (x : Result ℕ ℕ) → PlaceSays (rows_in (length t) v (take m o)) t x → PlaceSays (kept_rows k v o m) r x
      taken-place x says =
          let at : PlaceSays (rows_in (length r) v (take m o)) r x = subst (λ (z : List ℕ). PlaceSays (rows_in (length z) v (take m o)) z x) is says in
          subst (λ (n : ℕ). PlaceSays (rows_in n v (take m o)) r x) long at

    pub keep-there : (p : ℕ) → PlaceSays (kept_rows k v o m) r (Ok p) → RowsKept k v o (Some m) (rs ++ (r ∷ []))
    keep-there p says = record {
      arity = kept.arity;
      rows_long = added-long;
      order-long = kept.order-long;
      long = all-long;
      is = (kept.is.0, kept.is.1, sym says ∙ ap (insert_row r) added_is ∙ sym one_more);
    }

    -- the sorted rows, with the row at its place
    placed : (p : ℕ) → PlaceSays (kept_rows k v o m) r (Err p) → sort_rows (rs ++ (r ∷ [])) ≡ take p (kept_rows k v o m) ++ (r ∷ drop p (kept_rows k v o m))
    placed p says = one_more ∙ sym (ap (insert_row r) added_is) ∙ says.1

    pub keep-full : {p : ℕ} → PlaceSays (kept_rows k v o m) r (Err p) → m ≡ max_rows → RowsKept k v o None (rs ++ (r ∷ []))
    keep-full {p} says full = record {
      arity = kept.arity;
      rows_long = added-long;
      order-long = kept.order-long;
      long = all-long;
      is = omega (arith, ap length (placed p says), put-long p (kept_rows k v o m) r, ap length added-rows, keep-long);
    }

    pub keep_at : {p : ℕ} (o' : List ℕ) → PlaceSays (kept_rows k v o m) r (Err p) → m < max_rows → length o' ≡ length o → take (suc m) o' ≡ put_in p m (take m o)
        → RowsKept k v o' (Some (m + 1)) (rs ++ (r ∷ []))
    keep_at {p} o' says more_Room same put =
        let new : take (m + 1) o' ≡ put_in p m (take m o) = rw add-one put in
        record {
          arity = kept.arity;
          rows_long = added-long;
          order-long = same ∙ kept.order-long;
          long = all-long;
          is = (
            omega arith,
            rw new (put-each p m (omega arith) (each-imp (λ i h. omega arith) kept.is.1)),
            ap (map (row_at v k)) new ∙ put_map (row_at v k) p m (take m o) ∙ ap (λ (z : List ℕ). take p (kept_rows k v o m) ++ (z ∷ drop p (kept_rows k v o m))) added-row ∙ sym (placed p says),
          );
        }
