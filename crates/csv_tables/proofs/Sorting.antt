-- Rows sorted, each once.
--   insert-none, insert-first, insert-there, insert-past == a row put in, by its neighbour
--   insert-member, member-insert == the members of the rows with one more
--   insert-sorted  == they ascend
--   sort-none      == of no row
--   sort-members, members-sort   == the members of sorted rows are those of the rows
--   sort_sorted    == sorted rows ascend
--   sort-each      == what holds of each row holds of each sorted row
--   sort-same      == ascending rows are sorted already
use mathlib.Core.Path.{◌≡◌, refl, sym}
use mathlib.Core.Logic.{◌⊎◌, inl, inr}
use mathlib.Core.Bool.{true, false}
use mathlib.Core.List.Memᴰ
use mathlib.Core.List.{List, [], ◌∷◌, Memᴰ}
use Prim.Native.Nat.{ℕ}
use native.Mathlib.Omega.{arith}
use lib.ListN.{length}
use Rattle.boxes.specs.Fits.{Each, none, more}
use Rattle.boxes.proofs.Tests.{by, either, clash}
use Rattle.boxes.proofs.Lists.{each-mem, mem-each, each-imp}
use Rattle.questions.specs.Orders.{same, before}
use Rattle.questions.specs.Good.{Ordered, Sorted}
use Rattle.questions.proofs.Laws.{same-is, same_refl, before-trans, before-total}
use Rattle.csv_tables.specs.Imports.{insert_row, sort_rows}

-- ---- one row put in

module _ (r : List ℕ) where
  pub insert-first : (x : List ℕ) (xs : List (List ℕ)) → before r x ≡ true → insert_row r (x ∷ xs) ≡ r ∷ (x ∷ xs)
  unfolding insert_row
  insert-first x xs t = rw t

  pub insert-there : (x : List ℕ) (xs : List (List ℕ)) → before r x ≡ false → same r x ≡ true → insert_row r (x ∷ xs) ≡ x ∷ xs
  unfolding insert_row
  insert-there x xs f t = rw (f, t)

  pub insert-past : (x : List ℕ) (xs : List (List ℕ)) → before r x ≡ false → same r x ≡ false → insert_row r (x ∷ xs) ≡ x ∷ insert_row r xs
  unfolding insert_row
  insert-past x xs f g = rw (f, g)

  pub insert-none : insert_row r [] ≡ r ∷ []
  unfolding insert_row
  insert-none = refl

  pub insert-member : (xs : List (List ℕ)) {z : List ℕ} → Memᴰ z (insert_row r xs) → (z ≡ r) ⊎ Memᴰ z xs
  insert-member [] m = Memᴰ.cases_cons (rw insert-none at m)
  insert-member (x ∷ xs) m =
      by (before r x)
      (λ t. Memᴰ.cases_cons (rw (insert-first x xs t) at m))
      (λ f. by (same r x)
      (λ t. inr (rw (insert-there x xs f t) at m))
      (λ g. either (Memᴰ.cases_cons (rw (insert-past x xs f g) at m))
      (λ e. inr (Memᴰ.head e))
      (λ k. either (insert-member xs k) (λ e. inl e) (λ n. inr (Memᴰ.tail n)))))

  pub member-insert : (xs : List (List ℕ)) {z : List ℕ} → (z ≡ r) ⊎ Memᴰ z xs → Memᴰ z (insert_row r xs)
  member-insert [] m = rw insert-none (either m (λ e. Memᴰ.head e) (λ k. Memᴰ.tail k))
  member-insert (x ∷ xs) {z} m =
      by (before r x)
      (λ t. rw (insert-first x xs t) (either m (λ e. Memᴰ.head e) (λ k. Memᴰ.tail k)))
      (λ f. by (same r x)
      (λ t. rw (insert-there x xs f t) (either m (λ e. Memᴰ.head (rw (sym (same-is r x t)) e)) (λ k. k)))
      (λ g. rw (insert-past x xs f g) (either m
      (λ e. Memᴰ.tail (member-insert xs (inl e)))
      (λ k. either (Memᴰ.cases_cons k) (λ e. Memᴰ.head e) (λ n. Memᴰ.tail (member-insert xs (inr n)))))))

  pub insert-sorted : {n : ℕ} {xs : List (List ℕ)} → length r ≡ n → Each (λ x. length x ≡ n) xs → Sorted xs → Sorted (insert_row r xs)
  insert-sorted e none Ordered.none = rw insert-none (Ordered.more none Ordered.none)
  insert-sorted e (more {x = x} {xs = xs} l ls) (Ordered.more later o) =
      by (before r x)
      (λ t. rw (insert-first x xs t) (Ordered.more (more t (each-imp (λ y h. before-trans r x y t h) later)) (Ordered.more later o)))
      (λ f. by (same r x)
      (λ t. rw (insert-there x xs f t) (Ordered.more later o))
      (λ g.
      let above : before x r ≡ true =
      either (before-total r x (omega arith)) (λ t. clash t f) (λ h. either h (λ i. clash (rw (sym i) (same_refl r)) g) (λ t. t)) in
      let all : Each (λ y. before x y ≡ true) (insert_row r xs) =
      mem-each (insert_row r xs) (λ y m. either (insert-member xs m) (λ i. rw i above) (λ k. each-mem later k)) in
      rw (insert-past x xs f g) (Ordered.more all (insert-sorted e ls o))))

-- ---- all rows

pub sort-none : sort_rows [] ≡ []
unfolding sort_rows
sort-none = refl

sort-more : (r : List ℕ) (rs : List (List ℕ)) → sort_rows (r ∷ rs) ≡ insert_row r (sort_rows rs)
unfolding sort_rows
sort-more r rs = refl

pub sort-members : (rs : List (List ℕ)) {z : List ℕ} → Memᴰ z (sort_rows rs) → Memᴰ z rs
sort-members [] m = rw sort-none at m
sort-members (r ∷ rs) m =
    either (insert-member r (sort_rows rs) (rw (sort-more r rs) at m)) (λ e. Memᴰ.head e) (λ k. Memᴰ.tail (sort-members rs k))

pub members-sort : (rs : List (List ℕ)) {z : List ℕ} → Memᴰ z rs → Memᴰ z (sort_rows rs)
members-sort [] m = absurd (Memᴰ.not-nil m)
members-sort (r ∷ rs) m =
    rw (sort-more r rs)
    (member-insert r (sort_rows rs) (either (Memᴰ.cases_cons m) (λ e. inl e) (λ k. inr (members-sort rs k))))

pub sort-each : {P : List ℕ → Type 0} {rs : List (List ℕ)} → Each P rs → Each P (sort_rows rs)
sort-each {rs = rs} e = mem-each (sort_rows rs) (λ r m. each-mem e (sort-members rs m))

pub sort_sorted : {n : ℕ} {rs : List (List ℕ)} → Each (λ r. length r ≡ n) rs → Sorted (sort_rows rs)
sort_sorted none = rw sort-none Ordered.none
sort_sorted (more {x = r} {xs = rs} l ls) = rw (sort-more r rs) (insert-sorted r l (sort-each ls) (sort_sorted ls))

-- ---- rows that ascend

insert-least : (r : List ℕ) {xs : List (List ℕ)} → Each (λ x. before r x ≡ true) xs → insert_row r xs ≡ r ∷ xs
insert-least r none = insert-none r
insert-least r (more {x = x} {xs = xs} t e) = insert-first r x xs t

pub sort-same : {rs : List (List ℕ)} → Sorted rs → sort_rows rs ≡ rs
sort-same Ordered.none = sort-none
sort-same (Ordered.more {x = r} {xs = rs} later o) = rw (sort-more r rs, sort-same o) (insert-least r later)
