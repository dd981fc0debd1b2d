-- Sorted rows are known by their members: so any way of sorting gives them, and one row after the other may be put in.
--   sort-unique    == ascending rows with the members of the rows are the sorted rows
--   sort-end       == one row more: it is put into the sorted rows
--   insert-grows   == then there are as many rows as before, or one more
use mathlib.Core.Path.{◌≡◌, sym}
use mathlib.Core.Logic.{inl, inr}
use mathlib.Core.List.Memᴰ
use mathlib.Core.List.{List, [], ◌∷◌, ◌++◌, Memᴰ}
use Prim.Native.Nat.{ℕ, suc, ◌≤◌}
use native.Mathlib.Omega.{arith}
use lib.ListN.{length}
use Rattle.boxes.specs.Fits.{Each}
use Rattle.boxes.proofs.Tests.{by, either}
use Rattle.boxes.proofs.Lists.{each-end}
use Rattle.questions.specs.Orders.{same, before}
use Rattle.questions.specs.Good.{Sorted}
use Rattle.questions.proofs.Laws.{sorted-same}
use Rattle.csv_tables.specs.Imports.{insert_row, sort_rows}
use Rattle.csv_tables.proofs.Sorting.{insert-none, insert-first, insert-there, insert-past, insert-member, member-insert, insert-sorted, sort-members, members-sort, sort-each, sort_sorted}

-- ---- sorted rows

pub sort-unique : {n : ℕ} {rs ys : List (List ℕ)} → Each (λ r. length r ≡ n) rs → Sorted ys
    → ((z : List ℕ) → Memᴰ z ys → Memᴰ z rs) → ((z : List ℕ) → Memᴰ z rs → Memᴰ z ys) → ys ≡ sort_rows rs
sort-unique {rs = rs} long o f g = sorted-same o (sort_sorted long) (λ z m. members-sort rs (f z m)) (λ z m. g z (sort-members rs m))

pub sort-end : {n : ℕ} {rs : List (List ℕ)} (r : List ℕ) → Each (λ x. length x ≡ n) rs → length r ≡ n → sort_rows (rs ++ (r ∷ [])) ≡ insert_row r (sort_rows rs)
sort-end {rs = rs} r long e =
    sym (sort-unique (each-end long e) (insert-sorted r e (sort-each long) (sort_sorted long))
    (λ z m. either (insert-member r (sort_rows rs) m) (λ i. Memᴰ.append_right rs (Memᴰ.head i)) (λ k. Memᴰ.append_left (r ∷ []) (sort-members rs k)))
    (λ z m. member-insert r (sort_rows rs) (either (Memᴰ.append_cases rs m)
    (λ k. inr (members-sort rs k))
    (λ k. either (Memᴰ.cases_cons k) (λ i. inl i) (λ l. absurd (Memᴰ.not-nil l))))))

pub insert-grows : (r : List ℕ) (xs : List (List ℕ)) → (length xs ≤ length (insert_row r xs)) × (length (insert_row r xs) ≤ suc (length xs))
insert-grows r [] = rw (insert-none r) (omega arith, omega arith)
insert-grows r (x ∷ xs) =
    by (before r x)
    (λ t. rw (insert-first r x xs t) (omega arith, omega arith))
    (λ f. by (same r x)
    (λ t. rw (insert-there r x xs f t) (omega arith, omega arith))
    (λ g. let rest = insert-grows r xs in rw (insert-past r x xs f g) (omega (arith, rest.0), omega (arith, rest.1))))
