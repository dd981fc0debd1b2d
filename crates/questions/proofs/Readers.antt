-- What each part read of a question is, after what was read before it.
--   Led xs                                              == xs ascend, and are below whatever may follow them
--   Follows above r, Leads above rs                     == r may stand after the row `above`; whatever may, comes after each of rs
--   RowRead, RowsRead                                   == what is known of a row that was read, and of rows
--   value_check-check                                    == what a passed question 9 says
--   widths_in-yields, attributes_in-yields, row_in-yields, rows_in-yields == what the readers give
--   row_in-words                                         == a row is the next words, as many as it has attributes
use mathlib.Core.Path.{◌≡◌, refl, sym, ◌∙◌}
use mathlib.Core.Bool.{true, ◌&&◌, ◌||◌, not}
use mathlib.Core.List.{List, [], ◌∷◌, ◌++◌, append-nil, append_assoc}
use Prim.Native.Nat.{ℕ, zero, suc, ◌+◌, ◌^◌, ◌≤◌, ◌<◌}
use native.Mathlib.Omega.{arith}
use lib.Dec.{eqb, ltb, leb}
use lib.ListN.{length, get_or, take, drop, length-map}
use borrow.Author.Tests.{ltb-false, leb-false, eq-eqb, ne_eqb, not-false}
use Rattle.boxes.specs.Limits.{max_width}
use Rattle.boxes.specs.Fits.{Each, none, more, Point}
use Rattle.boxes.proofs.Lists.{each2-length, length-end, each-imp, each-end}
use Rattle.boxes.proofs.Tests.{or-neither}
use Rattle.questions.specs.Orders.{before, is_in}
use Rattle.questions.specs.Good.{Width, Below, Ascending, Sorted, widths_at}
use Rattle.questions.specs.Questions.{out_of_range, got, width_check, widths_in, above_last, attribute_check, attributes_in, value_check, order_check, row_in, rows_in}
use Rattle.questions.proofs.OrderedLists.{ordered_end}
use Rattle.questions.proofs.Numbers.{above_last-end}
use Rattle.questions.proofs.Orders.{before-trans}
use Rattle.questions.proofs.Checks.{in-range}
use Rattle.questions.proofs.Yields.{Yields, gives, yields-got, yields-then, yields-map, Check, check-when, check-first, check-map, word_in-yields}

-- ---- widths

width_check-check : (w : ℕ) → Check (Width w) (width_check w)
unfolding is_in
width_check-check w = check-map (in-range max_width w) (check-when (out_of_range max_width w) 4 refl)

pub widths_in-yields : (l : ℕ) (ws s : List ℕ) → Yields (λ vs t. (length vs ≡ length ws + l) × (Each Width ws → Each Width vs)) (widths_in l ws s)
unfolding widths_in
widths_in-yields zero ws s = gives ws s (omega arith, λ r. r)
widths_in-yields (suc l) ws s =
    yields-then (word_in-yields s width_check-check) (λ w t h.
    yields-map (λ vs u k. (omega (arith, k.0, length-end ws w), λ r. k.1 (each-end r h.1)))
    (widths_in-yields l (ws ++ (w ∷ [])) t))

-- ---- attributes

-- ascending, and all below the least number that may follow
pub record Led (xs : List ℕ) : Type 0 where
  pub ascending : Ascending xs
  pub below : Each (λ a. a < above_last xs) xs

led-end : {xs : List ℕ} (a : ℕ) → above_last xs ≤ a → Led xs → Led (xs ++ (a ∷ []))
led-end {xs} a h r =
    let lower : Each (λ b. b < a) xs = each-imp (λ b (l : b < above_last xs). omega arith) r.below in
    record { ascending = ordered_end r.ascending lower; below = rw (above_last-end xs a) (each-end (each-imp (λ b (l : b < a). omega arith) lower) (omega arith)) }

attribute_check-check : (n : ℕ) (xs : List ℕ) (a : ℕ) → Check ((a < n) × (above_last xs ≤ a)) (attribute_check n xs a)
unfolding is_in
attribute_check-check n xs a =
    check-map (λ e. let no = or-neither (leb n a) _ e in (leb-false n a no.0, ltb-false a (above_last xs) no.1))
    (check-when (leb n a || ltb a (above_last xs)) 7 refl)

pub attributes_in-yields : (l n : ℕ) (xs s : List ℕ) → Yields (λ ys t. (length ys ≡ length xs + l) × (Below n xs → Below n ys) × (Led xs → Led ys)) (attributes_in l n xs s)
unfolding attributes_in
attributes_in-yields zero n xs s = gives xs s (omega arith, λ r. r, λ r. r)
attributes_in-yields (suc l) n xs s =
    yields-then (word_in-yields s (attribute_check-check n xs)) (λ a t h.
    yields-map (λ ys u k. (omega (arith, k.0, length-end xs a), λ r. k.1 (each-end r h.1.0), λ r. k.2 (led-end a h.1.1 r)))
    (attributes_in-yields l n (xs ++ (a ∷ [])) t))

-- ---- a row

-- r may stand after the row `above`; no row is before the first
abbrev pub Follows : List ℕ → List ℕ → Type 0
Follows above r = 1 ≤ length above → before above r ≡ true

-- q was read over xs after the row `above` and its own beginning r, from the words s; t is left
pub record RowRead (ws xs above r s q t : List ℕ) : Type 0 where
  pub row : q ≡ r ++ take (length xs) s
  pub rest : t ≡ drop (length xs) s
  pub enough : length xs ≤ length s
  pub point : Point (widths_at ws xs) (take (length xs) s)
  pub follows : (length xs ≡ 0 → Follows above r) → Follows above q

pub value_check-check : (w v : ℕ) → Check (v < 2 ^ w) (value_check w v)
unfolding is_in
value_check-check w v = check-map (leb-false (2 ^ w) v) (check-when (leb (2 ^ w) v) 9 refl)

order_check-check : (left above r : List ℕ) → Check (length left ≡ 0 → Follows above r) (order_check left above r)
unfolding is_in
order_check-check left above r =
    check-map (λ e z some. not-false (before above r) (rw (eq-eqb (length left) 0 z, ne_eqb (length above) 0 (λ n. omega arith)) at e))
    (check-when (eqb (length left) 0 && (not (eqb (length above) 0) && not (before above r))) 10 refl)

row_read-more : (a v : ℕ) {ws xs above r s q t : List ℕ} → v < 2 ^ get_or ws a 0 → (length xs ≡ 0 → Follows above (r ++ (v ∷ []))) → RowRead ws xs above (r ++ (v ∷ [])) s q t → RowRead ws (a ∷ xs) above r (v ∷ s) q t
row_read-more a v {r = r} low f k = record {
  row = k.row ∙ append_assoc r (v ∷ []) _;
  rest = k.rest;
  enough = omega (arith, k.enough);
  point = more low k.point;
  follows = λ g. k.follows f;
}

pub row_in-yields : (ws xs above r s : List ℕ) → Yields (RowRead ws xs above r s) (row_in ws xs above r s)
unfolding row_in
row_in-yields ws [] above r s = gives r s (record { row = sym (append-nil r); rest = refl; enough = omega arith; point = none; follows = λ g. g refl })
row_in-yields ws (a ∷ xs) above r s =
    yields-then (word_in-yields s (λ v. check-first (value_check (get_or ws a 0) v) _ (value_check-check (get_or ws a 0) v) (order_check-check xs above (r ++ (v ∷ []))))) (λ v t h.
    rw h.0 (yields-map (λ q u k. row_read-more a v h.1.0 h.1.1 k) (row_in-yields ws xs above (r ++ (v ∷ [])) t)))

pub row_in-words : (ws xs above r s : List ℕ) {q t : List ℕ} → row_in ws xs above r s ≡ got q t → (q ≡ r ++ take (length xs) s) × (t ≡ drop (length xs) s) × (length xs ≤ length s)
row_in-words ws xs above r s e = let k = yields-got (row_in-yields ws xs above r s) e in (k.row, k.rest, k.enough)

-- ---- rows

-- whatever may stand after the row `above` comes after each of rs
abbrev pub Leads : List ℕ → List (List ℕ) → Type 0
Leads above rs = Each (λ x. (y : List ℕ) → Follows above y → before x y ≡ true) rs

leads-end : (above r : List ℕ) {rs : List (List ℕ)} → 1 ≤ length r → Follows above r → Leads above rs → Leads r (rs ++ (r ∷ []))
leads-end above r some f k = each-end (each-imp (λ x h y g. before-trans x r y (h r f) (g some)) k) (λ y g. g some)

-- the rows qs were read over xs, l of them, after the row `above` and the rows rs
pub record RowsRead (l : ℕ) (ws xs above : List ℕ) (rs qs : List (List ℕ)) : Type 0 where
  pub long : length qs ≡ length rs + l
  pub within : Each (Point (widths_at ws xs)) rs → Each (Point (widths_at ws xs)) qs
  pub sorted : 1 ≤ length xs → Leads above rs → Sorted rs → Sorted qs

rows_read-more : (r : List ℕ) {l : ℕ} {ws xs above s t : List ℕ} {rs qs : List (List ℕ)} → RowRead ws xs above [] s r t → RowsRead l ws xs r (rs ++ (r ∷ [])) qs → RowsRead (suc l) ws xs above rs qs
rows_read-more r {ws = ws} {xs = xs} {above = above} {rs = rs} h k =
    let point : Point (widths_at ws xs) r = rw h.row h.point in
    record {
      long = omega (arith, k.long, length-end rs r);
      within = λ w. k.within (each-end w point);
      sorted = λ some lead order.
          let f : Follows above r = h.follows (λ z. absurd (omega arith)) in
          let long : 1 ≤ length r = omega (arith, each2-length point, length-map xs (λ a. get_or ws a 0)) in
          k.sorted some (leads-end above r long f lead) (ordered_end order (each-imp (λ x g. g r f) lead));
    }

pub rows_in-yields : (l : ℕ) (ws xs above : List ℕ) (rs : List (List ℕ)) (s : List ℕ) → Yields (λ qs t. RowsRead l ws xs above rs qs) (rows_in l ws xs above rs s)
unfolding rows_in
rows_in-yields zero ws xs above rs s = gives rs s (record { long = omega arith; within = λ w. w; sorted = λ some lead order. order })
rows_in-yields (suc l) ws xs above rs s =
    yields-then (row_in-yields ws xs above [] s) (λ r t h.
    yields-map (λ qs u k. rows_read-more r h k) (rows_in-yields l ws xs r (rs ++ (r ∷ [])) t))
