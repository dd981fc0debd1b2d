-- The columns of a header's attribute numbers, place by place, as the loops over them need it.
--   column_of-here, column_of-past, column_of-none == the first number is the attribute, or it is another, or there is none
--   column_of-position, column_in-is == the library's position
--   column-some, column-none == a column, or that there is none
--   column-eqb, own-from, distinct-places == no attribute stands twice exactly if the column of each is its own
--   sources-here, sources-past, sources-none == an attribute of the header, another one, no attribute
--   Gathered n a xs k vs == vs begins with the k sources of the attributes before a, where n attributes are asked
--   gathered-start, gathered-here, gathered-past, gathered-end == of a walk that puts them into an array
use mathlib.Core.Path.{◌≡◌, refl, sym, ap, ap₂, ◌∙◌}
use mathlib.Core.Bool.{◌&&◌}
use mathlib.Core.List.{List, [], ◌∷◌, ◌++◌, append-nil}
use Prim.Native.Nat.{ℕ, suc, ◌+◌, ◌-◌, ◌≤◌, ◌<◌}
use native.Mathlib.Numerals.{add-one}
use native.Mathlib.Omega.{arith}
use borrow.Author.Tests.{lt-ltb, le-ltb, ltb-true, ltb-false, eq-eqb, ne_eqb}
use lib.Dec.{eqb, ltb}
use lib.ListN.{length, set, take, length-set}
use lib.Seq.{append_snoc, take-suc-set}
use Rattle.std.specs.Prelude.{Option, None, Some}
use Rattle.std.specs.Option.{option_eq}
use Rattle.std.specs.Bool.{◌==◌}
use Rattle.std.specs.List.{position_or_len, list_all, enumerate_from}
use Rattle.boxes.specs.Intervals.{pick}
use Rattle.boxes.proofs.Tests.{by}
use Rattle.csv_tables.specs.Columns.{column_of, column_in, distinct_from, are_distinct, sources_from}

-- ---- a column

module _ (a : ℕ) where
  pub column_of-here : (x : ℕ) (xs : List ℕ) → x ≡ a → column_of a (x ∷ xs) ≡ 0
  unfolding column_of
  column_of-here x xs e = rw (eq-eqb x a e)

  pub column_of-past : (x : ℕ) (xs : List ℕ) → (x ≡ a → ⊥) → column_of a (x ∷ xs) ≡ suc (column_of a xs)
  unfolding column_of
  column_of-past x xs n = rw (ne_eqb x a n)

  pub column_of-none : column_of a [] ≡ 0
  unfolding column_of
  column_of-none = refl

-- the library's position
column_of-position : (a : ℕ) (xs : List ℕ) → column_of a xs ≡ position_or_len (λ x. x == a) xs
unfolding column_of
column_of-position a [] = refl
column_of-position a (x ∷ xs) = by (x == a) (λ t. rw t) (λ f. rw f (omega (arith, column_of-position a xs)))

column_in-is : (a : ℕ) (xs : List ℕ) → column_in a xs ≡ pick (ltb (column_of a xs) (length xs)) (Some (column_of a xs)) None
column_in-is a xs = rw (column_of-position a xs) (by (ltb (position_or_len (λ x. x == a) xs) (length xs)) (λ t. rw t) (λ f. rw f))

module _ (a : ℕ) (xs : List ℕ) where
  pub column-some : (i : ℕ) → Some i ≡ column_in a xs → (column_of a xs ≡ i) × (i < length xs)
  column-some i e =
      by (ltb (column_of a xs) (length xs))
      (λ t. let is : Some i ≡ Some (column_of a xs) = rw t at (e ∙ column_in-is a xs) in let same : column_of a xs ≡ i = cc in (same, omega (arith, ltb-true (column_of a xs) (length xs) t)))
      (λ f. let no : Some i ≡ None = rw f at (e ∙ column_in-is a xs) in cc)

  pub column-none : None ≡ column_in a xs → length xs ≤ column_of a xs
  column-none e =
      by (ltb (column_of a xs) (length xs))
      (λ t. let no : None ≡ Some (column_of a xs) = rw t at (e ∙ column_in-is a xs) in cc)
      (λ f. ltb-false (column_of a xs) (length xs) f)

-- ---- no attribute twice

column-eqb : (a i : ℕ) (xs : List ℕ) → i < length xs → option_eq eqb (column_in a xs) (Some i) ≡ eqb (column_of a xs) i
column-eqb a i xs h =
    ap (λ (o : Option ℕ). option_eq eqb o (Some i)) (column_in-is a xs)
    ∙ by (ltb (column_of a xs) (length xs)) (λ t. rw t refl) (λ f. rw f (sym (ne_eqb (column_of a xs) i (λ e. omega (arith, ltb-false (column_of a xs) (length xs) f)))))

own-from : (xs ys : List ℕ) (n : ℕ) → n + length ys ≤ length xs → list_all (λ p. option_eq eqb (column_in p.1 xs) (Some p.0)) (enumerate_from n ys) ≡ distinct_from n xs ys
unfolding distinct_from
own-from xs [] n h = refl
own-from xs (y ∷ ys) n h = ap₂ ◌&&◌ (column-eqb y n xs (omega arith)) (rw (add-one n) (own-from xs ys (suc n) (omega arith)))

-- what `all` answers at the attributes with their places
pub distinct-places : (xs : List ℕ) → list_all (λ p. option_eq eqb (column_in p.1 xs) (Some p.0)) (enumerate_from 0 xs) ≡ are_distinct xs
distinct-places xs = own-from xs xs 0 (omega arith)

-- ---- the sources

module _ (a n : ℕ) (xs : List ℕ) where
  pub sources-here : column_of a xs < length xs → sources_from a (suc n) xs ≡ column_of a xs ∷ sources_from (suc a) n xs
  unfolding sources_from
  sources-here h = rw (lt-ltb (column_of a xs) (length xs) h)

  pub sources-past : length xs ≤ column_of a xs → sources_from a (suc n) xs ≡ sources_from (suc a) n xs
  unfolding sources_from
  sources-past h = rw (le-ltb (column_of a xs) (length xs) h)

pub sources-none : (a : ℕ) (xs : List ℕ) → sources_from a 0 xs ≡ []
unfolding sources_from
sources-none a xs = refl

pub record Gathered (n a : ℕ) (xs : List ℕ) (k : ℕ) (vs : List ℕ) : Type 0 where
  pub within : a ≤ n
  pub room : n ≤ length vs
  pub few : k ≤ a
  pub left : sources_from 0 n xs ≡ take k vs ++ sources_from a (n - a) xs

pub gathered-start : (n : ℕ) (xs vs : List ℕ) → n ≤ length vs → Gathered n 0 xs 0 vs
gathered-start n xs vs h = record { within = omega arith; room = h; few = omega arith; left = ap (λ (m : ℕ). sources_from 0 m xs) whole }
  where
    whole : n ≡ n - 0
    whole = omega arith

module _ {n a : ℕ} {xs : List ℕ} {k : ℕ} {vs : List ℕ} (s : Gathered n a xs k vs) (h : a < n) where
  rest : n - a ≡ suc (n - suc a)
  rest = omega arith

  pub gathered-here : {v : ℕ} → Some v ≡ column_in a xs → Gathered n (a + 1) xs (k + 1) (set vs k v)
  gathered-here {v} e = record {
    within = omega arith;
    room = omega (arith, s.room, length-set vs k v);
    few = omega (arith, s.few);
    left = s.left ∙ ap (λ (m : ℕ). take k vs ++ sources_from a m xs) rest
        ∙ ap (λ (l : List ℕ). take k vs ++ l) (sources-here a (n - suc a) xs (omega (arith, (column-some a xs v e).0, (column-some a xs v e).1)))
        ∙ ap (λ (x : ℕ). take k vs ++ (x ∷ sources_from (suc a) (n - suc a) xs)) (column-some a xs v e).0
        ∙ sym (append_snoc (take k vs) v (sources_from (suc a) (n - suc a) xs))
        ∙ ap₂ (λ (l : List ℕ) (b : ℕ). l ++ sources_from b (n - b) xs) (sym (rw add-one (take-suc-set vs k v (omega (arith, s.few, s.room))))) (sym (add-one a));
  }

  pub gathered-past : None ≡ column_in a xs → Gathered n (a + 1) xs k vs
  gathered-past e = record {
    within = omega arith;
    room = s.room;
    few = omega (arith, s.few);
    left = s.left ∙ ap (λ (m : ℕ). take k vs ++ sources_from a m xs) rest ∙ ap (λ (l : List ℕ). take k vs ++ l) (sources-past a (n - suc a) xs (column-none a xs e))
        ∙ ap (λ (b : ℕ). take k vs ++ sources_from b (n - b) xs) (sym (add-one a));
  }

pub gathered-end : {n a : ℕ} {xs : List ℕ} {k : ℕ} {vs : List ℕ} → Gathered n a xs k vs → n ≤ a → sources_from 0 n xs ≡ take k vs
gathered-end {n} {a} {xs} {k} {vs} s h =
    let last : n - a ≡ 0 = omega arith in
    s.left ∙ ap (λ (m : ℕ). take k vs ++ sources_from a m xs) last ∙ ap (λ (l : List ℕ). take k vs ++ l) (sources-none a xs) ∙ append-nil (take k vs)
