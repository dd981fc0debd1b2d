-- The columns of a header in attribute order.
--   Column a h gs x    == x is the number of a known name of gs, counted from a
--   columns-here, columns-past, columns-none == a name that is in the header, one that is not, no name
--   columns-each       == each of the columns is one
--   columns-ascending  == they ascend
--   columns-mem        == the number of each known name is one of them
--   columns-all        == where all names are in the header they are all numbers
--   map-numbers        == a list is what stands at its places
--   length-numbers, numbers-at == how many numbers there are, and which stands at a place
use mathlib.Core.Path.{◌≡◌, refl, ap, ap₂, ◌∙◌}
use mathlib.Core.Bool.{true, false}
use mathlib.Core.List.{List, [], ◌∷◌, map, Memᴰ}
use Prim.Native.Nat.{ℕ, zero, suc, ◌+◌, ◌≤◌, ◌<◌}
use native.Mathlib.Omega.{arith}
use lib.ListN.{length, get_or}
use Rattle.boxes.specs.Fits.{Each, none, more}
use Rattle.boxes.proofs.Tests.{by}
use Rattle.boxes.proofs.Lists.{each-imp}
use Rattle.questions.specs.Good.{Ordered, Ascending}
use Rattle.fields.specs.Fields.{is_one}
use Rattle.csv_tables.specs.Imports.{columns_from}
use Rattle.csv_tables.specs.Claims.{numbers_from}

pub record Column (a : ℕ) (h gs : List (List ℕ)) (x : ℕ) : Type 0 where
  pub least : a ≤ x
  pub below : x < a + length gs
  pub known : (i : ℕ) → x ≡ a + i → is_one h (get_or gs i []) ≡ true

module _ (h : List (List ℕ)) where
  pub columns-here : (a : ℕ) (g : List ℕ) (gs : List (List ℕ)) → is_one h g ≡ true → columns_from a h (g ∷ gs) ≡ a ∷ columns_from (suc a) h gs
  unfolding columns_from
  columns-here a g gs t = rw t

  pub columns-past : (a : ℕ) (g : List ℕ) (gs : List (List ℕ)) → is_one h g ≡ false → columns_from a h (g ∷ gs) ≡ columns_from (suc a) h gs
  unfolding columns_from
  columns-past a g gs f = rw f

  pub columns-none : (a : ℕ) → columns_from a h [] ≡ []
  unfolding columns_from
  columns-none a = refl

  later : (a : ℕ) (g : List ℕ) (gs : List (List ℕ)) (x : ℕ) → Column (suc a) h gs x → Column a h (g ∷ gs) x
  later a g gs x c = record {
    least = omega (arith, c.least);
    below = omega (arith, c.below);
    known = known;
  }
    where
      known : (i : ℕ) → x ≡ a + i → is_one h (get_or (g ∷ gs) i []) ≡ true
      known zero e = absurd (omega (arith, c.least))
      known (suc i) e = c.known i (omega arith)

  first : (a : ℕ) (g : List ℕ) (gs : List (List ℕ)) → is_one h g ≡ true → Column a h (g ∷ gs) a
  first a g gs t = record { least = omega arith; below = omega arith; known = known }
    where
      known : (i : ℕ) → a ≡ a + i → is_one h (get_or (g ∷ gs) i []) ≡ true
      known zero e = t
      known (suc i) e = absurd (omega arith)

  pub columns-each : (a : ℕ) (gs : List (List ℕ)) → Each (Column a h gs) (columns_from a h gs)
  columns-each a [] = rw (columns-none a) none
  columns-each a (g ∷ gs) =
      let rest : Each (Column a h (g ∷ gs)) (columns_from (suc a) h gs) = each-imp (later a g gs) (columns-each (suc a) gs) in
      by (is_one h g)
      (λ t. rw (columns-here a g gs t) (more (first a g gs t) rest))
      (λ f. rw (columns-past a g gs f) rest)

  pub columns-ascending : (a : ℕ) (gs : List (List ℕ)) → Ascending (columns_from a h gs)
  columns-ascending a [] = rw (columns-none a) Ordered.none
  columns-ascending a (g ∷ gs) =
      by (is_one h g)
      (λ t. rw (columns-here a g gs t) (Ordered.more (each-imp (λ x c. c.least) (columns-each (suc a) gs)) (columns-ascending (suc a) gs)))
      (λ f. rw (columns-past a g gs f) (columns-ascending (suc a) gs))

  pub columns-mem : (a : ℕ) (gs : List (List ℕ)) (i j : ℕ) → j ≡ a + i → i < length gs → is_one h (get_or gs i []) ≡ true → Memᴰ j (columns_from a h gs)
  columns-mem a [] i j e l t = absurd (omega arith)
  columns-mem a (g ∷ gs) zero j e l t = let here : j ≡ a = omega arith in rw (columns-here a g gs t) (mathlib.Core.List.Memᴰ.head here)
  columns-mem a (g ∷ gs) (suc i) j e l t =
      let rest : Memᴰ j (columns_from (suc a) h gs) = columns-mem (suc a) gs i j (omega arith) (omega arith) t in
      by (is_one h g)
      (λ k. rw (columns-here a g gs k) (mathlib.Core.List.Memᴰ.tail rest))
      (λ f. rw (columns-past a g gs f) rest)

  pub columns-all : (a : ℕ) {gs : List (List ℕ)} → Each (λ g. is_one h g ≡ true) gs → columns_from a h gs ≡ numbers_from a (length gs)
  unfolding numbers_from
  columns-all a none = columns-none a
  columns-all a (more {x = g} {xs = gs} t r) = columns-here a g gs t ∙ ap (λ (l : List ℕ). a ∷ l) (columns-all (suc a) r)

pub map-numbers : (f : ℕ → ℕ) (a : ℕ) (t : List ℕ) → ((i j : ℕ) → j ≡ a + i → i < length t → f j ≡ get_or t i 0) → map f (numbers_from a (length t)) ≡ t
unfolding numbers_from
map-numbers f a [] e = refl
map-numbers f a (v ∷ t) e =
    ap₂ ◌∷◌ (e 0 a (omega arith) (omega arith)) (map-numbers f (suc a) t (λ i j k l. e (suc i) j (omega arith) (omega arith)))

pub length-numbers : (a n : ℕ) → length (numbers_from a n) ≡ n
unfolding numbers_from
length-numbers a zero = refl
length-numbers a (suc n) = ap suc (length-numbers (suc a) n)

pub numbers-at : (a n i : ℕ) → i < n → get_or (numbers_from a n) i 0 ≡ a + i
unfolding numbers_from
numbers-at a zero i h = absurd (omega arith)
numbers-at a (suc n) zero h = omega arith
numbers-at a (suc n) (suc i) h = numbers-at (suc a) n i (omega arith) ∙ omega arith
