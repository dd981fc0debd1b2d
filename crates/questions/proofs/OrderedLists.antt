-- Ordered lists, over any elements: tools, not about questions.
--   ordered-append      == two ordered lists put together, where each of the first stands before each of the second
--   ordered-apart       == and taken apart again: each of the first stands before each of the second
--   ordered_end         == one element more at the end, before which all others stand
--   ordered-take        == the first elements of an ordered list
--   ordered-map         == the image of an ordered list, where the function keeps the order
--   ordered_at          == an earlier place stands before a later one
--   ordered-once        == where nothing stands before itself, no element stands at two places
--   ordered_same        == two ordered lists with the same elements are equal, where the order is strict
use mathlib.Core.Path.{◌≡◌, refl, sym, ap₂, subst, ◌∙◌}
use mathlib.Core.List.Memᴰ
use mathlib.Core.List.{List, [], ◌∷◌, ◌++◌, map, Memᴰ}
use Prim.Native.Nat.{ℕ, zero, suc, ◌<◌}
use native.Mathlib.Omega.{arith}
use lib.ListN.{length, get_or, take}
use Rattle.boxes.specs.Fits.{Each, none, more}
use Rattle.boxes.proofs.Tests.{either}
use Rattle.boxes.proofs.Lists.{each_at, each_append, each-end, each_take, each_map, each-mem, mem-each}
use Rattle.questions.specs.Good.{Ordered}

module _ {A : Type 0} {R : A → A → Type 0} where
  pub ordered-append : {xs ys : List A} → Ordered R xs → Ordered R ys → ((x y : A) → Memᴰ x xs → Memᴰ y ys → R x y) → Ordered R (xs ++ ys)
  ordered-append Ordered.none s f = s
  ordered-append {ys = ys} (Ordered.more {x = x} p r) s f =
      Ordered.more (each_append p (mem-each ys (λ y m. f x y (Memᴰ.head refl) m))) (ordered-append r s (λ z y m n. f z y (Memᴰ.tail m) n))

  pub ordered-apart : (xs : List A) {ys : List A} → Ordered R (xs ++ ys) → (x y : A) → Memᴰ x xs → Memᴰ y ys → R x y
  ordered-apart [] o x y m n = absurd (Memᴰ.not-nil m)
  ordered-apart (z ∷ xs) (Ordered.more p r) x y (Memᴰ.head e) n = subst (λ (u : A). R u y) (sym e) (each-mem p (Memᴰ.append_right xs n))
  ordered-apart (z ∷ xs) (Ordered.more p r) x y (Memᴰ.tail m) n = ordered-apart xs r x y m n

  pub ordered_end : {xs : List A} {x : A} → Ordered R xs → Each (λ y. R y x) xs → Ordered R (xs ++ (x ∷ []))
  ordered_end Ordered.none none = Ordered.more none Ordered.none
  ordered_end (Ordered.more r o) (more p e) = Ordered.more (each-end r p) (ordered_end o e)

  pub ordered-take : (n : ℕ) {xs : List A} → Ordered R xs → Ordered R (take n xs)
  ordered-take zero r = Ordered.none
  ordered-take (suc n) Ordered.none = Ordered.none
  ordered-take (suc n) (Ordered.more p r) = Ordered.more (each_take n p) (ordered-take n r)

  pub ordered_at : {xs : List A} → Ordered R xs → (i j : ℕ) (d : A) → i < j → j < length xs → R (get_or xs i d) (get_or xs j d)
  ordered_at Ordered.none i j d h k = absurd (omega arith)
  ordered_at (Ordered.more p r) i zero d h k = absurd (omega arith)
  ordered_at (Ordered.more p r) zero (suc j) d h k = each_at p j d (omega arith)
  ordered_at (Ordered.more p r) (suc i) (suc j) d h k = ordered_at r i j d (omega arith) (omega arith)

  pub ordered-once : ((x : A) → R x x → ⊥) → {xs : List A} → Ordered R xs → (i j : ℕ) (d : A) → i < j → j < length xs → get_or xs i d ≡ get_or xs j d → ⊥
  ordered-once f {xs} r i j d h k e = f (get_or xs j d) (subst (λ (x : A). R x (get_or xs j d)) e (ordered_at r i j d h k))

pub ordered-map :
    {A B : Type 0} {R : A → A → Type 0} {S : B → B → Type 0} (f : A → B) → ((x y : A) → R x y → S (f x) (f y))
    → {xs : List A} → Ordered R xs → Ordered S (map f xs)
ordered-map f g Ordered.none = Ordered.none
ordered-map f g (Ordered.more {x = x} p r) = Ordered.more (each_map f (g x) p) (ordered-map f g r)

-- ---- ordered lists by their elements

module _ {A : Type 0} {R : A → A → Type 0} (irrefl : (x : A) → R x x → ⊥) (trans : (x y z : A) → R x y → R y z → R x z) where
  -- what stands before a whole list is none of it
  fresh : {x : A} {xs : List A} → Each (R x) xs → Memᴰ x xs → ⊥
  fresh {x} h m = irrefl x (each-mem h m)

  -- the elements past the first, where the first ones are the same
  rest_in_lem : {x y : A} {xs ys : List A} → x ≡ y → Each (R x) xs → ((z : A) → Memᴰ z (x ∷ xs) → Memᴰ z (y ∷ ys)) → (z : A) → Memᴰ z xs → Memᴰ z ys
  rest_in_lem {x} {y} {xs} e h f z m =
      either (Memᴰ.cases_cons (f z (Memᴰ.tail m)))
      (λ s. absurd (fresh h (subst (λ (u : A). Memᴰ u xs) (s ∙ sym e) m)))
      (λ k. k)

  -- the first of two ordered lists with the same elements: were they two, each would be before the other
  firsts : {x y : A} {xs ys : List A} → Each (R x) xs → Each (R y) ys → Memᴰ x (y ∷ ys) → Memᴰ y (x ∷ xs) → x ≡ y
  firsts {x} {y} h k m n =
      either (Memᴰ.cases_cons m)
      (λ e. e)
      (λ later. either (Memᴰ.cases_cons n) (λ e. sym e) (λ too. absurd (irrefl x (trans x y x (each-mem h too) (each-mem k later)))))

  pub ordered_same : {xs ys : List A} → Ordered R xs → Ordered R ys → ((z : A) → Memᴰ z xs → Memᴰ z ys) → ((z : A) → Memᴰ z ys → Memᴰ z xs) → xs ≡ ys
  ordered_same Ordered.none Ordered.none f g = refl
  ordered_same Ordered.none (Ordered.more {x = y} k s) f g = absurd (Memᴰ.not-nil (g y (Memᴰ.head refl)))
  ordered_same (Ordered.more {x = x} h r) Ordered.none f g = absurd (Memᴰ.not-nil (f x (Memᴰ.head refl)))
  ordered_same (Ordered.more {x = x} h r) (Ordered.more {x = y} k s) f g =
      let e : x ≡ y = firsts h k (f x (Memᴰ.head refl)) (g y (Memᴰ.head refl)) in
      ap₂ ◌∷◌ e (ordered_same r s (rest_in_lem e h f) (rest_in_lem (sym e) k g))
