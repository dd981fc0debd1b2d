-- The place of a field among others.
--   same-equal              == two fields are the same
--   place-most              == the place is at most how many there are
--   place-first, place-past, place_none == a field is the first of them, or it comes later, or there is none
--   place-front, place-again == of a field that follows others: its first place is that among them, which is how many they are if it is none of them
--   place_end               == one more field that is another
--   distinct-end            == with one field more, no field stands twice exactly if none did and it is none of the others
--   place-all               == the place of a field that is none of them is how many there are
use mathlib.Core.Path.{◌≡◌, refl, sym, ap, ap₂, ◌∙◌}
use mathlib.Core.Bool.{Bool, true, false, ◌&&◌, ◌||◌, not}
use mathlib.Core.List.{List, [], ◌∷◌, ◌++◌}
use Prim.Native.Nat.{ℕ, suc, ◌≤◌}
use native.Mathlib.Omega.{arith}
use borrow.Author.Tests.{ltb-true, ltb-false, lt-ltb, le-ltb, eq-eqb, ne_eqb}
use lib.Dec.{eqb, ltb}
use lib.ListN.{length}
use Rattle.boxes.proofs.Tests.{by, same_tests, or-false, or_assoc}
use Rattle.questions.specs.Orders.{same}
use Rattle.questions.proofs.Laws.{same-is, same_refl}
use Rattle.fields.specs.Fields.{place, is_one, distinct}

module _ {f g : List ℕ} where
  pub same-equal : f ≡ g → same f g ≡ true
  same-equal e = rw e (same_refl g)

same-sym : (f g : List ℕ) → same f g ≡ same g f
same-sym f g = same_tests (same f g) (same g f) (λ t. same-equal (sym (same-is f g t))) (λ t. same-equal (sym (same-is g f t)))

module _ (f : List ℕ) where
  pub place-first : (g : List ℕ) (gs : List (List ℕ)) → same f g ≡ true → place f (g ∷ gs) ≡ 0
  unfolding place
  place-first g gs t = rw t

  pub place-past : (g : List ℕ) (gs : List (List ℕ)) → same f g ≡ false → place f (g ∷ gs) ≡ suc (place f gs)
  unfolding place
  place-past g gs e = rw e

  pub place_none : place f [] ≡ 0
  unfolding place
  place_none = refl

  pub place-most : (gs : List (List ℕ)) → place f gs ≤ length gs
  place-most [] = omega (arith, place_none)
  place-most (g ∷ gs) =
      by (same f g) (λ t. omega (arith, place-first g gs t)) (λ e. omega (arith, place-past g gs e, place-most gs))

  -- a field's first place does not depend on what follows the field
  pub place-front : (gs hs : List (List ℕ)) → place f (gs ++ (f ∷ hs)) ≡ place f gs
  place-front [] hs = place-first f hs (same_refl f) ∙ sym place_none
  place-front (g ∷ gs) hs =
      by (same f g) (λ t. place-first g (gs ++ (f ∷ hs)) t ∙ sym (place-first g gs t))
      (λ e. place-past g (gs ++ (f ∷ hs)) e ∙ ap suc (place-front gs hs) ∙ sym (place-past g gs e))

  -- none of these fields is it, and neither is the last
  pub place_end : (gs : List (List ℕ)) (g : List ℕ) → place f gs ≡ length gs → same f g ≡ false → place f (gs ++ (g ∷ [])) ≡ suc (length gs)
  place_end [] g e other = place-past g [] other ∙ ap suc place_none
  place_end (h ∷ gs) g e other =
      by (same f h)
      (λ t. absurd (omega (arith, e, place-first h gs t)))
      (λ past. place-past h (gs ++ (g ∷ [])) past ∙ ap suc (place_end gs g (omega (arith, e, place-past h gs past)) other))

  pub place-again : (gs hs : List (List ℕ)) → eqb (place f (gs ++ (f ∷ hs))) (length gs) ≡ not (is_one gs f)
  place-again gs hs =
      rw (place-front gs hs) (
      by (is_one gs f)
      (λ t. ne_eqb (place f gs) (length gs) (λ e. omega (arith, ltb-true (place f gs) (length gs) t)) ∙ ap not (sym t))
      (λ e. eq-eqb (place f gs) (length gs) (omega (arith, place-most gs, ltb-false (place f gs) (length gs) e)) ∙ ap not (sym e)))

  is_one-cons : (g : List ℕ) (gs : List (List ℕ)) → is_one (g ∷ gs) f ≡ (same f g || is_one gs f)
  is_one-cons g gs =
      by (same f g)
      (λ t. rw t (lt-ltb (place f (g ∷ gs)) (suc (length gs)) (omega (arith, place-first g gs t))))
      (λ e. rw (e, place-past g gs e) (same_tests (ltb (suc (place f gs)) (suc (length gs))) (is_one gs f)
      (λ h. lt-ltb (place f gs) (length gs) (omega (arith, ltb-true (suc (place f gs)) (suc (length gs)) h)))
      (λ h. lt-ltb (suc (place f gs)) (suc (length gs)) (omega (arith, ltb-true (place f gs) (length gs) h)))))

  is_one-none : is_one [] f ≡ false
  is_one-none = le-ltb (place f []) 0 (omega arith)

  is_one-end : (gs : List (List ℕ)) (g : List ℕ) → is_one (gs ++ (g ∷ [])) f ≡ (is_one gs f || same f g)
  is_one-end [] g = is_one-cons g [] ∙ ap (λ (b : Bool). same f g || b) is_one-none ∙ or-false (same f g) ∙ sym (ap (λ (b : Bool). b || same f g) is_one-none)
  is_one-end (h ∷ gs) g =
      is_one-cons h (gs ++ (g ∷ [])) ∙ ap (λ (b : Bool). same f h || b) (is_one-end gs g) ∙ sym (or_assoc (same f h) (is_one gs f) (same f g))
      ∙ sym (ap (λ (b : Bool). b || same f g) (is_one-cons h gs))

-- a: the first is one of the rest, s: it is the last, d: the rest is distinct, b: the last is one of the rest
distinct-tests : (a s d b : Bool) → (not (a || s) && (d && not b)) ≡ ((not a && d) && not (s || b))
distinct-tests true s d b = refl
distinct-tests false true true b = refl
distinct-tests false true false b = refl
distinct-tests false false d b = refl

pub distinct-end : (gs : List (List ℕ)) (f : List ℕ) → distinct (gs ++ (f ∷ [])) ≡ (distinct gs && not (is_one gs f))
unfolding distinct
distinct-end [] f = ap (λ (b : Bool). not b && true) (is_one-none f) ∙ sym (ap not (is_one-none f))
distinct-end (g ∷ gs) f =
    ap₂ (λ (a d : Bool). not a && d) (is_one-end g gs f) (distinct-end gs f) ∙ distinct-tests (is_one gs g) (same g f) (distinct gs) (is_one gs f)
    ∙ ap (λ (b : Bool). (not (is_one gs g) && distinct gs) && not b) (ap (λ (b : Bool). b || is_one gs f) (same-sym g f) ∙ sym (is_one-cons f g gs))

-- a field that is none of them
pub place-all : (f : List ℕ) (gs : List (List ℕ)) → is_one gs f ≡ false → place f gs ≡ length gs
place-all f gs e = omega (arith, place-most f gs, ltb-false (place f gs) (length gs) e)
