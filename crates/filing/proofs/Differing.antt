-- A first differing word: of two accepted questions that differ there is one, since neither is the beginning of the other.
--   Follows s t     == t is s, and then perhaps more words
--   Meeting s t     == how two lists of words meet: they differ at a first word, or one is a beginning of the other
--   meeting         == so of any two
--   first-differs   == of two accepted questions that differ, a first differing word exists
--   differs-back    == the other way round
--   differs-lower, differs-sides == the lower word is before the other, by attribute order; one of the two is lower
use mathlib.Core.Path.{◌≡◌, refl, sym, ap, ◌∙◌}
use mathlib.Core.Logic.{◌⊎◌, inl, inr}
use mathlib.Core.Bool.{true}
use mathlib.Core.List.{List, [], ◌∷◌, ◌++◌, append-nil}
use Prim.Native.Nat.{ℕ, ◌<◌}
use native.Mathlib.Omega.{arith}
use borrow.Author.Tests.{eqb-true, eqb-false, ltb-true, ltb-false, eq-eqb}
use lib.Dec.{eqb, ltb}
use lib.ListN.{get_or, take}
use lib.Seq.{get_or-take}
use Rattle.boxes.proofs.Tests.{by}
use Rattle.questions.specs.Orders.{before}
use Rattle.questions.specs.Beginnings.{AcceptedWords}
use Rattle.questions.proofs.Laws.{before_at, no-beginning}
use Rattle.filing.specs.Comparisons.{shared_count}
use Rattle.filing.specs.Claims.{DiffersAt, FirstDiffers}

record Follows (s t : List ℕ) : Type 0 where
  pub rest : List ℕ
  pub is : t ≡ s ++ rest

data Meeting (s t : List ℕ) : Type 0 where
  differ : DiffersAt s t (shared_count s t) → Meeting s t
  first : Follows s t → Meeting s t
  second : Follows t s → Meeting s t

meeting : (s t : List ℕ) → Meeting s t
unfolding shared_count
meeting [] t = first (record { rest = t; is = refl })
meeting (x ∷ s) [] = second (record { rest = x ∷ s; is = refl })
meeting (x ∷ s) (y ∷ t) =
    by (eqb x y)
    (λ e. same_first (eqb-true x y e) (meeting s t))
    (λ f. differ (rw f (record { in-first = omega arith; in-second = omega arith; alike = refl; differ = eqb-false x y f })))
  where
    same_first : x ≡ y → Meeting s t → Meeting (x ∷ s) (y ∷ t)
    same_first e (differ d) = differ (rw (eq-eqb x y e)
        (record { in-first = omega (arith, d.in-first); in-second = omega (arith, d.in-second); alike = cc d.alike; differ = d.differ }))
    same_first e (first r) = first (record { rest = r.rest; is = cc r.is })
    same_first e (second r) = second (record { rest = r.rest; is = cc r.is })

-- of accepted questions none goes on after another
follows_same : (s t : List ℕ) → AcceptedWords s → AcceptedWords t → Follows s t → s ≡ t
follows_same s t a b r =
    let none : r.rest ≡ [] = no-beginning s r.rest a (rw (← r.is) b) in
    sym (r.is ∙ ap (λ (l : List ℕ). s ++ l) none ∙ append-nil s)

pub first-differs : FirstDiffers
first-differs s t a b other = cases (meeting s t)
  where
    cases : Meeting s t → DiffersAt s t (shared_count s t)
    cases (differ d) = d
    cases (first r) = absurd (other (follows_same s t a b r))
    cases (second r) = absurd (other (sym (follows_same t s b a r)))

-- ---- the first differing word, and attribute order

alike_at : (s t : List ℕ) (i j : ℕ) → j < i → take i s ≡ take i t → get_or s j 0 ≡ get_or t j 0
alike_at s t i j h e = sym (get_or-take i s j 0 h) ∙ ap (λ (l : List ℕ). get_or l j 0) e ∙ get_or-take i t j 0 h

pub differs-back : {s t : List ℕ} {i : ℕ} → DiffersAt s t i → DiffersAt t s i
differs-back d = record { in-first = d.in-second; in-second = d.in-first; alike = sym d.alike; differ = λ e. d.differ (sym e) }

pub differs-lower : (s t : List ℕ) (i : ℕ) → DiffersAt s t i → get_or s i 0 < get_or t i 0 → before s t ≡ true
differs-lower s t i d h = before_at s t i d.in-first d.in-second (λ j l. alike_at s t i j l d.alike) h

pub differs-sides : (s t : List ℕ) (i : ℕ) → DiffersAt s t i → (get_or s i 0 < get_or t i 0) ⊎ (get_or t i 0 < get_or s i 0)
differs-sides s t i d =
    by (ltb (get_or s i 0) (get_or t i 0))
    (λ l. inl (ltb-true (get_or s i 0) (get_or t i 0) l))
    (λ l. inr (omega (arith, ltb-false (get_or s i 0) (get_or t i 0) l, d.differ)))
