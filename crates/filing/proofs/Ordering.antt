-- The order of filing is one order: what an archive that is sorted by it relies on.
--   same-means, before-means == what it says that two questions are the same, and that one is before the other
--   compared-lower  == of accepted questions, attribute order decides
--   before-between  == in attribute order, what is between two lists of words with one beginning begins so too
--   files           == the order is one
use mathlib.Core.Path.{◌≡◌, refl, sym, ap, ap₂, subst, ◌∙◌}
use mathlib.Core.Logic.{◌⊎◌, inl, inr}
use mathlib.Core.Bool.{true, false}
use mathlib.Core.List.{List, [], ◌∷◌, ◌++◌}
use Prim.Native.Nat.{ℕ}
use native.Mathlib.Omega.{arith}
use lib.ListN.{length, take}
use Rattle.boxes.proofs.Tests.{by, either, clash}
use Rattle.questions.specs.Orders.{same, before}
use Rattle.questions.specs.Questions.{number_of}
use Rattle.questions.specs.Beginnings.{AcceptedWords}
use Rattle.questions.proofs.Laws.{same-is, before-cases, before-irrefl, before-trans}
use Rattle.questions.proofs.OrderedLists.{ordered_same}
use Rattle.filing.specs.Comparisons.{Comparison, Before, Same, After, comparison_case, mirrored, by_words, compared}
use Rattle.filing.specs.Claims.{Compares, first-refused, second-refused, is-before, is_same, is-after, Files}
use Rattle.filing.proofs.Differing.{differs-back, differs-lower}
use Rattle.filing.proofs.Comparing.{number-both, refused-some, compared_same, compared-before, compared-after, compared-words, compares, compares-only}

-- ---- what an answer means

-- answers of two cases are not equal
apart : {r q : Comparison} → r ≡ q → (comparison_case r ≡ comparison_case q → ⊥) → ⊥
apart i f = f (ap comparison_case i)

same-case : {s t : List ℕ} {r : Comparison} → Compares s t r → r ≡ Same → s ≡ t
same-case (is_same a e) i = e
same-case (first-refused e) i = absurd (apart i (omega arith))
same-case (second-refused a e) i = absurd (apart i (omega arith))
same-case (is-before a b k d l) i = absurd (apart i (omega arith))
same-case (is-after a b k d l) i = absurd (apart i (omega arith))

record Lower (s t : List ℕ) : Type 0 where
  pub first : AcceptedWords s
  pub second : AcceptedWords t
  pub lower : before s t ≡ true

before-case : {s t : List ℕ} {r : Comparison} → Compares s t r → r ≡ Before → Lower s t
before-case {s = s} {t = t} (is-before a b i d l) e = record { first = a; second = b; lower = differs-lower s t i d l }
before-case (first-refused e) k = absurd (apart k (omega arith))
before-case (second-refused a e) k = absurd (apart k (omega arith))
before-case (is_same a e) k = absurd (apart k (omega arith))
before-case (is-after a b i d l) k = absurd (apart k (omega arith))

same-means : (s t : List ℕ) → compared s t ≡ Same → s ≡ t
same-means s t e = same-case (compares s t) e

before-means : (s t : List ℕ) → compared s t ≡ Before → Lower s t
before-means s t e = before-case (compares s t) e

compared-lower : (s t : List ℕ) → Lower s t → compared s t ≡ Before
unfolding by_words
compared-lower s t r =
    let other : same s t ≡ false = by (same s t) (λ u. absurd (before-irrefl t (subst (λ (l : List ℕ). before l t ≡ true) (same-is s t u) r.lower))) (λ f. f) in
    compared-words s t (number-both s t r.first r.second) ∙ rw (other, r.lower)

-- ---- one order

total-case : {s t : List ℕ} {r : Comparison} → AcceptedWords s → AcceptedWords t → Compares s t r → (r ≡ Before) ⊎ ((r ≡ Same) ⊎ (r ≡ After))
total-case {s = s} a b (first-refused {n = n} e) = absurd (refused-some s n e (sym (ap number_of e) ∙ a))
total-case {t = t} a b (second-refused {n = n} c e) = absurd (refused-some t n e (sym (ap number_of e) ∙ b))
total-case a b (is-before c d i e l) = inl refl
total-case a b (is_same c e) = inr (inl refl)
total-case a b (is-after c d i e l) = inr (inr refl)

mirror-case : {s t : List ℕ} {r : Comparison} → AcceptedWords s → AcceptedWords t → Compares s t r → compared t s ≡ mirrored r
mirror-case {s = s} a b (first-refused {n = n} e) = absurd (refused-some s n e (sym (ap number_of e) ∙ a))
mirror-case {t = t} a b (second-refused {n = n} c e) = absurd (refused-some t n e (sym (ap number_of e) ∙ b))
mirror-case {s = s} {t = t} a b (is-before c d i e l) = compared-after t s b a i (differs-back e) l
mirror-case {s = s} {t = t} a b (is_same c e) = compared_same t s b (sym e)
mirror-case {s = s} {t = t} a b (is-after c d i e l) = compared-before t s b a i (differs-back e) l

before-itself-not : (s : List ℕ) → compared s s ≡ Before → ⊥
before-itself-not s e = before-irrefl s (before-means s s e).lower

before-chain : (s t u : List ℕ) → compared s t ≡ Before → compared t u ≡ Before → compared s u ≡ Before
before-chain s t u e f =
    let p = before-means s t e in
    let q = before-means t u f in
    compared-lower s u (record { first = p.first; second = q.second; lower = before-trans s t u p.lower q.lower })

-- ---- what begins alike stands together

before-between : (b s t u : List ℕ) → before (b ++ s) t ≡ true → before t (b ++ u) ≡ true → take (length b) t ≡ b
unfolding before
before-between [] s t u e f = refl
before-between (x ∷ b) s [] u e f = clash e refl
before-between (x ∷ b) s (y ∷ t) u e f =
    either (before-cases x y (b ++ s) t e)
    (λ h. either (before-cases y x t (b ++ u) f) (λ k. absurd (omega arith)) (λ k. absurd (omega (arith, k.0))))
    (λ h. either (before-cases y x t (b ++ u) f)
    (λ k. absurd (omega (arith, h.0)))
    (λ k. ap₂ ◌∷◌ (sym h.0) (before-between b s t u h.1 k.1)))

pub files : Files
files = record {
  says = compares;
  only = compares-only;
  same-words = same-means;
  words_same = λ s a. compared_same s s a refl;
  total = λ s t a b. total-case a b (compares s t);
  mirror = λ s t a b. mirror-case a b (compares s t);
  transitive = before-chain;
  one-order = ordered_same before-itself-not before-chain;
  together = λ b s t u e f. before-between b s t u (before-means (b ++ s) t e).lower (before-means t (b ++ u) f).lower;
}
