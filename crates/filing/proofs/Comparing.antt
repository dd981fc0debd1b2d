-- What the comparison of two questions says, by case, and how many words they share.
--   number-both, number-first, number-second == 0 where both are accepted, the first one's refusal, the second's
--   both-accepted   == where it is 0, both are accepted
--   compared-refused, shared-refused == of a refused question
--   compared-words  == of two accepted questions the words decide
--   compared-number == the number that an answer has
--   compared_same, compared-before, compared-after == of equal words, and where the word that differs is lower or higher
--   shared-both     == of accepted questions
--   refused-some    == a refusal's number is not 0
--   compares        == each case says what holds
--   compares-only   == and nothing else can be the answer
--   shared-long     == how long the shared beginning is
--   shares          == what is known of the shared beginning
--   shared-taken    == it is taken from the first question by its length
use mathlib.Core.Path.{◌≡◌, refl, sym, ap, subst, ◌∙◌}
use mathlib.Core.Bool.{true, false}
use mathlib.Core.List.{List, []}
use Prim.Native.Nat.{ℕ, ◌≤◌, ◌<◌}
use native.Mathlib.Omega.{arith}
use borrow.Author.Tests.{eq-eqb, ne_eqb, eqb-true, eqb-false}
use lib.Dec.{eqb}
use lib.ListN.{length, get_or, take}
use lib.Seq.{take-length, length-take-le}
use Rattle.boxes.proofs.Tests.{by, either, numbered, clash}
use Rattle.questions.specs.Orders.{same, before}
use Rattle.questions.specs.Questions.{Question, Got, bad, got, number_of, read_question}
use Rattle.questions.specs.Beginnings.{AcceptedWords}
use Rattle.questions.proofs.Laws.{refusal-some, refused-number, same-is, same_refl, before-not, before-differs}
use Rattle.filing.specs.Comparisons.{Comparison, Refused, Before, Same, After, comparison_number, filing_number, by_words, compared, shared_count, shared_beginning, shared_of}
use Rattle.filing.specs.Claims.{DiffersAt, Compares, first-refused, second-refused, is-before, is_same, is-after, Shares}
use Rattle.filing.proofs.Sharing.{count-within, count-alike, count-common, count_same}
use Rattle.filing.proofs.Differing.{first-differs, differs-back, differs-lower, differs-sides}

module _ (s t : List ℕ) where
  -- ---- the number

  pub number-both : AcceptedWords s → AcceptedWords t → filing_number s t ≡ 0
  number-both a b = rw (a, b)

  pub number-first : (AcceptedWords s → ⊥) → filing_number s t ≡ number_of (read_question s)
  number-first h = numbered (number_of (read_question s)) (λ z. absurd (h z)) (λ n e. rw e)

  pub number-second : AcceptedWords s → filing_number s t ≡ number_of (read_question t)
  number-second a = rw a

  pub both-accepted : filing_number s t ≡ 0 → AcceptedWords s × AcceptedWords t
  both-accepted e =
      by (eqb (number_of (read_question s)) 0)
      (λ u. let a : AcceptedWords s = eqb-true (number_of (read_question s)) 0 u in (a, sym (number-second a) ∙ e))
      (λ f. let h = eqb-false (number_of (read_question s)) 0 f in absurd (h (sym (number-first h) ∙ e)))

  -- ---- the answer

  pub compared-refused : (filing_number s t ≡ 0 → ⊥) → compared s t ≡ Refused (filing_number s t)
  unfolding compared
  compared-refused h = rw (ne_eqb (filing_number s t) 0 h)

  pub compared-words : filing_number s t ≡ 0 → compared s t ≡ by_words s t
  unfolding compared
  compared-words e = rw (eq-eqb (filing_number s t) 0 e)

  pub compared-number : comparison_number (compared s t) ≡ filing_number s t
  unfolding by_words
  compared-number =
      by (eqb (filing_number s t) 0)
      (λ u. let e = eqb-true (filing_number s t) 0 u in ap comparison_number (compared-words e) ∙ word_number ∙ sym e)
      (λ f. ap comparison_number (compared-refused (eqb-false (filing_number s t) 0 f)))
    where
      word_number : comparison_number (by_words s t) ≡ 0
      word_number = by (same s t) (λ u. rw u) (λ f. by (before s t) (λ u. rw (f, u)) (λ g. rw (f, g)))

  pub compared_same : AcceptedWords s → s ≡ t → compared s t ≡ Same
  unfolding by_words
  compared_same a e =
      let b : AcceptedWords t = ap (λ (l : List ℕ). number_of (read_question l)) (sym e) ∙ a in
      compared-words (number-both a b) ∙ rw (← e) (rw (same_refl s))

  module _ (a : AcceptedWords s) (b : AcceptedWords t) (i : ℕ) (d : DiffersAt s t i) where
    pub compared-before : get_or s i 0 < get_or t i 0 → compared s t ≡ Before
    unfolding by_words
    compared-before h =
        let e : before s t ≡ true = differs-lower s t i d h in
        let other : same s t ≡ false = by (same s t) (λ u. absurd (d.differ (ap (λ (l : List ℕ). get_or l i 0) (same-is s t u)))) (λ f. f) in
        compared-words (number-both a b) ∙ rw (other, e)

    pub compared-after : get_or t i 0 < get_or s i 0 → compared s t ≡ After
    unfolding by_words
    compared-after h =
        let e : before t s ≡ true = differs-lower t s i (differs-back d) h in
        compared-words (number-both a b) ∙ rw (before-differs t s e, before-not t s e)

  -- ---- the shared beginning

  pub shared-refused : (filing_number s t ≡ 0 → ⊥) → shared_of s t ≡ []
  unfolding shared_of
  shared-refused h = rw (ne_eqb (filing_number s t) 0 h)

  pub shared-both : AcceptedWords s → AcceptedWords t → shared_of s t ≡ shared_beginning s t
  unfolding shared_of
  shared-both a b = rw (eq-eqb (filing_number s t) 0 (number-both a b))

-- ---- each case says what holds

bad-of : (g : Got Question) → (number_of g ≡ 0 → ⊥) → g ≡ bad (number_of g)
bad-of (bad n) h = refl
bad-of (got q u) h = absurd (h refl)

accepted-equal : (s t : List ℕ) → AcceptedWords s → s ≡ t → AcceptedWords t
accepted-equal s t a e = subst AcceptedWords e a

pub compares : (s t : List ℕ) → Compares s t (compared s t)
compares s t =
    by (eqb (filing_number s t) 0)
    (λ u. let p = both-accepted s t (eqb-true (filing_number s t) 0 u) in both p.0 p.1)
    (λ f. let h = eqb-false (filing_number s t) 0 f in subst (λ (r : Comparison). Compares s t r) (sym (compared-refused s t h)) (one h))
  where
    both : AcceptedWords s → AcceptedWords t → Compares s t (compared s t)
    both a b =
        by (same s t)
        (λ u. let e = same-is s t u in subst (λ (r : Comparison). Compares s t r) (sym (compared_same s t a e)) (is_same a e))
        (λ f.
        let other : s ≡ t → ⊥ = λ e. clash (ap (λ (l : List ℕ). same s l) (sym e) ∙ same_refl s) f in
        let d = first-differs s t a b other in
        either (differs-sides s t (shared_count s t) d)
        (λ l. subst (λ (r : Comparison). Compares s t r) (sym (compared-before s t a b (shared_count s t) d l)) (is-before a b (shared_count s t) d l))
        (λ l. subst (λ (r : Comparison). Compares s t r) (sym (compared-after s t a b (shared_count s t) d l)) (is-after a b (shared_count s t) d l)))

    one : (filing_number s t ≡ 0 → ⊥) → Compares s t (Refused (filing_number s t))
    one h =
        by (eqb (number_of (read_question s)) 0)
        (λ u.
        let a : AcceptedWords s = eqb-true (number_of (read_question s)) 0 u in
        let e = number-second s t a in
        subst (λ (n : ℕ). Compares s t (Refused n)) (sym e) (second-refused a (bad-of (read_question t) (λ z. h (e ∙ z)))))
        (λ f.
        let k = eqb-false (number_of (read_question s)) 0 f in
        subst (λ (n : ℕ). Compares s t (Refused n)) (sym (number-first s t k)) (first-refused (bad-of (read_question s) k)))

pub refused-some : (s : List ℕ) (n : ℕ) → read_question s ≡ bad n → n ≡ 0 → ⊥
refused-some s n e z = let some : 1 ≤ n = refusal-some n (refused-number s n e) in omega arith

refused-by : (s t : List ℕ) (n : ℕ) → filing_number s t ≡ n → (n ≡ 0 → ⊥) → Refused n ≡ compared s t
refused-by s t n e h = sym (compared-refused s t (λ z. h (sym e ∙ z)) ∙ ap Refused e)

pub compares-only : (s t : List ℕ) (r : Comparison) → Compares s t r → r ≡ compared s t
compares-only s t r (first-refused {n = n} e) =
    let k : number_of (read_question s) ≡ n = ap number_of e in
    let h = refused-some s n e in
    refused-by s t n (number-first s t (λ z. h (sym k ∙ z)) ∙ k) h
compares-only s t r (second-refused {n = n} a e) = refused-by s t n (number-second s t a ∙ ap number_of e) (refused-some t n e)
compares-only s t r (is-before a b i d l) = sym (compared-before s t a b i d l)
compares-only s t r (is_same a e) = sym (compared_same s t a e)
compares-only s t r (is-after a b i d l) = sym (compared-after s t a b i d l)

-- ---- what they share

pub shared-long : (s t : List ℕ) → length (shared_beginning s t) ≡ shared_count s t
shared-long s t = length-take-le (shared_count s t) s (count-within s t).0

pub shares : (s t : List ℕ) → Shares s t (shared_of s t)
shares s t =
    by (eqb (filing_number s t) 0)
    (λ u. let p = both-accepted s t (eqb-true (filing_number s t) 0 u) in subst (λ (r : List ℕ). Shares s t r) (sym (shared-both s t p.0 p.1)) (both p.0 p.1))
    (λ f. let h = eqb-false (filing_number s t) 0 f in subst (λ (r : List ℕ). Shares s t r) (sym (shared-refused s t h)) (none h))
  where
    none : (filing_number s t ≡ 0 → ⊥) → Shares s t []
    none h = record {
      of-first = refl;
      of-second = refl;
      refused = λ k. refl;
      longest = λ a b c u v e f. absurd (h (number-both s t a b));
      whole = λ a e. absurd (h (number-both s t a (accepted-equal s t a e)));
      differs = λ a b other. absurd (h (number-both s t a b));
    }

    both : AcceptedWords s → AcceptedWords t → Shares s t (shared_beginning s t)
    both a b = record {
      of-first = ap (λ (k : ℕ). take k s) (sym (shared-long s t));
      of-second = count-alike s t ∙ ap (λ (k : ℕ). take k t) (sym (shared-long s t));
      refused = λ h. absurd (h (number-both s t a b));
      longest = λ c d p u v e f.
          let few : length p ≤ shared_count s t = rw (e, f) (count-common p u v) in
          omega (arith, few, shared-long s t);
      whole = λ c e. ap (λ (l : List ℕ). take (shared_count s l) s) (sym e) ∙ ap (λ (k : ℕ). take k s) (count_same s) ∙ take-length s;
      differs = λ c d other. subst (λ (k : ℕ). DiffersAt s t k) (sym (shared-long s t)) (first-differs s t a b other);
    }

pub shared-taken : (s t : List ℕ) (k : ℕ) → k ≡ length (shared_of s t) → take k s ≡ shared_of s t
shared-taken s t k e = ap (λ (j : ℕ). take j s) e ∙ sym (shares s t).of-first
