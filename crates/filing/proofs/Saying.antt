-- What `filing_of` promises, at each of its answers.
--   filed-first, filed-second == one of the two is refused
--   filed-both    == both are accepted: the order of the words decides
--   shared-there  == how many words are shared, by the answer
--   few-shared    == the two share no more words than a question has
use mathlib.Core.Path.{◌≡◌, refl, sym, ap, ◌∙◌}
use mathlib.Core.Bool.{true, false}
use mathlib.Core.List.{List, [], ◌∷◌}
use Prim.Native.Nat.{ℕ, ◌≤◌}
use native.Mathlib.Omega.{arith}
use borrow.Author.Tests.{eq-eqb, ltb-true, lt-ltb}
use lib.Dec.{ltb}
use lib.ListN.{length}
use Rattle.std.specs.Prelude.{Ok, Err, MatchResult}
use Rattle.std.specs.declared.cmp.Ordering.{Ordering}
use Rattle.std.specs.declared.cmp.Ordering.TheVariants.{Less, Equal, Greater}
use Rattle.std.specs.Ordering.{nat_cmp, ordering_reverse}
use Rattle.std.specs.Cmp.Lexicographic.{slice_cmp}
use Rattle.std.proofs.lemmas.Cmp.{nat_list_cmp_total}
use Rattle.boxes.proofs.Tests.{by, either, clash}
use Rattle.questions.specs.Limits.{max_words}
use Rattle.questions.specs.Orders.{same, before}
use Rattle.questions.specs.Questions.{number_of, read_question}
use Rattle.questions.specs.Refusals.{Reading, refusal_number}
use Rattle.questions.specs.declared.refusal.Refusal.{Refusal}
use Rattle.questions.specs.declared.refusal.Refusal.TheVariants.{WordCount, AttributeCount, MissingWord, WidthRange, TableCount, ArityRange, AttributeNumber, RowCount, HighValue, OutOfOrder, WordsLeft, BareAttribute, ReversedPair}
use Rattle.questions.specs.Beginnings.{AcceptedWords}
use Rattle.questions.proofs.Laws.{accepted-few, same-is, same_refl, before-cases}
use Rattle.filing.specs.Comparisons.{Refused, comparison_of, comparison_number, filing_number, compared, shared_count}
use Rattle.filing.specs.Says.{filing_shared, FilingSays}
use Rattle.filing.specs.declared.compare.Filing.{Filing}
use Rattle.filing.proofs.Sharing.{count-within}
use Rattle.filing.proofs.Differing.{first-differs, differs-back, differs-lower, differs-sides}
use Rattle.filing.proofs.Comparing.{number-first, number-second, compared-refused, compared-number, compared_same, compared-before, compared-after, shared-refused, shared-both, shared-long}

-- ---- the order of words, as std compares them

cmp-lower : (s t : List ℕ) → before s t ≡ true → slice_cmp nat_cmp s t ≡ Less
unfolding before
cmp-lower [] t e = absurd (clash e refl)
cmp-lower (x ∷ s) [] e = absurd (clash e refl)
cmp-lower (x ∷ s) (y ∷ t) e =
    either (before-cases x y s t e)
    (λ h. rw (lt-ltb x y h))
    (λ h.
    let not-less : ltb x y ≡ false = by (ltb x y) (λ u. absurd (omega (arith, ltb-true x y u, h.0))) (λ f. f) in
    rw (not-less, eq-eqb x y h.0) (cmp-lower s t h.1))

cmp-higher : (s t : List ℕ) → before t s ≡ true → slice_cmp nat_cmp s t ≡ Greater
cmp-higher s t e = nat_list_cmp_total.antisymm s t ∙ ap ordering_reverse (cmp-lower t s e)

reversed_equal : (o : Ordering) → o ≡ ordering_reverse o → o ≡ Equal
reversed_equal Less e = cc
reversed_equal Equal e = refl
reversed_equal Greater e = cc

cmp_same : (s : List ℕ) → slice_cmp nat_cmp s s ≡ Equal
cmp_same s = reversed_equal (slice_cmp nat_cmp s s) (nat_list_cmp_total.antisymm s s)

-- ---- each answer

-- a refusal's number is not 0
number-some : (r : Refusal) → refusal_number r ≡ 0 → ⊥
number-some WordCount e = absurd (omega arith)
number-some AttributeCount e = absurd (omega arith)
number-some MissingWord e = absurd (omega arith)
number-some WidthRange e = absurd (omega arith)
number-some TableCount e = absurd (omega arith)
number-some ArityRange e = absurd (omega arith)
number-some AttributeNumber e = absurd (omega arith)
number-some RowCount e = absurd (omega arith)
number-some HighValue e = absurd (omega arith)
number-some OutOfOrder e = absurd (omega arith)
number-some WordsLeft e = absurd (omega arith)
number-some BareAttribute e = absurd (omega arith)
number-some ReversedPair e = absurd (omega arith)

pub shared-there : (r : Reading Filing) (k : ℕ) → MatchResult r (λ f. k ≡ f.shared) (λ _. k ≡ 0) → k ≡ filing_shared r
shared-there (Ok f) k h = h
shared-there (Err e) k h = h

module _ (s t : List ℕ) where
  -- of accepted questions it is the comparison
  compared-cmp : AcceptedWords s → AcceptedWords t → comparison_of (Ok (slice_cmp nat_cmp s t)) ≡ compared s t
  compared-cmp a b =
      by (same s t)
      (λ u.
      let is : s ≡ t = same-is s t u in
      ap (λ (o : Ordering). comparison_of (Ok o)) (ap (slice_cmp nat_cmp s) (sym is) ∙ cmp_same s) ∙ sym (compared_same s t a is))
      (λ f.
      let d = first-differs s t a b (λ e. clash (ap (λ (l : List ℕ). same s l) (sym e) ∙ same_refl s) f) in
      either (differs-sides s t (shared_count s t) d)
      (λ l. ap (λ (o : Ordering). comparison_of (Ok o)) (cmp-lower s t (differs-lower s t (shared_count s t) d l)) ∙ sym (compared-before s t a b (shared_count s t) d l))
      (λ l. ap (λ (o : Ordering). comparison_of (Ok o)) (cmp-higher s t (differs-lower t s (shared_count s t) (differs-back d) l)) ∙ sym (compared-after s t a b (shared_count s t) d l)))

  filed-refused : (r : Refusal) → filing_number s t ≡ refusal_number r → FilingSays s t (Err r)
  filed-refused r e =
      let k : filing_number s t ≡ 0 → ⊥ = λ z. number-some r (sym e ∙ z) in
      record {
        comparison = sym (compared-refused s t k ∙ ap Refused e);
        number = sym e;
        shared = sym (ap length (shared-refused s t k));
      }

  pub filed-first : (r : Refusal) → refusal_number r ≡ number_of (read_question s) → FilingSays s t (Err r)
  filed-first r e = filed-refused r (number-first s t (λ z. number-some r (e ∙ z)) ∙ sym e)

  pub filed-second : (r : Refusal) → AcceptedWords s → refusal_number r ≡ number_of (read_question t) → FilingSays s t (Err r)
  filed-second r a e = filed-refused r (number-second s t a ∙ sym e)

  pub filed-both : AcceptedWords s → AcceptedWords t → {f : Filing} → f.order ≡ slice_cmp nat_cmp s t → f.shared ≡ shared_count s t → FilingSays s t (Ok f)
  filed-both a b {f} order shared =
      let is : comparison_of (Ok f.order) ≡ compared s t = ap (λ (o : Ordering). comparison_of (Ok o)) order ∙ compared-cmp a b in
      record {
        comparison = is;
        number = ap comparison_number is ∙ compared-number s t;
        shared = shared ∙ sym (ap length (shared-both s t a b) ∙ shared-long s t);
      }

  pub few-shared : AcceptedWords s → shared_count s t ≤ max_words
  few-shared a = omega (arith, accepted-few s a, (count-within s t).0)
