-- What a caller of `check_listing` has, by the answer: the refusal of the question, 0 where every check is passed, or the number of a failed check.
--   check-refused, check-read == the answer by what the question's words read as
--   check-passes, check-fails == of an accepted question the answer is 0 exactly if the checks are passed
--   check-delivered == what the answer says of the listing and the records, whoever made them
use mathlib.Core.Path.{◌≡◌, refl, sym, ap, ◌∙◌}
use mathlib.Core.Logic.{◌⊎◌, inl, inr}
use mathlib.Core.Bool.{true, false, not}
use mathlib.Core.List.{List}
use Prim.Native.Nat.{ℕ, ◌-◌}
use native.Mathlib.Omega.{arith}
use Rattle.boxes.proofs.Tests.{by}
use Rattle.questions.specs.Questions.{Question, Got, bad, got, Refusal, when, read_question}
use Rattle.questions.proofs.Laws.{accepted-ended, refused-number, refusal-some, when-yes}
use Rattle.search.specs.Claims.{Accepts}
use Rattle.checker.specs.Limits.{check_failed}
use Rattle.checker.specs.Checks.{accepts, check_number}
use Rattle.checker.specs.Claims.{CheckDelivered}
use Rattle.checker.proofs.Words.{accepts-join, run-accepts}

module _ (w l s : List ℕ) where
  check-refused : {n : ℕ} → read_question w ≡ bad n → check_number w l s ≡ n
  check-refused e = rw e

  check-read : {q : Question} {t : List ℕ} → read_question w ≡ got q t → check_number w l s ≡ when (not (accepts q l s)) check_failed
  check-read e = rw e

  check-passes : {q : Question} {t : List ℕ} → read_question w ≡ got q t → accepts q l s ≡ true → check_number w l s ≡ 0
  check-passes e a = check-read e ∙ rw a

  check-fails : {q : Question} {t : List ℕ} → read_question w ≡ got q t → accepts q l s ≡ false → check_number w l s ≡ check_failed
  check-fails e a = check-read e ∙ rw a

  answered-of : (check_number w l s ≡ 0) ⊎ (Refusal (check_number w l s) ⊎ (check_number w l s ≡ check_failed))
  answered-of = cases (read_question w) refl
    where
      cases : (g : Got Question) → read_question w ≡ g → (check_number w l s ≡ 0) ⊎ (Refusal (check_number w l s) ⊎ (check_number w l s ≡ check_failed))
      cases (bad n) e = inr (inl (rw (check-refused e) (refused-number w n e)))
      cases (got q t) e = by (accepts q l s) (λ a. inl (check-passes e a)) (λ f. inr (inr (check-fails e f)))

  passed-of : check_number w l s ≡ 0 → (q : Question) × Accepts w q × (accepts q l s ≡ true)
  passed-of z = cases (read_question w) refl
    where
      cases : (g : Got Question) → read_question w ≡ g → (q : Question) × Accepts w q × (accepts q l s ≡ true)
      cases (bad n) e = absurd (omega (arith, check-refused e, refusal-some n (refused-number w n e)))
      cases (got q t) e = (q, e ∙ ap (got q) (accepted-ended w q t e), when-yes (accepts q l s) (check_failed - 1) (sym (check-read e) ∙ z))

  pub check-delivered : {r : ℕ} → r ≡ check_number w l s → CheckDelivered w l s r
  check-delivered {r} is = record {
    answered = rw is answered-of;
    refused = λ n e. is ∙ check-refused e;
    passed = λ z. passed-of (sym is ∙ z);
    passes = λ {q} e a. is ∙ check-passes e a;
    fails = λ {q} e f. is ∙ check-fails e f;
    joins = λ {q} e z. accepts-join w e l s (when-yes (accepts q l s) (check_failed - 1) (sym (check-read e) ∙ sym is ∙ z));
    runs = λ {q} e left. is ∙ check-passes e (run-accepts w e left);
  }
