-- How a reading is taken apart: a refusal's number is one of the refusals, and what was read is as its checks say.
--   Yields P g                           == g refuses with one of the refusals, or what it gives has P
--   yields-got, yields-bad               == what is then known of what was given, and of a refusal's number
--   yields-pick, yields-then, yields-map == of a choice, of one reading after another, of what follows from P
--   Check P n                            == a check's number n is 0 or one of the refusals, and where it is 0 P holds
--   check-when, check-first, check-map   == of one question, of two, of what follows from P
--   word_in-yields                        == a word that was read is the first one, and passes its check
use mathlib.Core.Path.{◌≡◌, refl}
use mathlib.Core.Bool.{Bool, true, false}
use mathlib.Core.List.{List, [], ◌∷◌}
use Prim.Native.Nat.{ℕ, zero, suc}
use native.Mathlib.Omega.{arith}
use lib.Dec.{eqb}
use borrow.Author.Tests.{eqb-true, eqb-false}
use Rattle.boxes.specs.Intervals.{pick}
use Rattle.questions.specs.Orders.{is_in}
use Rattle.questions.specs.Questions.{Got, bad, got, then_g, Refusal, when, first_of, word_in}
use Rattle.questions.proofs.Checks.{refusal-some}

pub data Yields {A : Type 0} (P : A → List ℕ → Type 0) : Got A → Type 0 where
  refuses : (n : ℕ) → Refusal n → Yields P (bad n)
  gives : (x : A) (s : List ℕ) → P x s → Yields P (got x s)

module _ {A : Type 0} {P : A → List ℕ → Type 0} where
  pub yields-got : {g : Got A} {x : A} {s : List ℕ} → Yields P g → g ≡ got x s → P x s
  yields-got (refuses n h) e = let z : ◌≡◌ {A = ℕ} 0 1 = cc in absurd (omega arith)
  yields-got {x = x} {s = s} (gives y t p) e =
      let same : y ≡ x = cc in
      let rest : t ≡ s = cc in
      rw (same, rest) at p

  pub yields-bad : {g : Got A} {n : ℕ} → Yields P g → g ≡ bad n → Refusal n
  yields-bad {n = n} (refuses m h) e = let same : m ≡ n = cc in rw same at h
  yields-bad (gives x s p) e = let z : ◌≡◌ {A = ℕ} 0 1 = cc in absurd (omega arith)

  pub yields-pick : (b : Bool) {g h : Got A} → (b ≡ true → Yields P g) → (b ≡ false → Yields P h) → Yields P (pick b g h)
  yields-pick true f g = f refl
  yields-pick false f g = g refl

  pub yields-then : {B : Type 0} {Q : B → List ℕ → Type 0} {g : Got A} {f : A → List ℕ → Got B} → Yields P g → ((x : A) (s : List ℕ) → P x s → Yields Q (f x s)) → Yields Q (then_g g f)
  yields-then (refuses n h) k = refuses n h
  yields-then (gives x s p) k = k x s p

  pub yields-map : {Q : A → List ℕ → Type 0} {g : Got A} → ((x : A) (s : List ℕ) → P x s → Q x s) → Yields P g → Yields Q g
  yields-map k (refuses n h) = refuses n h
  yields-map k (gives x s p) = gives x s (k x s p)

-- ---- checks: each number is a refusal's or 0, which says that the check is passed

pub record Check (P : Type 0) (n : ℕ) : Type 0 where
  pub refused : (n ≡ 0 → ⊥) → Refusal n
  pub passed : n ≡ 0 → P

pub check-when : (b : Bool) (n : ℕ) → Refusal n → Check (b ≡ false) (when b n)
check-when true n h = record { refused = λ some. h; passed = λ e. absurd (omega (arith, refusal-some n h)) }
check-when false n h = record { refused = λ some. absurd (some refl); passed = λ e. refl }

pub check-first : {P Q : Type 0} (a b : ℕ) → Check P a → Check Q b → Check (P × Q) (first_of a b)
check-first zero b c d = record { refused = d.refused; passed = λ e. (c.passed refl, d.passed e) }
check-first (suc a) b c d = record { refused = c.refused; passed = λ e. absurd (omega arith) }

pub check-map : {P Q : Type 0} {n : ℕ} → (P → Q) → Check P n → Check Q n
check-map f c = record { refused = c.refused; passed = λ e. f (c.passed e) }

-- ---- one word

pub word_in-yields : {P : ℕ → Type 0} {check : ℕ → ℕ} (s : List ℕ) → ((w : ℕ) → Check (P w) (check w)) → Yields (λ w t. (s ≡ w ∷ t) × P w) (word_in check s)
unfolding word_in is_in
word_in-yields [] c = refuses 3 refl
word_in-yields {check = check} (w ∷ s) c =
    yields-pick (eqb (check w) 0)
    (λ e. gives w s (refl, (c w).passed (eqb-true (check w) 0 e)))
    (λ e. refuses (check w) ((c w).refused (eqb-false (check w) 0 e)))
