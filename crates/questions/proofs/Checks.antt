-- The answers of a check, and the numbers of the refusals.
--   refusal-some, refusal-few, refusal-not == a refusal's number is not 0, not above the highest, and no number that is not among them
--   when_true, when_false, when-zero == a question answered no has its number, one answered yes has 0, and the other way round
--   when-yes, first-yes   == a question that was answered yes; two of them
--   first_on, first-no, first-is == after a question answered yes the next one counts; one answered no counts by itself, and its number
--   in-range, range-in    == a number that is not out of a range is from 1 up to its limit, and the other way round
use mathlib.Core.Path.{◌≡◌, refl, sym, ◌∙◌}
use mathlib.Core.Bool.{Bool, true, false, not}
use Prim.Native.Nat.{ℕ, zero, suc, ◌≤◌}
use native.Mathlib.Omega.{arith}
use borrow.Author.Tests.{eqb-false, ltb-false, ne_eqb, le-ltb}
use lib.Dec.{eqb, ltb}
use Rattle.boxes.specs.Fits.{Each, none, more}
use Rattle.boxes.proofs.Tests.{clash, or-neither}
use Rattle.boxes.proofs.Lists.{each-mem}
use Rattle.questions.specs.Orders.{is_in}
use Rattle.questions.specs.Questions.{out_of_range, refusals, Refusal, when, first_of}
use Rattle.questions.proofs.Covers.{is_in-mem}

pub refusal-some : (n : ℕ) → Refusal n → 1 ≤ n
unfolding is_in
refusal-some zero h = clash h refl
refusal-some (suc n) h = omega arith

pub refusal-few : (n : ℕ) → Refusal n → n ≤ 28
refusal-few n h = each-mem few (is_in-mem n refusals h)
  where
    few : Each (λ m. m ≤ 28) refusals
    few = more {x = 1} (omega arith) (more {x = 2} (omega arith) (more {x = 3} (omega arith) (more {x = 4} (omega arith) (more {x = 5} (omega arith) (more {x = 6} (omega arith) (more {x = 7} (omega arith) (more {x = 8} (omega arith) (more {x = 9} (omega arith) (more {x = 10} (omega arith) (more {x = 11} (omega arith) (more {x = 12} (omega arith) (more {x = 28} (omega arith) none))))))))))))

pub refusal-not : (n m : ℕ) → Refusal n → is_in m refusals ≡ false → n ≡ m → ⊥
refusal-not n m h f e = clash (rw e at h) f

pub when_true : {b : Bool} (n : ℕ) → b ≡ true → when b n ≡ n
when_true n t = rw t

pub when_false : {b : Bool} (n : ℕ) → b ≡ false → when b n ≡ 0
when_false n f = rw f

pub when-zero : (b : Bool) (n : ℕ) → when b (suc n) ≡ 0 → b ≡ false
when-zero true n e = absurd (omega arith)
when-zero false n e = refl

pub in-range : (n k : ℕ) → out_of_range n k ≡ false → (1 ≤ k) × (k ≤ n)
in-range n k e =
    let h = or-neither (eqb k 0) (ltb n k) e in
    (omega (arith, eqb-false k 0 h.0), ltb-false n k h.1)

pub range-in : (n k : ℕ) → 1 ≤ k → k ≤ n → out_of_range n k ≡ false
range-in n k h l = rw (ne_eqb k 0 (λ z. omega arith), le-ltb n k l)

pub when-yes : (b : Bool) (n : ℕ) → when (not b) (suc n) ≡ 0 → b ≡ true
when-yes true n e = refl
when-yes false n e = absurd (omega arith)

pub first-yes : (a b : ℕ) → first_of a b ≡ 0 → (a ≡ 0) × (b ≡ 0)
first-yes zero b e = (refl, e)
first-yes (suc a) b e = absurd (omega arith)

pub first_on : {a : ℕ} (b : ℕ) → a ≡ 0 → first_of a b ≡ b
first_on b e = rw e

pub first-no : (a b : ℕ) → (a ≡ 0 → ⊥) → first_of a b ≡ a
first-no zero b h = absurd (h refl)
first-no (suc a) b h = refl

pub first-is : {a n : ℕ} (b : ℕ) → a ≡ n → (n ≡ 0 → ⊥) → first_of a b ≡ n
first-is {a} b e h = first-no a b (λ z. h (sym e ∙ z)) ∙ e
