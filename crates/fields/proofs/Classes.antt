-- What a byte is.
--   between_is, between_in, between-not == a byte is between two others, or not, exactly if the test says so
--   class_of-letter, class_of-digit, class_of-space, class_of-line_end, class_of-other == the class of a byte, by its number
--   test, picked, tested == the test that a class stands for; a byte passes the one of its class
--   letter-is, letter-not, digit-is, digit_not == a byte is a letter, or a digit, exactly if its class is
--   digit-range == a digit is one of 48 to 57
use mathlib.Core.Path.{◌≡◌, refl, sym, ap, ◌∙◌}
use mathlib.Core.Bool.{Bool, true, false, ◌&&◌}
use Prim.Native.Nat.{ℕ, ◌≤◌}
use native.Mathlib.Omega.{arith}
use borrow.Author.Tests.{leb-true, le-leb, eq-eqb, ne_eqb}
use lib.Dec.{eqb, leb}
use Rattle.boxes.specs.Intervals.{pick}
use Rattle.boxes.proofs.Tests.{by, and_left, and_right, and_both}
use Rattle.fields.specs.Fields.{space, line_end, is_letter, is_digit, class_of}
use Rattle.fields.specs.declared.field.Class.{Class}
use Rattle.fields.specs.declared.field.Class.TheVariants.{Letter, Digit, Space, LineEnd, Other}

module _ (low high b : ℕ) where
  pub between_is : low ≤ b → b ≤ high → (leb low b && leb b high) ≡ true
  between_is h k = and_both (le-leb low b h) (le-leb b high k)

  pub between_in : (leb low b && leb b high) ≡ true → (low ≤ b) × (b ≤ high)
  between_in e = (leb-true low b (and_left (leb low b) (leb b high) e), leb-true b high (and_right (leb low b) (leb b high) e))

  between-not : (low ≤ b → b ≤ high → ⊥) → (leb low b && leb b high) ≡ false
  between-not n = by (leb low b && leb b high) (λ t. absurd (n (between_in t).0 (between_in t).1)) (λ e. e)

-- the test of a class among those of a letter, a digit, a space and a line's end
abbrev test : Bool → Bool → Bool → Bool → Class → Bool
test l d s e Letter = l
test l d s e Digit = d
test l d s e Space = s
test l d s e LineEnd = e
test l d s e Other = true

picked : (l d s e : Bool) → test l d s e (pick l Letter (pick d Digit (pick s Space (pick e LineEnd Other)))) ≡ true
picked true d s e = refl
picked false true s e = refl
picked false false true e = refl
picked false false false true = refl
picked false false false false = refl

module _ (b : ℕ) where
  pub class_of-letter : 97 ≤ b → b ≤ 122 → class_of b ≡ Letter
  unfolding class_of
  class_of-letter h k = rw (between_is 97 122 b h k)

  pub class_of-digit : 48 ≤ b → b ≤ 57 → class_of b ≡ Digit
  unfolding class_of
  class_of-digit h k = rw (between-not 97 122 b (λ l m. omega arith), between_is 48 57 b h k)

  pub class_of-space : b ≡ space → class_of b ≡ Space
  unfolding class_of
  class_of-space e = rw (between-not 97 122 b (λ l m. omega arith), between-not 48 57 b (λ l m. omega arith), eq-eqb b space e)

  pub class_of-line_end : b ≡ line_end → class_of b ≡ LineEnd
  unfolding class_of
  class_of-line_end e =
      rw (between-not 97 122 b (λ l m. omega arith), between-not 48 57 b (λ l m. omega arith), ne_eqb b space (λ i. omega arith), eq-eqb b line_end e)

  pub class_of-other : (97 ≤ b → b ≤ 122 → ⊥) → (48 ≤ b → b ≤ 57 → ⊥) → (b ≡ space → ⊥) → (b ≡ line_end → ⊥) → class_of b ≡ Other
  unfolding class_of
  class_of-other l d s e = rw (between-not 97 122 b l, between-not 48 57 b d, ne_eqb b space s, ne_eqb b line_end e)

  tested : {a : Class} → class_of b ≡ a → test (is_letter b) (is_digit b) (eqb b space) (eqb b line_end) a ≡ true
  unfolding class_of
  tested e = ap (test (is_letter b) (is_digit b) (eqb b space) (eqb b line_end)) (sym e) ∙ picked (is_letter b) (is_digit b) (eqb b space) (eqb b line_end)

  pub letter-is : class_of b ≡ Letter → is_letter b ≡ true
  letter-is e = tested e

  pub digit-is : class_of b ≡ Digit → is_digit b ≡ true
  digit-is e = tested e

  pub digit-range : is_digit b ≡ true → (48 ≤ b) × (b ≤ 57)
  digit-range e = between_in 48 57 b e

  module _ (a : Class) (is : a ≡ class_of b) where
    pub letter-not : (a ≡ Letter → ⊥) → is_letter b ≡ false
    letter-not n = between-not 97 122 b (λ h k. n (is ∙ class_of-letter h k))

    pub digit_not : (a ≡ Digit → ⊥) → is_digit b ≡ false
    digit_not n = between-not 48 57 b (λ h k. n (is ∙ class_of-digit h k))
