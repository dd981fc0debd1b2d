-- Numbers: 0 to 65,535, without leading zeros.
--   value_from-end  == one digit more
--   value_from-rise == with more digits the value does not fall
--   NumberSoFar f i v == the first i bytes of f are digits, and v, not too large, is their value
--   so-far-none, so_far_more == no byte is read; one more is
--   led f, led-zero, led-one, led-other == the first digit may stand there: no number of more digits begins with 0
--   number_in-none, number_in-lead, number_in-not, number_in-large, number_in-is == no byte, a leading zero, a byte that is no digit, too large, a number
--   right-number, value-number == what the answer tells of the field
use mathlib.Core.Path.{◌≡◌, refl, sym, ap, ◌∙◌}
use mathlib.Core.Bool.{Bool, true, false, ◌||◌, not, and-false}
use mathlib.Core.List.{List, [], ◌∷◌, ◌++◌}
use Prim.Native.Nat.{ℕ, ◌+◌, ◌-◌, ◌*◌, ◌≤◌, ◌<◌}
use native.Mathlib.Numerals.{add-one}
use native.Mathlib.Omega.{arith}
use borrow.Author.Tests.{le-leb, lt-leb, eq-eqb, ne_eqb}
use lib.Dec.{eqb, leb}
use lib.ListN.{length, get_or, take, drop, take-append-drop}
use lib.Seq.{take-suc, take_all}
use Rattle.boxes.proofs.Tests.{by, or_left, or_right}
use Rattle.fields.specs.Limits.{max_value}
use Rattle.fields.specs.Fields.{every, is_digit, value_from, is_number, field_number}
use Rattle.fields.specs.Lines.{number_in, is_right, value_in}
use Rattle.std.specs.Prelude.{Some, None, unwrap_or}
use Rattle.boxes.proofs.Every.{every-none, every-take-more, every-take-all}

value_from-none : (v : ℕ) → value_from v [] ≡ v
unfolding value_from
value_from-none v = refl

value_from-append : (v : ℕ) (f g : List ℕ) → value_from v (f ++ g) ≡ value_from (value_from v f) g
unfolding value_from
value_from-append v [] g = refl
value_from-append v (b ∷ f) g = value_from-append (v * 10 + (b - 48)) f g

pub value_from-end : (v : ℕ) (f : List ℕ) (b : ℕ) → value_from v (f ++ (b ∷ [])) ≡ value_from v f * 10 + (b - 48)
unfolding value_from
value_from-end v f b = value_from-append v f (b ∷ [])

pub value_from-rise : (v : ℕ) (f : List ℕ) → v ≤ value_from v f
unfolding value_from
value_from-rise v [] = omega arith
value_from-rise v (b ∷ f) = omega (arith, value_from-rise (v * 10 + (b - 48)) f)

pub record NumberSoFar (f : List ℕ) (i v : ℕ) : Type 0 where
  pub within : i ≤ length f
  pub digits : every is_digit (take i f) ≡ true
  pub value : v ≡ value_from 0 (take i f)
  pub small : v ≤ max_value

-- whether the first digit may stand there
abbrev pub led : List ℕ → Bool
led f = eqb (length f) 1 || not (eqb (get_or f 0 0) 48)

module _ (f : List ℕ) where
  pub led-zero : 1 < length f → eqb (get_or f 0 0) 48 ≡ true → led f ≡ false
  led-zero h e = rw (ne_eqb (length f) 1 (λ i. omega arith), e)

  pub led-one : length f ≡ 1 → led f ≡ true
  led-one e = or_left (not (eqb (get_or f 0 0) 48)) (eq-eqb (length f) 1 e)

  pub led-other : eqb (get_or f 0 0) 48 ≡ false → led f ≡ true
  led-other e = or_right (eqb (length f) 1) (ap not e)

  pub number_in-none : length f < 1 → number_in f ≡ None
  unfolding is_number
  number_in-none h = rw (lt-leb 1 (length f) h)

  pub number_in-lead : led f ≡ false → number_in f ≡ None
  unfolding is_number
  number_in-lead e = rw (e, and-false (every is_digit f), and-false (leb 1 (length f)))

  pub number_in-not : every is_digit f ≡ false → number_in f ≡ None
  unfolding is_number
  number_in-not e = rw (e, and-false (leb 1 (length f)))

  too_large : max_value < value_from 0 f → number_in f ≡ None
  unfolding is_number
  too_large h = rw (lt-leb (value_from 0 f) max_value h, and-false (led f), and-false (every is_digit f), and-false (leb 1 (length f)))

  is_number-is : 1 ≤ length f → every is_digit f ≡ true → led f ≡ true → value_from 0 f ≤ max_value → is_number f ≡ true
  unfolding is_number
  is_number-is h d l k = rw (le-leb 1 (length f) h, d, l, le-leb (value_from 0 f) max_value k)

  number_in-value : is_number f ≡ true → number_in f ≡ Some (value_from 0 f)
  unfolding field_number
  number_in-value t = rw t

  pub so-far-none : NumberSoFar f 0 0
  so-far-none = record { within = omega arith; digits = every-none is_digit; value = sym (value_from-none 0); small = omega arith }

  module _ {i v : ℕ} (r : NumberSoFar f i v) where
    next-value : i < length f → v * 10 + (get_or f i 0 - 48) ≡ value_from 0 (take (i + 1) f)
    next-value h = ap (λ (w : ℕ). w * 10 + (get_or f i 0 - 48)) r.value ∙ sym (rw (add-one, take-suc f i 0 h) (value_from-end 0 (take i f) (get_or f i 0)))

    pub so_far_more : i < length f → is_digit (get_or f i 0) ≡ true → v * 10 + (get_or f i 0 - 48) ≤ max_value
        → NumberSoFar f (i + 1) (v * 10 + (get_or f i 0 - 48))
    so_far_more h d k = record { within = omega arith; digits = every-take-more is_digit f i 0 h r.digits d; value = next-value h; small = k }

    pub number_in-large : i < length f → max_value < v * 10 + (get_or f i 0 - 48) → number_in f ≡ None
    number_in-large h k =
        let whole : value_from 0 f ≡ value_from (value_from 0 (take (i + 1) f)) (drop (i + 1) f) =
        ap (value_from 0) (sym (take-append-drop (i + 1) f)) ∙ value_from-append 0 (take (i + 1) f) (drop (i + 1) f) in
        too_large (omega (arith, whole, next-value h, value_from-rise (value_from 0 (take (i + 1) f)) (drop (i + 1) f)))

    pub number_in-is : length f ≤ i → 1 ≤ length f → led f ≡ true → number_in f ≡ Some v
    number_in-is h k l =
        let value : v ≡ value_from 0 f = r.value ∙ ap (value_from 0) (take_all i f h) in
        number_in-value (is_number-is k (every-take-all is_digit f i h r.digits) l (omega (arith, r.small))) ∙ ap Some (sym value)

-- ---- the number that a field is, by its parts

pub right-number : (f : List ℕ) → is_right (number_in f) ≡ is_number f
right-number f = by (is_number f) (λ t. rw t) (λ e. rw e)

pub value-number : (f : List ℕ) → value_in (number_in f) ≡ field_number f
unfolding field_number
value-number f = by (is_number f) (λ t. rw t) (λ e. rw e)

-- and 0 in place of none
pub number-or : (f : List ℕ) → unwrap_or (number_in f) 0 ≡ field_number f
unfolding field_number
number-or f = by (is_number f) (λ t. rw t refl) (λ e. rw e refl)
