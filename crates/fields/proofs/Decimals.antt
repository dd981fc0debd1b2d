-- The decimal digits of a number.
--   decimal-short, decimal-long   == the digits of a number below 10: one; of others: those of its tenth, and its last one
--   length-decimal                == a number below 10 to the power k + 1 has at most k + 1 digits
--   decimal-some                  == it has at least one
--   length-word, length-value == at most 10 digits of 32 bits, 5 of 16
--   digits_decimal, value-decimal == each byte is a digit; the digits' value is the number
--   number-decimal, field_number-decimal == a value is printed as a number that is read back as that value
use mathlib.Core.Path.{◌≡◌, refl, ap, ◌∙◌}
use mathlib.Core.Bool.{true}
use mathlib.Core.List.{List, [], ◌∷◌, ◌++◌}
use Prim.Native.Nat.{ℕ, zero, suc, ◌*◌, ◌/◌, ◌^◌, ◌≤◌, ◌<◌}
use native.Mathlib.Nat.{pow-suc}
use native.Mathlib.Omega.{arith}
use borrow.Author.Tests.{ltb-true, ltb-false, lt-ltb, le-ltb, le-leb, ne_eqb}
use lib.Dec.{ltb, leb}
use lib.ListN.{length, get_or, get_or-append}
use Rattle.boxes.proofs.Lists.{length-end}
use Rattle.boxes.proofs.Tests.{by, and_both}
use Rattle.fields.specs.Limits.{max_value}
use Rattle.fields.specs.Fields.{is_digit, every, value_from, is_number, field_number}
use Rattle.fields.specs.Decimals.{digit, decimal_from, decimal}
use Rattle.boxes.proofs.Every.{every-end}
use Rattle.fields.proofs.Numbers.{value_from-end, led, led-one, led-other}

-- any number of steps that is not below the number is enough
decimal_from-enough : (l m v : ℕ) → v ≤ l → v ≤ m → decimal_from l v ≡ decimal_from m v
unfolding decimal_from
decimal_from-enough zero zero v h k = refl
decimal_from-enough zero (suc m) v h k = rw (lt-ltb v 10 (omega arith))
decimal_from-enough (suc l) zero v h k = rw (lt-ltb v 10 (omega arith))
decimal_from-enough (suc l) (suc m) v h k =
    by (ltb v 10) (λ t. rw t) (λ f.
    let long : 10 ≤ v = ltb-false v 10 f in
    rw f (ap (λ (ds : List ℕ). ds ++ (digit v ∷ [])) (decimal_from-enough l m (v / 10) (omega arith) (omega arith))))

pub decimal-short : (v : ℕ) → v < 10 → decimal v ≡ digit v ∷ []
unfolding decimal decimal_from
decimal-short zero h = refl
decimal-short (suc v) h = rw (lt-ltb (suc v) 10 h)

pub decimal-long : (v : ℕ) → 10 ≤ v → decimal v ≡ decimal (v / 10) ++ (digit v ∷ [])
unfolding decimal decimal_from
decimal-long zero h = absurd (omega arith)
decimal-long (suc v) h =
    rw (le-ltb (suc v) 10 h) (ap (λ (ds : List ℕ). ds ++ (digit (suc v) ∷ [])) (decimal_from-enough v (suc v / 10) (suc v / 10) (omega arith) (omega arith)))

pub length-decimal : (k v : ℕ) → v < 10 ^ suc k → length (decimal v) ≤ suc k
length-decimal zero v h = rw (decimal-short v h) (omega arith)
length-decimal (suc k) v h =
    by (ltb v 10) (λ t. rw (decimal-short v (ltb-true v 10 t)) (omega arith)) (λ f.
    let below : v < 10 ^ suc k * 10 = rw (pow-suc 10 (suc k)) at h in
    rw (decimal-long v (ltb-false v 10 f), length-end (decimal (v / 10)) (digit v)) (omega (arith, length-decimal k (v / 10) (omega arith))))

pub decimal-some : (v : ℕ) → 1 ≤ length (decimal v)
decimal-some v =
    by (ltb v 10) (λ t. rw (decimal-short v (ltb-true v 10 t)) (omega arith)) (λ f.
    rw (decimal-long v (ltb-false v 10 f), length-end (decimal (v / 10)) (digit v)) (omega arith))

pub length-word : (v : ℕ) → v < 2 ^ 32 → length (decimal v) ≤ 10
length-word v h = length-decimal 9 v (omega arith)

pub length-value : (v : ℕ) → v < 2 ^ 16 → length (decimal v) ≤ 5
length-value v h = length-decimal 4 v (omega arith)

-- ---- what is printed is read back

digit-is_digit : (v : ℕ) → is_digit (digit v) ≡ true
digit-is_digit v = and_both (le-leb 48 (digit v) (omega arith)) (le-leb (digit v) 57 (omega arith))

digits_from : (l v : ℕ) → every is_digit (decimal_from l v) ≡ true
unfolding decimal_from every
digits_from zero v = and_both (digit-is_digit v) refl
digits_from (suc l) v =
    by (ltb v 10) (λ t. rw t (and_both (digit-is_digit v) refl)) (λ f.
    rw f (every-end is_digit (decimal_from l (v / 10)) (digit v) ∙ and_both (digits_from l (v / 10)) (digit-is_digit v)))

pub digits_decimal : (v : ℕ) → every is_digit (decimal v) ≡ true
unfolding decimal
digits_decimal v = digits_from v v

value-from : (l v : ℕ) → v ≤ l → value_from 0 (decimal_from l v) ≡ v
unfolding decimal_from value_from
value-from zero v h = omega arith
value-from (suc l) v h =
    by (ltb v 10) (λ t. rw t (omega (arith, ltb-true v 10 t))) (λ f.
    let long : 10 ≤ v = ltb-false v 10 f in
    let tenth : value_from 0 (decimal_from l (v / 10)) ≡ v / 10 = value-from l (v / 10) (omega arith) in
    rw f (value_from-end 0 (decimal_from l (v / 10)) (digit v) ∙ omega arith))

pub value-decimal : (v : ℕ) → value_from 0 (decimal v) ≡ v
unfolding decimal
value-decimal v = value-from v v (omega arith)

-- the first digit of a number above 0 is not 0
first-from : (l v : ℕ) → 1 ≤ v → v ≤ l → (1 ≤ length (decimal_from l v)) × (49 ≤ get_or (decimal_from l v) 0 0)
unfolding decimal_from
first-from zero v h k = absurd (omega arith)
first-from (suc l) v h k =
    by (ltb v 10) (λ t. rw t (omega (arith, ltb-true v 10 t))) (λ f.
    let long : 10 ≤ v = ltb-false v 10 f in
    let tenth = first-from l (v / 10) (omega arith) (omega arith) in
    rw (f, length-end (decimal_from l (v / 10)) (digit v), get_or-append (decimal_from l (v / 10)) (digit v ∷ []) 0 0 tenth.0) (omega arith, tenth.1))

first_decimal : (v : ℕ) → 10 ≤ v → 49 ≤ get_or (decimal v) 0 0
unfolding decimal
first_decimal v h = (first-from v v (omega arith) (omega arith)).1

lead-decimal : (v : ℕ) → led (decimal v) ≡ true
lead-decimal v =
    by (ltb v 10) (λ t. led-one (decimal v) (ap length (decimal-short v (ltb-true v 10 t)))) (λ f.
    let first : 49 ≤ get_or (decimal v) 0 0 = first_decimal v (ltb-false v 10 f) in
    led-other (decimal v) (ne_eqb (get_or (decimal v) 0 0) 48 (λ e. omega arith)))

some-decimal : (v : ℕ) → 1 ≤ length (decimal v)
some-decimal v =
    by (ltb v 10) (λ t. rw (decimal-short v (ltb-true v 10 t)) (omega arith)) (λ f.
    rw (decimal-long v (ltb-false v 10 f), length-end (decimal (v / 10)) (digit v)) (omega arith))

pub number-decimal : (v : ℕ) → v ≤ max_value → is_number (decimal v) ≡ true
unfolding is_number
number-decimal v h =
    and_both (le-leb 1 (length (decimal v)) (some-decimal v))
    (and_both (digits_decimal v) (and_both (lead-decimal v) (ap (λ (x : ℕ). leb x max_value) (value-decimal v) ∙ le-leb v max_value h)))

pub field_number-decimal : (v : ℕ) → v ≤ max_value → field_number (decimal v) ≡ v
unfolding field_number
field_number-decimal v h = rw (number-decimal v h) (value-decimal v)
