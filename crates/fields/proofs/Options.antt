-- What a test gives as an option.
--   given b x          == x where the test b holds, else none
--   given_is           == there is one by that test
--   then-given         == so `then_some`
--   given_some, given_none == there is one exactly where the test holds
use mathlib.Core.Path.{◌≡◌, refl, sym, ap}
use mathlib.Core.Bool.{Bool, true, false, true≢false}
use Rattle.std.specs.Prelude.{Option, Some, None, is_some, unwrap_or}
use Rattle.std.specs.Bool.{then_some}
use Rattle.boxes.specs.Intervals.{pick}

module _ {A : Type 0} where
  abbrev pub given : Bool → A → Option A
  given b x = pick b (Some x) None

  pub given_is : (b : Bool) (x : A) → is_some (given b x) ≡ b
  given_is true x = refl
  given_is false x = refl

  pub then-given : (b : Bool) (x : A) → then_some b x ≡ given b x
  then-given true x = refl
  then-given false x = refl

  pub given_some : (b : Bool) (x y : A) → given b x ≡ Some y → (b ≡ true) × (y ≡ x)
  given_some true x y e = (refl, ap (λ (o : Option A). unwrap_or o x) (sym e))
  given_some false x y e = absurd (true≢false (ap is_some (sym e)))

  pub given_none : (b : Bool) (x : A) → given b x ≡ None → b ≡ false
  given_none true x e = absurd (true≢false (ap is_some e))
  given_none false x e = refl
