-- Tests that `&&` makes.
--   and-went, and-stopped == the code asks for the second test only where the first holds
use mathlib.Core.Path.{◌≡◌, sym, ap, ◌∙◌}
use mathlib.Core.Bool.{Bool, true, false, ◌&&◌}

module _ {a r : Bool} where
  pub and-went : {b : Bool} → a ≡ true → r ≡ b → r ≡ (a && b)
  and-went {b} t e = e ∙ sym (ap (λ (x : Bool). x && b) t)

  pub and-stopped : (b : Bool) → a ≡ false → r ≡ a → r ≡ (a && b)
  and-stopped b f e = e ∙ f ∙ sym (ap (λ (x : Bool). x && b) f)
