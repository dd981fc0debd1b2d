-- Lines: their fields one after the other.
--   line-fields       == a line's fields make the line
--   puts-more, puts-end == a line put field by field
use mathlib.Core.Path.{◌≡◌, refl, ap}
use mathlib.Core.List.{List, [], ◌∷◌, ◌++◌}
use Prim.Native.Nat.{ℕ}
use Rattle.fields.specs.Fields.{space, line_end, fields_of}
use Rattle.fields.specs.Puts.{Puts}
use Rattle.fields.proofs.Laws.{line-one, line_first, split-joined, puts_then, puts-same}
use Rattle.text.specs.Prints.{line_of}

pub line-fields : (l : List ℕ) → line_of (fields_of l) ≡ l ++ (line_end ∷ [])
line-fields l = ap (λ (m : List ℕ). m ++ (line_end ∷ [])) (split-joined space l)

pub puts-more : (f g : List ℕ) (fs : List (List ℕ)) {o o₁ o₂ : List ℕ} {at r s : ℕ} → Puts (f ++ (space ∷ [])) at o o₁ r → Puts (line_of (g ∷ fs)) r o₁ o₂ s
    → Puts (line_of (f ∷ g ∷ fs)) at o o₂ s
puts-more f g fs p q = puts-same (line_first space (line_end ∷ []) f g fs) refl refl (puts_then p q)

pub puts-end : (f : List ℕ) {o o₁ : List ℕ} {at r : ℕ} → Puts (f ++ (line_end ∷ [])) at o o₁ r → Puts (line_of (f ∷ [])) at o o₁ r
puts-end f p = puts-same (line-one space (line_end ∷ []) f) refl refl p
