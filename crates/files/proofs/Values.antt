-- The values of an attribute: in a row, in a table, in tables.
--   each-parts, parts-each == a fact at each word of lists one after the other, list by list, and the other way round
--   row_values-none, row_values-here, row_values-past == of no attribute; of a row that begins with the attribute's value, or with another's
--   values-small == no value of tables is above the highest number
--   row-point == a row is within the widths that hold the values of each attribute in it
use mathlib.Core.Path.{◌≡◌, refl}
use mathlib.Core.Bool.{true, false}
use mathlib.Core.List.{List, [], ◌∷◌, ◌++◌, map}
use Prim.Native.Nat.{ℕ, ◌^◌, ◌≤◌, ◌<◌}
use native.Mathlib.Omega.{arith}
use borrow.Author.Tests.{eq-eqb}
use lib.Dec.{eqb}
use lib.ListN.{length, get_or}
use Rattle.boxes.specs.Fits.{Each, Point, none, more}
use Rattle.boxes.proofs.Tests.{by}
use Rattle.boxes.proofs.Lists.{each_at, each_append, each-imp}
use Rattle.questions.specs.Questions.{Table}
use Rattle.questions.specs.Good.{Below, widths_at}
use Rattle.questions.specs.Words.{flat}
use Rattle.questions.proofs.Laws.{flat-more, flat-none}
use Rattle.fields.specs.Limits.{max_value}
use Rattle.files.specs.Widths.{row_values, table_values, attribute_values}
use Rattle.files.specs.Parts.{TableOver}

module _ {P : ℕ → Type 0} where
  each_first : (xs ys : List ℕ) → Each P (xs ++ ys) → Each P xs
  each_first [] ys r = none
  each_first (x ∷ xs) ys (more p r) = more p (each_first xs ys r)

  each-second : (xs ys : List ℕ) → Each P (xs ++ ys) → Each P ys
  each-second [] ys r = r
  each-second (x ∷ xs) ys (more p r) = each-second xs ys r

  module _ {A : Type 0} (f : A → List ℕ) where
    pub each-parts : (xs : List A) → Each P (flat (map f xs)) → Each (λ x. Each P (f x)) xs
    each-parts [] r = none
    each-parts (x ∷ xs) r =
        let parts : Each P (f x ++ flat (map f xs)) = rw flat-more at r in
        more (each_first (f x) (flat (map f xs)) parts) (each-parts xs (each-second (f x) (flat (map f xs)) parts))

    pub parts-each : {xs : List A} → Each (λ x. Each P (f x)) xs → Each P (flat (map f xs))
    parts-each none = rw flat-none none
    parts-each (more {x = x} {xs = xs} p r) = rw (flat-more (f x) (map f xs)) (each_append p (parts-each r))

module _ (a : ℕ) where
  pub row_values-none : (r : List ℕ) → row_values a [] r ≡ []
  unfolding row_values
  row_values-none r = refl

  module _ (x : ℕ) (xs : List ℕ) (v : ℕ) (r : List ℕ) where
    pub row_values-here : eqb x a ≡ true → row_values a (x ∷ xs) (v ∷ r) ≡ v ∷ row_values a xs r
    unfolding row_values
    row_values-here e = rw e

    pub row_values-past : eqb x a ≡ false → row_values a (x ∷ xs) (v ∷ r) ≡ row_values a xs r
    unfolding row_values
    row_values-past e = rw e

  row-each : {P : ℕ → Type 0} (xs : List ℕ) {r : List ℕ} → Each P r → Each P (row_values a xs r)
  unfolding row_values
  row-each [] p = none
  row-each (x ∷ xs) none = none
  row-each (x ∷ xs) (more {x = v} {xs = r} p q) =
      by (eqb x a)
      (λ t. rw t (more p (row-each xs q)))
      (λ e. rw e (row-each xs q))

  pub values-small : {n : ℕ} {ts : List Table} → Each (TableOver n) ts → Each (λ v. v ≤ max_value) (attribute_values a ts)
  values-small over =
      parts-each (table_values a)
      (each-imp (λ t o. rw o.contents (parts-each (row_values a t.attributes) (each-imp (λ r small. row-each t.attributes small) o.small))) over)

pub row-point : (ws : List ℕ) {n : ℕ} {xs : List ℕ} (r : List ℕ) → Below n xs → length r ≡ length xs
    → ((a : ℕ) → a < n → Each (λ v. v < 2 ^ get_or ws a 0) (row_values a xs r)) → Point (widths_at ws xs) r
row-point ws [] none e holds = none
row-point ws (v ∷ r) none e holds = absurd (omega arith)
row-point ws [] (more h b) e holds = absurd (omega arith)
row-point ws (v ∷ r) (more {x = x} {xs = xs} h b) e holds =
    let own : Each (λ w. w < 2 ^ get_or ws x 0) (v ∷ row_values x xs r) = rw (row_values-here x x xs v r (eq-eqb x x refl)) at (holds x h) in
    more (each_at own 0 0 (omega arith))
    (row-point ws r b (omega arith)
    (λ a k.
    by (eqb x a)
    (λ t. each-second (v ∷ []) (row_values a xs r) (rw (row_values-here a x xs v r t) at (holds a k)))
    (λ f. rw (row_values-past a x xs v r f) at (holds a k))))
