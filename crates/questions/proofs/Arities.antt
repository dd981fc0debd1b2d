-- The first word of a table: its arity, from 1 to n, or the mark of a range table, which has one attribute.
--   arity-mark, arity-plain       == how many attributes the table has
--   arity-passes, arity-marked    == question 6 lets both pass
--   arity-range, arity-asked      == what a passed question 6 says
--   arity-some, arity-within      == so there are attributes, and not too many
--   pairs-one                     == pairs stand at one attribute, by any claim on what a table has that says so of pairs
--   arity-word                    == what is written there says how many attributes there are
use mathlib.Core.Path.{◌≡◌, refl, sym, ◌∙◌}
use mathlib.Core.Bool.{true, false, ◌&&◌, not}
use mathlib.Core.List.{List}
use Prim.Native.Nat.{ℕ, ◌≤◌, ◌<◌}
use native.Mathlib.Omega.{arith}
use borrow.Author.Tests.{eqb-false, eq-eqb, ne_eqb}
use lib.Dec.{eqb}
use lib.ListN.{length}
use Rattle.boxes.specs.Limits.{max_attributes}
use Rattle.boxes.proofs.Tests.{by, clash}
use Rattle.questions.specs.Limits.{range_mark}
use Rattle.questions.specs.Orders.{is_in}
use Rattle.questions.specs.Questions.{Pair, Contents, with_rows, unfilled, with_pairs, out_of_range, has_pairs, arity_check, arity_of}
use Rattle.questions.specs.Words.{arity_word}
use Rattle.questions.proofs.Checks.{in-range, range-in}
use Rattle.questions.proofs.Yields.{Check, check-when, check-map}

module _ (k : ℕ) where
  pub arity-mark : k ≡ range_mark → arity_of k ≡ 1
  arity-mark e = rw (eq-eqb k range_mark e)

  pub arity-plain : (k ≡ range_mark → ⊥) → arity_of k ≡ k
  arity-plain n = rw (ne_eqb k range_mark n)

  module _ (n : ℕ) where
    pub arity-marked : k ≡ range_mark → arity_check n k ≡ 0
    arity-marked e = rw (eq-eqb k range_mark e)

    pub arity-passes : 1 ≤ k → k ≤ n → arity_check n k ≡ 0
    arity-passes l h = by (eqb k range_mark) (λ t. rw t) (λ f. rw (f, range-in n k l h))

    pub arity-range : (not (eqb k range_mark) && out_of_range n k) ≡ false → (k ≡ range_mark → ⊥) → (1 ≤ k) × (k ≤ n)
    arity-range f plain = in-range n k (rw (ne_eqb k range_mark plain) at f)

    pub arity-asked : Check ((k ≡ range_mark → ⊥) → (1 ≤ k) × (k ≤ n)) (arity_check n k)
    unfolding is_in
    arity-asked = check-map arity-range (check-when (not (eqb k range_mark) && out_of_range n k) 6 refl)

    pub arity-some : ((k ≡ range_mark → ⊥) → (1 ≤ k) × (k ≤ n)) → 1 ≤ arity_of k
    arity-some fair =
        by (eqb k range_mark)
        (λ t. rw t (omega arith))
        (λ f. rw f (fair (eqb-false k range_mark f)).0)

    pub arity-within : ((k ≡ range_mark → ⊥) → (1 ≤ k) × (k ≤ n)) → n ≤ max_attributes → (1 ≤ arity_of k) × (arity_of k ≤ max_attributes)
    arity-within fair most = (arity-some fair, by (eqb k range_mark) (λ t. rw t (omega arith)) (λ f. rw f (omega (arith, (fair (eqb-false k range_mark f)).1))))

pub pairs-one : (P : Contents → Type 0) (k : ℕ) → ((ps : List Pair) → P (with_pairs ps) → k ≡ 1) → (c : Contents) → P c → has_pairs c ≡ true → k ≡ 1
pairs-one P k one (with_rows rs) p t = clash t refl
pairs-one P k one unfilled p t = clash t refl
pairs-one P k one (with_pairs ps) p t = one ps p

pub arity-word : (xs : List ℕ) (c : Contents) → length xs < range_mark → (has_pairs c ≡ true → length xs ≡ 1) → arity_of (arity_word xs c) ≡ length xs
arity-word xs c few one =
    by (has_pairs c)
    (λ t. rw t (arity-mark range_mark refl ∙ sym (one t)))
    (λ f. rw f (arity-plain (length xs) (λ e. omega arith)))
