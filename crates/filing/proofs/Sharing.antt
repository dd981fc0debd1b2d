-- The longest shared beginning of two lists of words.
--   count-within, count-alike, count-common, count_same, count-equal == it is no longer than either; both begin so; every shared beginning is no longer; of equal words it is all, and only of these
--   count-pairs == as the code counts: pairs of words that are alike, from the first on
use mathlib.Core.Path.{◌≡◌, refl, sym, ap, ◌∙◌}
use mathlib.Core.List.{List, [], ◌∷◌, ◌++◌}
use Prim.Native.Nat.{ℕ, suc, ◌≤◌}
use native.Mathlib.Omega.{arith}
use borrow.Author.Tests.{eqb-true, eq-eqb}
use lib.Dec.{eqb}
use lib.ListN.{length, take}
use lib.Seq.{take-length}
use Rattle.std.specs.List.{prefix_len, zip}
use Rattle.boxes.proofs.Tests.{by}
use Rattle.filing.specs.Comparisons.{shared_count}

pub count-within : (s t : List ℕ) → (shared_count s t ≤ length s) × (shared_count s t ≤ length t)
unfolding shared_count
count-within [] t = (omega arith, omega arith)
count-within (x ∷ s) [] = (omega arith, omega arith)
count-within (x ∷ s) (y ∷ t) = by (eqb x y) (λ e. rw e (let r = count-within s t in (omega arith, omega arith))) (λ f. rw f (omega arith, omega arith))

pub count-alike : (s t : List ℕ) → take (shared_count s t) s ≡ take (shared_count s t) t
unfolding shared_count
count-alike [] [] = refl
count-alike [] (y ∷ t) = refl
count-alike (x ∷ s) [] = refl
count-alike (x ∷ s) (y ∷ t) = by (eqb x y) (λ e. rw (e, eqb-true x y e) (ap (λ (l : List ℕ). y ∷ l) (count-alike s t))) (λ f. rw f)

pub count-common : (b u v : List ℕ) → length b ≤ shared_count (b ++ u) (b ++ v)
unfolding shared_count
count-common [] u v = omega arith
count-common (x ∷ b) u v = rw (eq-eqb x x refl) (omega (arith, count-common b u v))

pub count_same : (s : List ℕ) → shared_count s s ≡ length s
unfolding shared_count
count_same [] = refl
count_same (x ∷ s) = rw (eq-eqb x x refl) (ap suc (count_same s))

pub count-equal : (s t : List ℕ) → shared_count s t ≡ length s → shared_count s t ≡ length t → s ≡ t
count-equal s t e f =
    sym (take-length s) ∙ ap (λ (k : ℕ). take k s) (sym e) ∙ count-alike s t ∙ ap (λ (k : ℕ). take k t) f ∙ take-length t

-- ---- as the code counts

pub count-pairs : (s t : List ℕ) → prefix_len (λ (p : ℕ × ℕ). eqb p.0 p.1) (zip s t) ≡ shared_count s t
unfolding shared_count
count-pairs [] t = refl
count-pairs (x ∷ s) [] = refl
count-pairs (x ∷ s) (y ∷ t) = by (eqb x y) (λ e. rw e (let h = count-pairs s t in omega arith)) (λ f. rw f)
