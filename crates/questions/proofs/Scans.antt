-- Tests of a list's elements, as chains of iterators ask them.
--   any-is_in        == whether a number is one of a list
--   any-restricts    == whether some entry restricts an attribute
--   all-cover        == whether each attribute below a number is restricted
use mathlib.Core.Path.{◌≡◌, refl, ap, ◌∙◌}
use mathlib.Core.Bool.{Bool, ◌&&◌, ◌||◌, and-true, and-false}
use mathlib.Core.List.{List, [], ◌∷◌, ◌++◌}
use Prim.Native.Nat.{ℕ, zero, suc, ◌+◌}
use native.Mathlib.Omega.{arith}
use lib.Dec.{eqb}
use Rattle.std.specs.List.{list_any, list_all, range_with_len}
use Rattle.std.proofs.lemmas.List.Folds.{list_all-append}
use Rattle.boxes.proofs.Tests.{by}
use Rattle.questions.specs.Orders.{is_in}
use Rattle.questions.specs.Directories.{entry_restricts, entries_restrict, entries_cover}
use Rattle.questions.specs.declared.directory.TableEntry.{TableEntry}

pub any-is_in : (a : ℕ) (xs : List ℕ) → list_any (λ x. eqb a x) xs ≡ is_in a xs
unfolding is_in
any-is_in a [] = refl
any-is_in a (x ∷ xs) = ap (λ (b : Bool). eqb a x || b) (any-is_in a xs)

pub any-restricts : (a : ℕ) (es : List TableEntry) → list_any (entry_restricts a) es ≡ entries_restrict a es
unfolding entries_restrict
any-restricts a [] = refl
any-restricts a (e ∷ es) = ap (λ (b : Bool). entry_restricts a e || b) (any-restricts a es)

range-end : (a n : ℕ) → range_with_len a (suc n) ≡ range_with_len a n ++ ((a + n) ∷ [])
range-end a zero = let e : a ≡ a + 0 = omega arith in ap (λ (k : ℕ). k ∷ []) e
range-end a (suc n) = let e : a + 1 + n ≡ a + suc n = omega arith in ap (λ (l : List ℕ). a ∷ l) (range-end (a + 1) n ∙ ap (λ (k : ℕ). range_with_len (a + 1) n ++ (k ∷ [])) e)

pub all-cover : (n : ℕ) (es : List TableEntry) → list_all (λ a. entries_restrict a es) (range_with_len 0 n) ≡ entries_cover n es
unfolding entries_cover
all-cover zero es = refl
all-cover (suc n) es =
    let last : 0 + n ≡ n = omega arith in
    let some : list_all (λ a. entries_restrict a es) (range_with_len 0 (suc n)) ≡ (entries_cover n es && entries_restrict n es) =
    ap (list_all (λ a. entries_restrict a es)) (range-end 0 n) ∙ list_all-append (λ a. entries_restrict a es) (range_with_len 0 n) ((0 + n) ∷ []) ∙ rw (last, all-cover n es, and-true) in
    some ∙ by (entries_restrict n es) (λ t. rw (t, and-true)) (λ f. rw (f, and-false))
