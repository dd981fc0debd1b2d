-- A table has as many attributes as the header has names.
--   without g h     == the names of h that are not g
--   columns-count   == distinct names that are all known have as many columns
--   file-arity      == so a table has as many attributes as its file's header
use mathlib.Core.Path.{◌≡◌, refl, sym, ap, ◌∙◌}
use mathlib.Core.Bool.{true, false, not}
use mathlib.Core.List.Memᴰ
use mathlib.Core.List.{List, [], ◌∷◌, Memᴰ}
use Prim.Native.Nat.{ℕ, suc}
use lib.ListN.{length}
use Rattle.boxes.specs.Intervals.{pick}
use Rattle.boxes.specs.Fits.{Each, none, more}
use Rattle.boxes.proofs.Tests.{by, either, clash, same_tests, and_both}
use Rattle.boxes.proofs.Lists.{each-mem, mem-each}
use Rattle.questions.specs.Orders.{same}
use Rattle.questions.specs.Questions.{Table}
use Rattle.questions.proofs.Laws.{same-is}
use Rattle.fields.specs.Fields.{is_one, distinct}
use Rattle.fields.proofs.Laws.{same-equal, member-known, known_member, distinct-parts}
use Rattle.csv_tables.specs.Imports.{columns_from}
use Rattle.csv_tables.proofs.HeaderColumns.{columns-here, columns-past, columns-none}
use Rattle.csv_tables.proofs.Taking.{Taken}

unknown : (g : List ℕ) (gs : List (List ℕ)) → is_one gs g ≡ false → Memᴰ g gs → ⊥
unknown g gs f m = clash (member-known g gs m) f

unfoldable without : List ℕ → List (List ℕ) → List (List ℕ)
without g [] = []
without g (x ∷ h) = pick (same g x) h (x ∷ without g h)

without-same : (g x : List ℕ) (h : List (List ℕ)) → same g x ≡ true → without g (x ∷ h) ≡ h
unfolding without
without-same g x h t = rw t

without-past : (g x : List ℕ) (h : List (List ℕ)) → same g x ≡ false → without g (x ∷ h) ≡ x ∷ without g h
unfolding without
without-past g x h f = rw f

-- the members, where no name stands twice
without-member : (g : List ℕ) (h : List (List ℕ)) {z : List ℕ} → Memᴰ z (without g h) → Memᴰ z h
unfolding without
without-member g [] m = m
without-member g (x ∷ h) m =
    by (same g x)
    (λ t. Memᴰ.tail (rw (without-same g x h t) at m))
    (λ f. either (Memᴰ.cases_cons (rw (without-past g x h f) at m)) (λ e. Memᴰ.head e) (λ k. Memᴰ.tail (without-member g h k)))

member-without : (g : List ℕ) (h : List (List ℕ)) {z : List ℕ} → (z ≡ g → ⊥) → Memᴰ z h → Memᴰ z (without g h)
member-without g [] n m = absurd (Memᴰ.not-nil m)
member-without g (x ∷ h) n m =
    by (same g x)
    (λ t. rw (without-same g x h t) (either (Memᴰ.cases_cons m) (λ e. absurd (n (e ∙ sym (same-is g x t)))) (λ k. k)))
    (λ f. rw (without-past g x h f) (either (Memᴰ.cases_cons m) (λ e. Memᴰ.head e) (λ k. Memᴰ.tail (member-without g h n k))))

without-none : (g : List ℕ) (h : List (List ℕ)) → distinct h ≡ true → Memᴰ g (without g h) → ⊥
unfolding without
without-none g [] d m = Memᴰ.not-nil m
without-none g (x ∷ h) d m =
    let parts = distinct-parts x h d in
    by (same g x)
    (λ t. unknown x h parts.0 (rw (same-is g x t) at (rw (without-same g x h t) at m)))
    (λ f. either (Memᴰ.cases_cons (rw (without-past g x h f) at m)) (λ e. clash (same-equal e) f) (λ k. without-none g h parts.1 k))

without-length : (g : List ℕ) (h : List (List ℕ)) → Memᴰ g h → suc (length (without g h)) ≡ length h
without-length g [] m = absurd (Memᴰ.not-nil m)
without-length g (x ∷ h) m =
    by (same g x)
    (λ t. rw (without-same g x h t))
    (λ f. rw (without-past g x h f) (either (Memᴰ.cases_cons m) (λ e. clash (same-equal e) f) (λ k. ap suc (without-length g h k))))

without-distinct : (g : List ℕ) (h : List (List ℕ)) → distinct h ≡ true → distinct (without g h) ≡ true
unfolding without distinct
without-distinct g [] d = refl
without-distinct g (x ∷ h) d =
    let parts = distinct-parts x h d in
    by (same g x)
    (λ t. rw (without-same g x h t) parts.1)
    (λ f. rw (without-past g x h f) (and_both (ap not (not-one x (without g h) (λ m. unknown x h parts.0 (without-member g h m)))) (without-distinct g h parts.1)))
  where
    not-one : (y : List ℕ) (l : List (List ℕ)) → (Memᴰ y l → ⊥) → is_one l y ≡ false
    not-one y l n = by (is_one l y) (λ t. absurd (n (known_member y l t))) (λ e. e)

-- names that are alike in two headers have the same columns
columns-alike : (h k : List (List ℕ)) (a : ℕ) {gs : List (List ℕ)} → Each (λ g. is_one h g ≡ is_one k g) gs → columns_from a h gs ≡ columns_from a k gs
columns-alike h k a none = columns-none h a ∙ sym (columns-none k a)
columns-alike h k a (more {x = g} {xs = gs} e r) =
    by (is_one k g)
    (λ t. columns-here h a g gs (e ∙ t) ∙ ap (λ (l : List ℕ). a ∷ l) (columns-alike h k (suc a) r) ∙ sym (columns-here k a g gs t))
    (λ f. columns-past h a g gs (e ∙ f) ∙ columns-alike h k (suc a) r ∙ sym (columns-past k a g gs f))

pub columns-count : (a : ℕ) (names h : List (List ℕ)) → distinct names ≡ true → distinct h ≡ true → ((z : List ℕ) → Memᴰ z h → Memᴰ z names)
    → length (columns_from a h names) ≡ length h
columns-count a [] [] d e f = ap length (columns-none [] a)
columns-count a [] (x ∷ h) d e f = absurd (Memᴰ.not-nil (f x (Memᴰ.head refl)))
columns-count a (g ∷ names) h d e f =
    let parts = distinct-parts g names d in
    let other : (z : List ℕ) → Memᴰ z names → z ≡ g → ⊥ = λ z m i. unknown g names parts.0 (rw i at m) in
    by (is_one h g)
    (λ t.
    let k : List (List ℕ) = without g h in
    let alike : Each (λ z. is_one h z ≡ is_one k z) names =
    mem-each names (λ z m. same_tests (is_one h z) (is_one k z)
    (λ o. member-known z k (member-without g h (other z m) (known_member z h o)))
    (λ o. member-known z h (without-member g h (known_member z k o)))) in
    let rest : length (columns_from (suc a) k names) ≡ length k =
    columns-count (suc a) names k parts.1 (without-distinct g h e)
    (λ z m. either (Memᴰ.cases_cons (f z (without-member g h m))) (λ i. absurd (without-none g h e (rw i at m))) (λ n. n)) in
    ap length (columns-here h a g names t) ∙ ap suc (ap length (columns-alike h k (suc a) alike) ∙ rest) ∙ without-length g h (known_member g h t))
    (λ u. ap length (columns-past h a g names u)
    ∙ columns-count (suc a) names h parts.1 e (λ z m. either (Memᴰ.cases_cons (f z m)) (λ i. absurd (unknown g h u (rw i at m))) (λ n. n)))

pub file-arity : {names : List (List ℕ)} {s : List ℕ} {t : Table} (k : Taken names s t) → distinct names ≡ true → length t.attributes ≡ length k.header
file-arity {names} {t = t} k d =
    ap (λ (u : Table). length u.attributes) k.is
    ∙ columns-count 0 names k.header d k.once (λ z m. known_member z names (each-mem k.known m))
