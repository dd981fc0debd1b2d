-- The marks of hidden attributes, and the fields of a tuple by them.
--   is_in-end       == a number is one of others with one more
--   length-marks, marks-at == there is a mark for each attribute: whether its number is among those given
--   marks-none, marks-end == of no number; with one more number
--   length_marked, marked-at == a tuple with a mark for each value has as many fields; each by its mark
--   field-shown    == a field by its mark is that of the value, where it is not hidden
--   marked-shown   == they are those that are shown
--   shown-lines    == so are the lines
--   no-field-hidden, nothing_hidden == without numbers they are those that are printed
use mathlib.Core.Path.{◌≡◌, refl, sym, ap, ap₂, ◌∙◌}
use mathlib.Core.Bool.{Bool, true, false, ◌||◌, or-true}
use mathlib.Core.List.{List, [], ◌∷◌, ◌++◌, map}
use Prim.Native.Nat.{ℕ, zero, suc, ◌+◌, ◌≤◌, ◌<◌}
use native.Mathlib.Nat.{add-zero, add-suc, suc-add, zero-add}
use native.Mathlib.Omega.{arith}
use borrow.Author.Tests.{eqb-true, eqb-false}
use lib.Dec.{eqb}
use lib.ListN.{length, get_or, set, replicate, length-set}
use lib.Seq.{ext_get_or, get_or-set_same, get_or-set_other}
use Rattle.std.specs.Prelude.{not}
use Rattle.std.specs.Bool.{then_some}
use Rattle.boxes.specs.Limits.{max_attributes}
use Rattle.boxes.specs.Fits.{Each, none, more}
use Rattle.boxes.proofs.Tests.{by, or-false, or_assoc}
use Rattle.questions.specs.Orders.{is_in}
use Rattle.questions.specs.Words.{flat}
use Rattle.fields.specs.Decimals.{decimal}
use Rattle.text.specs.Prints.{line_of, tuple_line}
use Rattle.copies.specs.Copies.{shown_field, shown_from, shown_line, shown_lines}
use Rattle.copies.specs.Claims.{NothingHidden}
use Rattle.copies.specs.Puts.{field_bytes, marks_from, marks_of, marked_fields, marked_line, marked_lines}

is_in-end : (x k : ℕ) (xs : List ℕ) → is_in x (xs ++ (k ∷ [])) ≡ (is_in x xs || eqb x k)
unfolding is_in
is_in-end x k [] = or-false (eqb x k)
is_in-end x k (y ∷ ys) = ap (λ (b : Bool). eqb x y || b) (is_in-end x k ys) ∙ sym (or_assoc (eqb x y) (is_in x ys) (eqb x k))

-- ---- a mark for each attribute

pub length-marks : (h : List ℕ) (i n : ℕ) → length (marks_from h i n) ≡ n
unfolding marks_from
length-marks h i zero = refl
length-marks h i (suc n) = ap suc (length-marks h (suc i) n)

marks-at : (h : List ℕ) (i n j : ℕ) → j < n → get_or (marks_from h i n) j false ≡ is_in (i + j) h
unfolding marks_from
marks-at h i zero j l = absurd (omega arith)
marks-at h i (suc n) zero l = ap (λ (k : ℕ). is_in k h) (sym (add-zero i))
marks-at h i (suc n) (suc j) l = marks-at h (suc i) n j (omega arith) ∙ ap (λ (k : ℕ). is_in k h) (suc-add i j ∙ sym (add-suc i j))

pub marks-none : marks_of [] ≡ replicate max_attributes false
unfolding marks_from is_in
marks-none = refl

pub marks-end : (h : List ℕ) (k : ℕ) → marks_of (h ++ (k ∷ [])) ≡ set (marks_of h) k true
marks-end h k = ext_get_or false (marks_of (h ++ (k ∷ []))) (set (marks_of h) k true) long each
  where
    long : length (marks_of (h ++ (k ∷ []))) ≡ length (set (marks_of h) k true)
    long = length-marks (h ++ (k ∷ [])) 0 max_attributes ∙ sym (length-set (marks_of h) k true ∙ length-marks h 0 max_attributes)

    mark : (j : ℕ) → j < max_attributes → get_or (marks_of (h ++ (k ∷ []))) j false ≡ (get_or (marks_of h) j false || eqb j k)
    mark j l =
        marks-at (h ++ (k ∷ [])) 0 max_attributes j l ∙ ap (λ (x : ℕ). is_in x (h ++ (k ∷ []))) (zero-add j) ∙ is_in-end j k h
        ∙ ap (λ (b : Bool). b || eqb j k) (sym (marks-at h 0 max_attributes j l ∙ ap (λ (x : ℕ). is_in x h) (zero-add j)))

    each : (j : ℕ) → j < length (marks_of (h ++ (k ∷ []))) → get_or (marks_of (h ++ (k ∷ []))) j false ≡ get_or (set (marks_of h) k true) j false
    each j l =
        let below : j < max_attributes = omega (arith, length-marks (h ++ (k ∷ [])) 0 max_attributes) in
        by (eqb j k)
        (λ t.
        let e : j ≡ k = eqb-true j k t in
        mark j below ∙ rw t (or-true (get_or (marks_of h) j false))
        ∙ sym (ap (λ (x : ℕ). get_or (set (marks_of h) k true) x false) e ∙ get_or-set_same (marks_of h) k true false (omega (arith, length-marks h 0 max_attributes))))
        (λ f. mark j below ∙ rw f (or-false (get_or (marks_of h) j false)) ∙ sym (get_or-set_other (marks_of h) k j true false (eqb-false j k f)))

-- ---- the fields of a tuple

pub length_marked : (m : List Bool) (p : List ℕ) → length p ≤ length m → length (marked_fields m p) ≡ length p
unfolding marked_fields
length_marked [] [] l = refl
length_marked [] (v ∷ p) l = absurd (omega arith)
length_marked (b ∷ m) [] l = refl
length_marked (b ∷ m) (v ∷ p) l = ap suc (length_marked m p (omega arith))

pub marked-at : (m : List Bool) (p : List ℕ) (i : ℕ) → length p ≤ length m → i < length p → get_or (marked_fields m p) i [] ≡ shown_field (get_or m i false) (get_or p i 0)
unfolding marked_fields
marked-at [] p i l h = absurd (omega arith)
marked-at (b ∷ m) [] i l h = absurd (omega arith)
marked-at (b ∷ m) (v ∷ p) zero l h = refl
marked-at (b ∷ m) (v ∷ p) (suc i) l h = marked-at m p i (omega arith) (omega arith)

marked-shown : (h p : List ℕ) (i n : ℕ) → length p ≤ n → marked_fields (marks_from h i n) p ≡ shown_from h i p
unfolding marked_fields marks_from shown_from
marked-shown h [] i zero l = refl
marked-shown h [] i (suc n) l = refl
marked-shown h (v ∷ p) i zero l = absurd (omega arith)
marked-shown h (v ∷ p) i (suc n) l = ap (λ (fs : List (List ℕ)). shown_field (is_in i h) v ∷ fs) (marked-shown h p (suc i) n (omega arith))

pub shown-lines : (h : List ℕ) {ts : List (List ℕ)} → Each (λ p. length p ≤ max_attributes) ts → marked_lines (marks_of h) ts ≡ shown_lines h ts
shown-lines h e = ap flat (each_line e)
  where
    each_line : {ts : List (List ℕ)} → Each (λ p. length p ≤ max_attributes) ts → map (marked_line (marks_of h)) ts ≡ map (shown_line h) ts
    each_line none = refl
    each_line (more {x = p} l r) = ap₂ (λ (l : List ℕ) (ls : List (List ℕ)). l ∷ ls) (ap line_of (marked-shown h p 0 max_attributes l)) (each_line r)

-- ---- nothing hidden

no-field-hidden : (i : ℕ) (p : List ℕ) → shown_from [] i p ≡ map decimal p
unfolding shown_from is_in
no-field-hidden i [] = refl
no-field-hidden i (v ∷ p) = ap (λ (fs : List (List ℕ)). decimal v ∷ fs) (no-field-hidden (suc i) p)

pub nothing_hidden : NothingHidden
nothing_hidden ts = ap flat (each_line ts)
  where
    each_line : (ts : List (List ℕ)) → map (shown_line []) ts ≡ map tuple_line ts
    each_line [] = refl
    each_line (p ∷ ts) = ap₂ (λ (l : List ℕ) (ls : List (List ℕ)). l ∷ ls) (ap line_of (no-field-hidden 0 p)) (each_line ts)

pub field-shown : (b : Bool) (v : ℕ) → shown_field b v ≡ field_bytes (then_some (not b) v)
field-shown true v = refl
field-shown false v = refl
