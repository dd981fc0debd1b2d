-- Parts without the separator split off whole, so a line of fields reads back as these fields.
--   Free c f, Plain f  == no byte of f is c; f has no space and no line end
--   split-free, split-more == of split: one part; a part and then more
--   fields_of-joined    == the fields of a line
--   joined_free        == no line end stands within a line
--   digits-plain, letters-plain == digits and small letters are neither separator
use mathlib.Core.Path.{◌≡◌, refl, sym, ap, ◌∙◌}
use mathlib.Core.Bool.{true, false, ◌&&◌}
use mathlib.Core.List.{List, [], ◌∷◌, ◌++◌, append-nil}
use Prim.Native.Nat.{ℕ, ◌≤◌}
use native.Mathlib.Omega.{arith}
use lib.Dec.{eqb, leb}
use lib.Seq.{append_snoc}
use borrow.Author.Tests.{leb-true, eq-eqb, ne_eqb}
use Rattle.boxes.specs.Fits.{Each, none, more}
use Rattle.boxes.proofs.Lists.{each_append, each-imp}
use Rattle.boxes.proofs.Tests.{and_left}
use Rattle.fields.specs.Fields.{space, line_end, is_letter, is_digit, every, split_from, split, fields_of}
use Rattle.boxes.proofs.Every.{every-each}
use Rattle.fields.specs.Writing.{joined}

abbrev pub Free : ℕ → List ℕ → Type 0
Free c f = Each (λ b. eqb b c ≡ false) f

abbrev pub Plain : List ℕ → Type 0
Plain f = Free space f × Free line_end f

-- ---- one separator

split_from-free : (c : ℕ) (g : List ℕ) {f : List ℕ} → Free c f → split_from c g f ≡ (g ++ f) ∷ []
unfolding split_from
split_from-free c g none = ap (λ (l : List ℕ). l ∷ []) (sym (append-nil g))
split_from-free c g (more {x = b} {xs = f} e r) = rw e (split_from-free c (g ++ (b ∷ [])) r ∙ ap (λ (l : List ℕ). l ∷ []) (append_snoc g b f))

split_from-more : (c : ℕ) (g : List ℕ) {f : List ℕ} (s : List ℕ) → Free c f → split_from c g (f ++ (c ∷ s)) ≡ (g ++ f) ∷ split c s
unfolding split_from
split_from-more c g s none = rw (eq-eqb c c refl) (ap (λ (l : List ℕ). l ∷ split c s) (sym (append-nil g)))
split_from-more c g s (more {x = b} {xs = f} e r) = rw e (split_from-more c (g ++ (b ∷ [])) s r ∙ ap (λ (l : List ℕ). l ∷ split c s) (append_snoc g b f))

pub split-free : (c : ℕ) {f : List ℕ} → Free c f → split c f ≡ f ∷ []
split-free c free = split_from-free c [] free

pub split-more : (c : ℕ) {f : List ℕ} (s : List ℕ) → Free c f → split c (f ++ (c ∷ s)) ≡ f ∷ split c s
split-more c s free = split_from-more c [] s free

-- ---- a line of fields

pub fields_of-joined : (f : List ℕ) (fs : List (List ℕ)) → Each (Free space) (f ∷ fs) → fields_of (joined space (f ∷ fs)) ≡ f ∷ fs
unfolding joined
fields_of-joined f [] (more p r) = split-free space p
fields_of-joined f (g ∷ fs) (more p r) = split-more space (joined space (g ∷ fs)) p ∙ ap (λ (l : List (List ℕ)). f ∷ l) (fields_of-joined g fs r)

pub joined_free : (fs : List (List ℕ)) → Each (Free line_end) fs → Free line_end (joined space fs)
unfolding joined
joined_free [] r = none
joined_free (f ∷ []) (more p r) = p
joined_free (f ∷ (g ∷ fs)) (more p r) = each_append p (more refl (joined_free (g ∷ fs) r))

-- ---- digits and letters

-- bytes of a range that has neither separator
range-plain : (m n : ℕ) → 33 ≤ m → {f : List ℕ} → Each (λ b. (leb m b && leb b n) ≡ true) f → Plain f
range-plain m n h r =
    let least : (b : ℕ) → (leb m b && leb b n) ≡ true → 33 ≤ b = λ b t. omega (arith, leb-true m b (and_left (leb m b) (leb b n) t)) in
    (each-imp (λ b t. ne_eqb b space (λ e. omega (arith, e, least b t))) r, each-imp (λ b t. ne_eqb b line_end (λ e. omega (arith, e, least b t))) r)

pub digits-plain : (f : List ℕ) → every is_digit f ≡ true → Plain f
digits-plain f e = range-plain 48 57 (omega arith) (every-each is_digit f e)

pub letters-plain : (f : List ℕ) → every is_letter f ≡ true → Plain f
letters-plain f e = range-plain 97 122 (omega arith) (every-each is_letter f e)
