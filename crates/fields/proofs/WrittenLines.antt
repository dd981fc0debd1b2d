-- Lines as they are written: fields with a byte between two, put one after the other.
--   joined-none, joined-one, joined-more, joined_end == of no field, of one, of a first one and others, of others and a last one
--   line-one, line-more  == a line of one field; a line begins with its first field and the byte between two
--   line_first           == and then has the line of the other fields
--   line-short           == how long a line of fields of at most k bytes each is
--   joined-split         == the fields of a line with another byte between two: that byte for the separator
--   split-joined         == with the same one they make the line
--   values_by c xs i      == the first i values of a tuple
--   ValueNext            == all that stands before the next value is put
--   values-none, value-first, value-later, values-turn == the values put one after the other: none, what stands before the first, before a later one, the value itself
--   swaps c l i          == the first i bytes of a line, with another byte for a space
--   swaps-turn, swaps-done == these put one after the other
use mathlib.Core.Path.{◌≡◌, refl, sym, ap, ap₂, ◌∙◌}
use mathlib.Core.List.{List, [], ◌∷◌, ◌++◌, map, append_assoc, append-nil, map-append}
use Prim.Native.Nat.{ℕ, suc, ◌+◌, ◌*◌, ◌≤◌, ◌<◌}
use native.Mathlib.Nat.{suc-mul}
use native.Mathlib.Numerals.{add-one}
use native.Mathlib.Omega.{arith}
use borrow.Author.Tests.{eqb-true}
use lib.Dec.{eqb}
use lib.ListN.{length, get_or, take, length-append, length-map}
use lib.Seq.{take-suc, take_all, append_snoc, length-take-le}
use Rattle.boxes.specs.Fits.{Each, more}
use Rattle.boxes.proofs.Tests.{by}
use Rattle.boxes.proofs.Lists.{get_d_map}
use Rattle.fields.specs.Limits.{farthest}
use Rattle.fields.specs.Fields.{space, split_from, split, fields_of}
use Rattle.fields.specs.Decimals.{decimal}
use Rattle.fields.specs.Puts.{Puts}
use Rattle.fields.specs.Writing.{joined, line_by, swapped}
use Rattle.fields.proofs.Puts.{puts_none, puts_then, puts-same, puts-turn}

module _ (c : ℕ) where
  pub joined-none : joined c [] ≡ []
  unfolding joined
  joined-none = refl

  pub joined-one : (f : List ℕ) → joined c (f ∷ []) ≡ f
  unfolding joined
  joined-one f = refl

  pub joined-more : (f g : List ℕ) (fs : List (List ℕ)) → joined c (f ∷ (g ∷ fs)) ≡ f ++ (c ∷ joined c (g ∷ fs))
  unfolding joined
  joined-more f g fs = refl

  pub joined_end : (fs : List (List ℕ)) (f : List ℕ) → 1 ≤ length fs → joined c (fs ++ (f ∷ [])) ≡ joined c fs ++ (c ∷ f)
  unfolding joined
  joined_end [] f h = absurd (omega arith)
  joined_end (g ∷ []) f h = refl
  joined_end (g ∷ (k ∷ fs)) f h =
      ap (λ (l : List ℕ). g ++ (c ∷ l)) (joined_end (k ∷ fs) f (omega arith)) ∙ sym (append_assoc g (c ∷ joined c (k ∷ fs)) (c ∷ f))

  module _ (e : List ℕ) where
    pub line-one : (f : List ℕ) → line_by c e (f ∷ []) ≡ f ++ e
    line-one f = ap (λ (l : List ℕ). l ++ e) (joined-one f)

    pub line-more : (f g : List ℕ) (fs : List (List ℕ)) → line_by c e (f ∷ (g ∷ fs)) ≡ f ++ (c ∷ line_by c e (g ∷ fs))
    line-more f g fs = ap (λ (l : List ℕ). l ++ e) (joined-more f g fs) ∙ append_assoc f (c ∷ joined c (g ∷ fs)) e

    -- the first field with the byte behind it, and then a line of the others
    pub line_first : (f g : List ℕ) (fs : List (List ℕ)) → line_by c e (f ∷ (g ∷ fs)) ≡ (f ++ (c ∷ [])) ++ line_by c e (g ∷ fs)
    line_first f g fs = line-more f g fs ∙ sym (append_snoc f c (line_by c e (g ∷ fs)))

    -- each field has at most k bytes, and a byte behind it or the line's end
    pub line-short : (k : ℕ) (fs : List (List ℕ)) → 1 ≤ length fs → Each (λ f. length f ≤ k) fs → suc (length (line_by c e fs)) ≤ length fs * suc k + length e
    line-short k [] some h = absurd (omega arith)
    line-short k (f ∷ []) some (more h r) = rw (line-one f) (omega (arith, length-append f e, h))
    line-short k (f ∷ (g ∷ fs)) some (more h r) =
        rw (line-more f g fs)
        (omega (arith, h, length-append f (c ∷ line_by c e (g ∷ fs)), line-short k (g ∷ fs) (omega arith) r, suc-mul (suc (length fs)) (suc k)))

-- ---- the fields of a line

module _ (c d : ℕ) where
  joined-before : (f g s : List ℕ) → joined c (f ∷ split_from d g s) ≡ f ++ (c ∷ joined c (split_from d g s))
  unfolding joined split_from
  joined-before f g [] = refl
  joined-before f g (b ∷ s) = by (eqb b d) (λ t. rw t) (λ e. rw e (joined-before f (g ++ (b ∷ [])) s))

  joined-split_from : (f s : List ℕ) → joined c (split_from d f s) ≡ f ++ map (swapped d c) s
  unfolding split_from
  joined-split_from f [] = joined-one c f ∙ sym (append-nil f)
  joined-split_from f (b ∷ s) =
      by (eqb b d)
      (λ t. rw t (joined-before f [] s ∙ ap (λ (l : List ℕ). f ++ (c ∷ l)) (joined-split_from [] s)))
      (λ e. rw e (joined-split_from (f ++ (b ∷ [])) s ∙ append_snoc f b (map (swapped d c) s)))

  pub joined-split : (s : List ℕ) → joined c (split d s) ≡ map (swapped d c) s
  joined-split s = joined-split_from [] s

swapped_same : (c b : ℕ) → swapped c c b ≡ b
swapped_same c b = by (eqb b c) (λ t. rw t (sym (eqb-true b c t))) (λ e. rw e)

all_same : (c : ℕ) (s : List ℕ) → map (swapped c c) s ≡ s
all_same c [] = refl
all_same c (b ∷ s) = ap₂ (λ (x : ℕ) (l : List ℕ). x ∷ l) (swapped_same c b) (all_same c s)

pub split-joined : (c : ℕ) (s : List ℕ) → joined c (split c s) ≡ s
split-joined c s = joined-split c c s ∙ all_same c s

-- ---- the values of a tuple put one after the other

module _ (c : ℕ) (xs : List ℕ) where
  abbrev pub values_by : ℕ → List ℕ
  values_by i = joined c (map decimal (take i xs))

  pub values-none : (at : ℕ) (o : List ℕ) → length o < farthest → Puts (values_by 0) at o o at
  values-none at o h = puts-same (joined-none c) refl refl (puts_none at o h)

  next-values : (i : ℕ) → i < length xs → map decimal (take (i + 1) xs) ≡ map decimal (take i xs) ++ (decimal (get_or xs i 0) ∷ [])
  next-values i h = ap (map decimal) (ap (λ (k : ℕ). take k xs) (add-one i) ∙ take-suc xs i 0 h) ∙ map-append decimal (take i xs) (get_or xs i 0 ∷ [])

  -- what stands before the value at i is put
  pub record ValueNext (i at : ℕ) (o o₁ : List ℕ) (r : ℕ) : Type 0 where
    pub front : List ℕ
    pub is : values_by (i + 1) ≡ front ++ decimal (get_or xs i 0)
    pub puts : Puts front at o o₁ r

  module _ (i : ℕ) (h : i < length xs) {at r : ℕ} {o o₁ : List ℕ} (p : Puts (values_by i) at o o₁ r) where
    pub value-first : i ≡ 0 → ValueNext i at o o₁ r
    value-first e =
        let before : map decimal (take i xs) ≡ [] = ap (λ (k : ℕ). map decimal (take k xs)) e in
        record {
          front = [];
          is = ap (joined c) (next-values i h ∙ ap (λ (fs : List (List ℕ)). fs ++ (decimal (get_or xs i 0) ∷ [])) before) ∙ joined-one c (decimal (get_or xs i 0));
          puts = puts-same (sym (ap (joined c) before ∙ joined-none c)) refl refl p;
        }

    pub value-later : {o₂ : List ℕ} {s : ℕ} → 0 < i → Puts (c ∷ []) r o₁ o₂ s → ValueNext i at o o₂ s
    value-later some q =
        let many : 1 ≤ length (map decimal (take i xs)) = omega (arith, length-map (take i xs) decimal, length-take-le i xs (omega arith)) in
        record {
          front = values_by i ++ (c ∷ []);
          is = ap (joined c) (next-values i h) ∙ joined_end c (map decimal (take i xs)) (decimal (get_or xs i 0)) many ∙ sym (append_snoc (values_by i) c (decimal (get_or xs i 0)));
          puts = puts_then p q;
        }

pub values-turn : {c i at r s : ℕ} {xs o o₁ o₂ : List ℕ} → ValueNext c xs i at o o₁ r → Puts (decimal (get_or xs i 0)) r o₁ o₂ s → Puts (values_by c xs (i + 1)) at o o₂ s
values-turn n q = puts-same n.is refl refl (puts_then n.puts q)

-- ---- the fields of a line put byte by byte, with another byte between two

module _ (c : ℕ) (l : List ℕ) where
  abbrev pub swaps : ℕ → List ℕ
  swaps i = take i (map (swapped space c) l)

  pub swaps-turn : (i : ℕ) {o o₁ o₂ : List ℕ} {at r s b : ℕ} → i < length l → Puts (swaps i) at o o₁ r
      → b ≡ swapped space c (get_or l i 0) → Puts (b ∷ []) r o₁ o₂ s → Puts (swaps (i + 1)) at o o₂ s
  swaps-turn i {b = b} h p e q =
      let is : get_or (map (swapped space c) l) i 0 ≡ b = get_d_map (swapped space c) l i 0 0 h ∙ sym e in
      puts-turn (map (swapped space c) l) i (omega (arith, length-map l (swapped space c))) p (puts-same (ap (λ (x : ℕ). x ∷ []) is) refl refl q)

  pub swaps-done : (i : ℕ) {o o₁ : List ℕ} {at r : ℕ} → length l ≤ i → Puts (swaps i) at o o₁ r → Puts (joined c (fields_of l)) at o o₁ r
  swaps-done i h p =
      puts-same (joined-split c space l ∙ sym (take_all i (map (swapped space c) l) (omega (arith, length-map l (swapped space c))))) refl refl p
