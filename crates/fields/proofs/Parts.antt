-- The parts of a text between its separators.
--   split-some, length-split, length-fields_of == there is a part, and at most one more than there are bytes; so of a line's fields
--   parts_from-all, parts_from-beyond           == the parts from the beginning are all; from beyond the end there is none
--   part_none, part-more                      == no byte; one byte more
--   PartOpen c s at e                         == the part that begins at a place goes on up to e
--   open-start, open_more, open-stop, open-end == it begins; one byte more; it ends at a separator, or with the text
--   part_end-beyond                            == beyond the end the place stays
--   part_end-is, part-ends                     == where a part ends is its end, and this ends it
--   part_end-found                            == and it is found as std's `position` answers
use mathlib.Core.Path.{◌≡◌, refl, sym, ap, ◌∙◌, subst}
use mathlib.Core.List.{List, [], ◌∷◌, ◌++◌}
use Prim.Native.Nat.{ℕ, zero, suc, ◌+◌, ◌-◌, ◌≤◌, ◌<◌}
use native.Mathlib.Numerals.{add-one}
use native.Mathlib.Omega.{arith}
use borrow.Author.Tests.{le-leb, lt-leb, eqb-true, eqb-false, eq-eqb, ne_eqb}
use lib.Dec.{eqb}
use lib.ListN.{length, get_or, take, drop, length-drop, drop_of_length-le}
use lib.Seq.{take_all, take-suc, drop-cons, get_or-drop, length-take-le}
use mathlib.Core.Bool.{cond}
use borrow.Author.Tests.{ltb-false}
use lib.Dec.{ltb}
use native.Mathlib.Numerals.{one-add}
use Rattle.std.specs.Prelude.{Option, Some, None, unwrap_or}
use Rattle.std.specs.List.{slice_split, onto_first, position_or_len}
use Rattle.fields.proofs.Cuts.{split-cut}
use Rattle.boxes.proofs.Tests.{by}
use Rattle.fields.specs.Fields.{space, split_from, split, fields_of}
use Rattle.fields.specs.Parts.{part, parts_from, PartEnd, part_end}

module _ (c : ℕ) where
  split_from-some : (f s : List ℕ) → 1 ≤ length (split_from c f s)
  unfolding split_from
  split_from-some f [] = omega arith
  split_from-some f (b ∷ s) = by (eqb b c) (λ t. rw t (omega arith)) (λ e. rw e (split_from-some (f ++ (b ∷ [])) s))

  length-split_from : (f s : List ℕ) → length (split_from c f s) ≤ suc (length s)
  unfolding split_from
  length-split_from f [] = omega arith
  length-split_from f (b ∷ s) =
      by (eqb b c) (λ t. rw t (omega (arith, length-split_from [] s))) (λ e. rw e (omega (arith, length-split_from (f ++ (b ∷ [])) s)))

  pub split-some : (s : List ℕ) → 1 ≤ length (split c s)
  split-some s = split_from-some [] s

  pub length-split : (s : List ℕ) → length (split c s) ≤ suc (length s)
  length-split s = length-split_from [] s

  split_from-none : (f : List ℕ) → split_from c f [] ≡ f ∷ []
  unfolding split_from
  split_from-none f = refl

  split_from-stop : (f s : List ℕ) {b : ℕ} → b ≡ c → split_from c f (b ∷ s) ≡ f ∷ split c s
  unfolding split_from
  split_from-stop f s {b} e = rw (eq-eqb b c e)

  split_from-pass : (f s : List ℕ) {b : ℕ} → (b ≡ c → ⊥) → split_from c f (b ∷ s) ≡ split_from c (f ++ (b ∷ [])) s
  unfolding split_from
  split_from-pass f s {b} n = rw (ne_eqb b c n)

  module _ (s : List ℕ) where
    parts_from-within : (at : ℕ) → at ≤ length s → parts_from c s at ≡ split c (drop at s)
    unfolding parts_from
    parts_from-within at h = rw (le-leb at (length s) h)

    pub parts_from-beyond : (at : ℕ) → length s < at → parts_from c s at ≡ []
    unfolding parts_from
    parts_from-beyond at h = rw (lt-leb at (length s) h)

    pub parts_from-all : parts_from c s 0 ≡ split c s
    parts_from-all = parts_from-within 0 (omega arith)

pub length-fields_of : (l : List ℕ) → length (fields_of l) ≤ suc (length l)
length-fields_of l = length-split space l

pub part_none : (at : ℕ) (s : List ℕ) → part at at s ≡ []
part_none at s = let e : at - at ≡ 0 = omega arith in rw e

pub part-more : (at e : ℕ) (s : List ℕ) → at ≤ e → e < length s → part at (e + 1) s ≡ part at e s ++ (get_or s e 0 ∷ [])
part-more at e s h k =
    let n : e + 1 - at ≡ suc (e - at) = omega arith in
    let i : at + (e - at) ≡ e = omega arith in
    rw n (take-suc (drop at s) (e - at) 0 (omega (arith, length-drop at s)) ∙ ap (λ (b : ℕ). part at e s ++ (b ∷ [])) (get_or-drop at s (e - at) 0 ∙ ap (λ (j : ℕ). get_or s j 0) i))

pub record PartOpen (c : ℕ) (s : List ℕ) (at e : ℕ) : Type 0 where
  pub after : at ≤ e
  pub within : e ≤ length s
  pub rest : split c (drop at s) ≡ split_from c (part at e s) (drop e s)

module _ {c : ℕ} {s : List ℕ} {at : ℕ} where
  pub open-start : at ≤ length s → PartOpen c s at at
  open-start h = record { after = omega arith; within = h; rest = rw (part_none at s) }

  module _ {e : ℕ} (o : PartOpen c s at e) where
    pub open_more : e < length s → (get_or s e 0 ≡ c → ⊥) → PartOpen c s at (e + 1)
    open_more h n = record {
      after = omega (arith, o.after);
      within = omega arith;
      rest = o.rest ∙ ap (split_from c (part at e s)) (drop-cons s e 0 h) ∙ split_from-pass c (part at e s) (drop (suc e) s) n
          ∙ rw (part-more at e s o.after h, add-one);
    }

    pub open-stop : e < length s → get_or s e 0 ≡ c → PartEnd c s at e
    open-stop h is = record {
      after = o.after;
      within = o.within;
      parts = parts_from-within c s at (omega (arith, o.after)) ∙ o.rest ∙ ap (split_from c (part at e s)) (drop-cons s e 0 h)
          ∙ split_from-stop c (part at e s) (drop (suc e) s) is
          ∙ ap (λ (l : List (List ℕ)). part at e s ∷ l) (sym (parts_from-within c s (e + 1) (omega arith) ∙ rw add-one));
    }

    pub open-end : length s ≤ e → PartEnd c s at e
    open-end h = record {
      after = o.after;
      within = o.within;
      parts = parts_from-within c s at (omega (arith, o.after, o.within)) ∙ o.rest ∙ ap (split_from c (part at e s)) (drop_of_length-le s h)
          ∙ split_from-none c (part at e s) ∙ ap (λ (l : List (List ℕ)). part at e s ∷ l) (sym (parts_from-beyond c s (e + 1) (omega arith)));
    }

-- ---- where a part ends

module _ (c : ℕ) (s : List ℕ) (at : ℕ) where
  pub part_end-beyond : length s ≤ at → part_end c s at ≡ at
  part_end-beyond h = rw (drop_of_length-le s h, split_from-none c []) (omega arith)

  pub part_end-is : {r : ℕ} → PartEnd c s at r → r ≡ part_end c s at
  part_end-is {r} p =
      let first : get_or (split c (drop at s)) 0 [] ≡ part at r s =
      ap (λ (ps : List (List ℕ)). get_or ps 0 []) (sym (parts_from-within c s at (omega (arith, p.after, p.within))) ∙ p.parts) in
      let long : length (part at r s) ≡ r - at = length-take-le (r - at) (drop at s) (omega (arith, length-drop at s, p.within)) in
      rw first (omega (arith, long, p.after))

  closes : {r : ℕ} → PartEnd c s at r → PartEnd c s at (part_end c s at)
  closes p = subst (λ (r : ℕ). PartEnd c s at r) (part_end-is p) p

  -- a part goes on until a separator or the end comes
  ends-from : (n e : ℕ) → length s - e ≡ n → PartOpen c s at e → PartEnd c s at (part_end c s at)
  ends-from zero e left o = closes (open-end o (omega arith))
  ends-from (suc n) e left o =
      let within : e < length s = omega arith in
      by (eqb (get_or s e 0) c)
      (λ t. closes (open-stop o within (eqb-true (get_or s e 0) c t)))
      (λ f. ends-from n (e + 1) (omega arith) (open_more o within (eqb-false (get_or s e 0) c f)))

  pub part-ends : {r : ℕ} → at ≤ length s → r ≡ part_end c s at → PartEnd c s at r
  part-ends h e = rw e (ends-from (length s - at) at refl (open-start h))

-- ---- and how it is found, as std's `position` answers

length-onto : (b : ℕ) (ps : List (List ℕ)) → length (get_or (onto_first b ps) 0 []) ≡ suc (length (get_or ps 0 []))
length-onto b [] = refl
length-onto b (p ∷ ps) = refl

module _ (c : ℕ) where
  abbrev ends_at : List ℕ → ℕ
  ends_at s = position_or_len (λ b. eqb b c) s

  first-cut : (s : List ℕ) → length (get_or (slice_split (λ b. eqb b c) s) 0 []) ≡ ends_at s
  first-cut [] = refl
  first-cut (b ∷ s) =
      by (eqb b c) (λ t. rw t refl)
      (λ e. rw e (length-onto b (slice_split (λ a. eqb a c) s) ∙ ap suc (first-cut s) ∙ sym (one-add (ends_at s))))

  ends-most : (s : List ℕ) → ends_at s ≤ length s
  ends-most [] = omega arith
  ends-most (b ∷ s) = by (eqb b c) (λ t. rw t (omega arith)) (λ e. rw e (omega (arith, ends-most s)))

  found : (n m : ℕ) → n ≤ m → unwrap_or (cond (ltb n m) (Some n) None) m ≡ n
  found n m h = by (ltb n m) (λ t. rw t refl) (λ f. rw f (omega (arith, h, ltb-false n m f)))

  pub part_end-found : (s : List ℕ) (at : ℕ) {rest : List ℕ} {n : Option ℕ} {r : ℕ} → rest ≡ take (length s - at) (drop at s)
      → n ≡ cond (ltb (ends_at rest) (length rest)) (Some (ends_at rest)) None → r ≡ unwrap_or n (length rest) → at + r ≡ part_end c s at
  part_end-found s at {rest} {n} {r} is p e =
      let all : rest ≡ drop at s = is ∙ take_all (length s - at) (drop at s) (omega (arith, length-drop at s)) in
      ap (λ (k : ℕ). at + k)
      (e ∙ ap (λ (o : Option ℕ). unwrap_or o (length rest)) p ∙ found (ends_at rest) (length rest) (ends-most rest) ∙ sym (first-cut rest)
      ∙ ap (λ (l : List ℕ). length (get_or (slice_split (λ b. eqb b c) l) 0 [])) all ∙ ap (λ (ps : List (List ℕ)). length (get_or ps 0 [])) (split-cut c (drop at s)))
