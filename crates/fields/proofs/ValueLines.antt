-- What the fields of a line stand for: their values in an array.
--   length_front      == an array of the first values is as long as ever
--   filled_to-set, front-more == an array after one value more; that of the first ones
--   low_place-low, low_place-high == a place that is a value, and one that is none
--   place_line-short, places_in-short == the places of names among those of a line that is not too long
--   names_in-line, numbers_in-line, places_in-line == what is answered of a line, by what there is to say of it
--   Valued steps p v l s n b vs == of the n fields of a line so far: b, whether each passes the test p, and vs, their values by v, in an array
--   valued-start, valued-more, valued-end == of a loop over a line's fields: at the start; one more; at the end
use mathlib.Core.Path.{◌≡◌, refl, sym, ap, ap₂, ◌∙◌}
use mathlib.Core.Bool.{Bool, true}
use mathlib.Core.List.{List, [], ◌∷◌, ◌++◌, map, map-append}
use Prim.Native.Nat.{ℕ, suc, ◌-◌, ◌≤◌, ◌<◌}
use native.Mathlib.Numerals.{add-one}
use native.Mathlib.Omega.{arith}
use borrow.Author.Tests.{ltb-true, ltb-false}
use lib.Dec.{ltb}
use lib.ListN.{length, take, set, replicate, length-map, length-append, length-replicate, length-take}
use lib.Seq.{take_all, take-append-le, set-append_seam, set_out, append_snoc}
use Rattle.boxes.specs.Limits.{max_attributes}
use Rattle.boxes.proofs.Lists.{length-end}
use Rattle.boxes.proofs.Tests.{by}
use Rattle.questions.specs.Directories.{filled_to}
use Rattle.fields.specs.Limits.{max_value, farthest, onward}
use Rattle.fields.specs.Fields.{fields_of, every, field_number, place, is_one}
use Rattle.std.specs.Prelude.{◌&&◌, Option, Some, None}
use Rattle.fields.specs.Names.{names_in, names_by}
use Rattle.std.proofs.lemmas.Iterator.{YieldsList}
use denote.Ref.{Bor}
use Rattle.boxes.specs.Intervals.{pick}
use Rattle.fields.specs.Lines.{values, low_place, numbers_in, numbers_by, places_of, places_in, value_line, values_of, name_line, number_line, place_line}
use Rattle.fields.proofs.Onward.{at_most-low, at_most-high, onward_near}
use Rattle.boxes.proofs.Every.{every-none, every-end}
use Rattle.fields.proofs.Places.{place-most}
use Rattle.fields.proofs.Parts.{length-fields_of}
use Rattle.fields.proofs.Cuts.{Cutting, cut_start, cut_more, cut_next, cut_end}

module _ (n d : ℕ) where
  -- the array after one value more, where there is room for it
  pub filled_to-set : (xs : List ℕ) (v : ℕ) → length xs < n → set (filled_to n d xs) (length xs) v ≡ filled_to n d (xs ++ (v ∷ []))
  filled_to-set xs v h =
      let room : n - length xs ≡ suc (n - suc (length xs)) = omega arith in
      rw (room, length-end xs v) (set-append_seam xs d (replicate (n - suc (length xs)) d) v ∙ sym (append_snoc xs v (replicate (n - suc (length xs)) d)))

  pub length_front : (xs : List ℕ) → length (filled_to n d (take n xs)) ≡ n
  length_front xs = omega (arith, length-append (take n xs) (replicate (n - length (take n xs)) d), length-replicate {A = ℕ} (n - length (take n xs)) d, length-take n xs)

  pub front-more : (xs : List ℕ) (v : ℕ)
      → set (filled_to n d (take n xs)) (length xs) v ≡ filled_to n d (take n (xs ++ (v ∷ [])))
  front-more xs v =
      by (ltb (length xs) n)
      (λ t.
      let h : length xs < n = ltb-true (length xs) n t in
      rw (take_all n xs (omega arith), take_all n (xs ++ (v ∷ [])) (omega (arith, length-end xs v))) (filled_to-set xs v h))
      (λ e.
      let h : n ≤ length xs = ltb-false (length xs) n e in
      rw (take-append-le n xs (v ∷ []) h) (set_out (filled_to n d (take n xs)) (length xs) v (omega (arith, length_front xs))))

-- ---- the fields of a line, one after the other

-- b is whether each so far passes the test p, and the array has what v makes of them
pub record Valued {S : Type 0} (steps : S → Option (Bor (List ℕ)) → S → Type 0) (p : List ℕ → Bool) (v : List ℕ → ℕ) (l : List ℕ) (s : S) (n : ℕ) (b : Bool) (vs : List ℕ) : Type 0 where
  pub fields : List (List ℕ)
  pub cutting : Cutting steps (λ x. x.now) s fields (fields_of l)
  pub right : b ≡ every p fields
  pub count : n ≡ length fields
  pub is : vs ≡ values (map v fields)

module _ {S : Type 0} {steps : S → Option (Bor (List ℕ)) → S → Type 0} {p : List ℕ → Bool} {v : List ℕ → ℕ} {l : List ℕ} where
  pub valued-start : {s : S} → YieldsList steps (λ x. x.now) s (fields_of l) → Valued steps p v l s 0 true (replicate max_attributes 0)
  valued-start y = record { fields = []; cutting = cut_start y; right = sym (every-none p); count = refl; is = refl }

  module _ {s : S} {n : ℕ} {b : Bool} {vs : List ℕ} (a : Valued steps p v l s n b vs) where
    module _ {t : S} {x : Bor (List ℕ)} {r : Option (Bor (List ℕ))} (e : r ≡ Some x) (h : steps s r t) where
      pub valued-more : {m w : ℕ} {c d : Bool} {ws : List ℕ} → length l < farthest → c ≡ p x.now → w ≡ v x.now → d ≡ (b && c) → m ≡ onward n 1 → ws ≡ set vs n w → Valued steps p v l t m d ws
      valued-more {m} {w} {c} {d} {ws} low passes value both next put =
          let few : n < farthest = omega (arith, a.count, cut_next a.cutting e h, length-fields_of l) in
          let long : n ≡ length (map v a.fields) = a.count ∙ sym (length-map a.fields v) in
          record {
            fields = a.fields ++ (x.now ∷ []);
            cutting = cut_more a.cutting e h;
            right = both ∙ ap₂ (λ (f g : Bool). f && g) a.right passes ∙ sym (every-end p a.fields x.now);
            count = next ∙ onward_near n 1 (omega arith) ∙ add-one n ∙ ap suc a.count ∙ sym (length-end a.fields x.now);
            is = put ∙ rw (value, a.is, long) (front-more max_attributes 0 (map v a.fields) (v x.now)) ∙ ap values (sym (map-append v a.fields (x.now ∷ [])));
          }

    pub valued-end : {t : S} {r : Option (Bor (List ℕ))} → r ≡ None → steps s r t → value_line n b vs ≡ values_of (every p (fields_of l)) (map v (fields_of l))
    valued-end e h =
        let all = cut_end a.cutting e h in
        let long : n ≡ length (map v (fields_of l)) = a.count ∙ ap length (sym all) ∙ sym (length-map (fields_of l) v) in
        ap₂ (λ (m : ℕ) (f : Bool). value_line m f vs) long (a.right ∙ ap (every p) (sym all)) ∙ ap (λ (ws : List ℕ). value_line (length (map v (fields_of l))) (every p (fields_of l)) ws) (a.is ∙ ap (λ fs. values (map v fs)) (sym all))

-- ---- places as values

module _ (p : ℕ) where
  pub low_place-low : p ≤ max_value → low_place p ≡ p
  unfolding low_place
  low_place-low h = at_most-low max_value p h

  pub low_place-high : max_value ≤ p → low_place p ≡ max_value
  unfolding low_place
  low_place-high h = at_most-high max_value p h

places-low : (gs : List (List ℕ)) → length gs ≤ max_value → (fs : List (List ℕ)) → map (λ f. low_place (place f gs)) fs ≡ map (λ f. place f gs) fs
places-low gs h [] = refl
places-low gs h (f ∷ fs) = ap₂ (λ (v : ℕ) (vs : List ℕ). v ∷ vs) (low_place-low (place f gs) (omega (arith, place-most f gs))) (places-low gs h fs)

pub place_line-short : (top : List ℕ) (n : ℕ) (l : List ℕ) → length top < max_value
    → place_line top n l ≡ values_of (every (λ f. ltb (place f (fields_of top)) n) (fields_of l)) (places_of (fields_of top) l)
place_line-short top n l h =
    let few : length (fields_of top) ≤ max_value = omega (arith, length-fields_of top) in
    ap (λ (vs : List ℕ). values_of (every (λ f. ltb (place f (fields_of top)) n) (fields_of l)) vs) (places-low (fields_of top) few (fields_of l))

pub names_in-line : (n : ℕ) (l : List ℕ) → names_in n l ≡ names_by n (name_line l)
names_in-line n l = refl

pub numbers_in-line : (n : ℕ) (l : List ℕ) → numbers_in n l ≡ numbers_by n (number_line l)
numbers_in-line n l = rw (length-map (fields_of l) field_number) refl

pub places_in-line : (top l : List ℕ) → places_in top l ≡ (let x = place_line top (length (fields_of top)) l in pick x.right (Some x.values) None)
places_in-line top l = refl

pub places_in-short : (top l : List ℕ) → length top < max_value
    → places_in top l ≡ pick (every (is_one (fields_of top)) (fields_of l)) (Some (values (places_of (fields_of top) l))) None
places_in-short top l h =
    let few : length (fields_of top) ≤ max_value = omega (arith, length-fields_of top) in
    ap (λ (vs : List ℕ). pick (every (is_one (fields_of top)) (fields_of l)) (Some (values vs)) None) (places-low (fields_of top) few (fields_of l))
