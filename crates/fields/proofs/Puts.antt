-- Bytes put into a slice from a place on.
--   length-put_at   == a slice stays as long as it is
--   put_at-none     == nothing is put into an empty slice
--   put_at-append   == bytes put one after the other
--   put_at-beyond   == nothing is put beyond the end
--   put_at-over     == bytes put at the front
--   puts_none, puts-byte, puts_then == nothing, one byte, what is put at the next place
--   puts-long      == the slice stays as long as it is
--   puts-same      == equal bytes, later slices and next places
--   puts-turn      == one byte more of a list
--   prints-all, prints-none == a print that was counted on an empty slice: it fits, or not
--   prints-counted == the count of a print that is not too long
use mathlib.Core.Path.{◌≡◌, refl, sym, ap, ◌∙◌}
use mathlib.Core.List.{List, [], ◌∷◌, ◌++◌}
use Prim.Native.Nat.{ℕ, suc, ◌+◌, ◌≤◌, ◌<◌}
use native.Mathlib.Nat.{add-zero, add-suc, suc-add}
use native.Mathlib.Numerals.{add-one}
use native.Mathlib.Omega.{arith}
use borrow.Author.Tests.{leb-true, leb-false, le-leb, lt-leb}
use lib.Dec.{leb}
use lib.ListN.{length, get_or, set, take, length-append, length-set}
use lib.Seq.{take-suc, set_out}
use Rattle.boxes.proofs.Tests.{by}
use Rattle.questions.specs.Words.{over}
use Rattle.fields.specs.Limits.{farthest, capped, onward}
use Rattle.fields.specs.Puts.{put_at, Puts, PrintsWith}
use Rattle.fields.proofs.Onward.{at_most-low, capped-most, capped-within, onward_near, onward-least, onward-none, onward_then, onward-start}

pub length-put_at : (at : ℕ) (bs o : List ℕ) → length (put_at at bs o) ≡ length o
unfolding put_at
length-put_at at [] o = refl
length-put_at at (b ∷ bs) o = length-put_at (suc at) bs (set o at b) ∙ length-set o at b

pub put_at-none : (at : ℕ) (bs : List ℕ) → put_at at bs [] ≡ []
unfolding put_at
put_at-none at [] = refl
put_at-none at (b ∷ bs) = put_at-none (suc at) bs

pub put_at-append : (at : ℕ) (xs ys o : List ℕ) → put_at at (xs ++ ys) o ≡ put_at (at + length xs) ys (put_at at xs o)
unfolding put_at
put_at-append at [] ys o = ap (λ (k : ℕ). put_at k ys o) (sym (add-zero at))
put_at-append at (x ∷ xs) ys o =
    put_at-append (suc at) xs ys (set o at x)
    ∙ ap (λ (k : ℕ). put_at k ys (put_at (suc at) xs (set o at x))) (suc-add at (length xs) ∙ sym (add-suc at (length xs)))

pub put_at-beyond : (at : ℕ) (bs o : List ℕ) → length o ≤ at → put_at at bs o ≡ o
unfolding put_at
put_at-beyond at [] o h = refl
put_at-beyond at (b ∷ bs) o h = rw (set_out o at b h) (put_at-beyond (suc at) bs o (omega arith))

-- a place that stopped is beyond the end, as the one that it stands for
put_at-onward : (at n : ℕ) (bs o : List ℕ) → length o < farthest → put_at (onward at n) bs o ≡ put_at (at + n) bs o
put_at-onward at n bs o h =
    by (leb (at + n) farthest)
    (λ t. rw (onward_near at n (leb-true (at + n) farthest t)))
    (λ f.
    let far : farthest < at + n = leb-false (at + n) farthest f in
    put_at-beyond (onward at n) bs o (omega (arith, onward-least at n far)) ∙ sym (put_at-beyond (at + n) bs o (omega arith)))

-- what stands before the place is left alone
put_at-behind : (bs : List ℕ) (at a : ℕ) (o : List ℕ) → put_at (suc at) bs (a ∷ o) ≡ a ∷ put_at at bs o
unfolding put_at
put_at-behind [] at a o = refl
put_at-behind (b ∷ bs) at a o = put_at-behind bs (suc at) a (set o at b)

pub put_at-over : (bs o : List ℕ) → length bs ≤ length o → put_at 0 bs o ≡ over bs o
unfolding put_at
put_at-over [] o h = refl
put_at-over (b ∷ bs) [] h = absurd (omega arith)
put_at-over (b ∷ bs) (a ∷ o) h = put_at-behind bs 0 b o ∙ ap (λ (l : List ℕ). b ∷ l) (put_at-over bs o (omega arith))

pub puts_then : {xs ys o o₁ o₂ : List ℕ} {at r s : ℕ} → Puts xs at o o₁ r → Puts ys r o₁ o₂ s → Puts (xs ++ ys) at o o₂ s
puts_then {xs} {ys} {o} {o₁} {o₂} {at} {r} {s} p q = record {
  next = q.next ∙ ap (λ (k : ℕ). onward k (length ys)) p.next ∙ onward_then at (length xs) (length ys) ∙ ap (onward at) (sym (length-append xs ys));
  bytes = q.bytes ∙ ap (put_at r ys) p.bytes ∙ ap (λ (k : ℕ). put_at k ys (put_at at xs o)) p.next
      ∙ put_at-onward at (length xs) ys (put_at at xs o) (omega (arith, p.short, length-put_at at xs o)) ∙ sym (put_at-append at xs ys o);
  short = p.short;
}

pub puts_none : (at : ℕ) (o : List ℕ) → length o < farthest → Puts [] at o o at
unfolding put_at
puts_none at o h = record { next = sym (onward-none at); bytes = refl; short = h }

pub puts-long : {xs o o₁ : List ℕ} {at r : ℕ} → Puts xs at o o₁ r → length o₁ ≡ length o
puts-long {xs} {o} {o₁} {at} p = ap length p.bytes ∙ length-put_at at xs o

pub puts-byte : {b at r : ℕ} {o o₁ : List ℕ} → length o < farthest → o₁ ≡ set o at b → r ≡ onward at 1 → Puts (b ∷ []) at o o₁ r
unfolding put_at
puts-byte h e n = record { next = n; bytes = e; short = h }

-- the same bytes, later slice and next place
pub puts-same : {xs ys o o₁ o₂ : List ℕ} {at r s : ℕ} → ys ≡ xs → o₂ ≡ o₁ → s ≡ r → Puts xs at o o₁ r → Puts ys at o o₂ s
puts-same {xs} {ys} {o} {o₁} {o₂} {at} e f g p = record {
  next = g ∙ p.next ∙ ap (λ (l : List ℕ). onward at (length l)) (sym e);
  bytes = f ∙ p.bytes ∙ ap (λ (l : List ℕ). put_at at l o) (sym e);
  short = p.short;
}

-- a loop that puts the bytes of a list one by one
pub puts-turn : (bs : List ℕ) (i : ℕ) {at r s : ℕ} {o o₁ o₂ : List ℕ} → i < length bs → Puts (take i bs) at o o₁ r
    → Puts (get_or bs i 0 ∷ []) r o₁ o₂ s → Puts (take (i + 1) bs) at o o₂ s
puts-turn bs i h p q =
    let more : take (i + 1) bs ≡ take i bs ++ (get_or bs i 0 ∷ []) = ap (λ (k : ℕ). take k bs) (add-one i) ∙ take-suc bs i 0 h in
    puts-same more refl refl (puts_then p q)

-- ---- a print that was counted first, on an empty slice

module _ {bs e : List ℕ} {r : ℕ} (p : Puts bs 0 [] e r) where
  counted : r ≡ capped (length bs)
  counted = p.next ∙ onward-start (length bs)

  still-empty : (o : List ℕ) → e ++ o ≡ o
  still-empty o = ap (λ (l : List ℕ). l ++ o) (p.bytes ∙ put_at-none 0 bs)

  pub prints-all : (o : List ℕ) {o' : List ℕ} {s : ℕ} → r ≤ length (e ++ o) → Puts bs 0 (e ++ o) o' s → PrintsWith bs o o' r
  prints-all o {o'} {s} h q =
      let at_front : Puts bs 0 o o' s = rw (still-empty o) at q in
      let within : capped (length bs) ≤ length o = omega (arith, counted, ap length (still-empty o)) in
      let fits : length bs ≤ length o = capped-within (length bs) (length o) within at_front.short in
      record { count = counted; bytes = rw (le-leb (length bs) (length o) fits) (at_front.bytes ∙ put_at-over bs o fits) }

  pub prints-none : (o : List ℕ) → length (e ++ o) < r → PrintsWith bs o (e ++ o) r
  prints-none o h =
      let long : length o < length bs = omega (arith, counted, ap length (still-empty o), capped-most (length bs)) in
      record { count = counted; bytes = rw (lt-leb (length bs) (length o) long) (still-empty o) }

pub prints-counted : {bs o o' : List ℕ} {r : ℕ} → length bs ≤ farthest → PrintsWith bs o o' r → r ≡ length bs
prints-counted {bs} h p = p.count ∙ at_most-low farthest (length bs) h
