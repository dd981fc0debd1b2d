-- Places that stop at one that no slice reaches.
--   at_most-low, at_most-high == a number that is not too high stays, and another becomes the highest
--   capped-most   == none becomes higher
--   capped-within == a number that is capped to a low one is that one
--   onward-beyond == a place from there on stays
--   onward_near   == up to there a place goes on as numbers do
--   onward-far    == and stops there
--   onward-least  == a place that goes farther is not below it
--   onward-none, onward_then == no step; steps one after the other
--   onward-start  == from the first place on
use mathlib.Core.Path.{◌≡◌, sym, ap, ◌∙◌}
use Prim.Native.Nat.{ℕ, ◌+◌, ◌≤◌, ◌<◌}
use native.Mathlib.Nat.{zero-add, add_assoc}
use native.Mathlib.Omega.{arith}
use borrow.Author.Tests.{ltb-true, ltb-false, leb-true, leb-false, lt-ltb, le-ltb}
use lib.Dec.{ltb, leb}
use Rattle.boxes.proofs.Tests.{by}
use Rattle.fields.specs.Limits.{farthest, at_most, capped, onward}

module _ (m n : ℕ) where
  pub at_most-low : n ≤ m → at_most m n ≡ n
  at_most-low h = by (ltb n m) (λ t. rw t) (λ f. rw f (omega (arith, ltb-false n m f)))

  pub at_most-high : m ≤ n → at_most m n ≡ m
  at_most-high h = rw (le-ltb n m h)

pub capped-most : (n : ℕ) → capped n ≤ n
capped-most n = by (ltb n farthest) (λ t. rw t (omega arith)) (λ f. rw f (ltb-false n farthest f))

pub capped-within : (n m : ℕ) → capped n ≤ m → m < farthest → n ≤ m
capped-within n m h k =
    by (ltb n farthest) (λ t. omega (arith, at_most-low farthest n (omega (arith, ltb-true n farthest t)))) (λ f. absurd (omega (arith, at_most-high farthest n (ltb-false n farthest f))))

module _ (at n : ℕ) where
  pub onward-beyond : farthest ≤ at → onward at n ≡ at
  unfolding onward
  onward-beyond h = rw (le-ltb at farthest h)

  below : at < farthest → onward at n ≡ capped (at + n)
  unfolding onward
  below h = rw (lt-ltb at farthest h)

  pub onward_near : at + n ≤ farthest → onward at n ≡ at + n
  onward_near h =
      by (ltb at farthest)
      (λ t. below (ltb-true at farthest t) ∙ at_most-low farthest (at + n) h)
      (λ f. onward-beyond (ltb-false at farthest f) ∙ omega (arith, ltb-false at farthest f))

  pub onward-far : at ≤ farthest → farthest ≤ at + n → onward at n ≡ farthest
  onward-far h k =
      by (ltb at farthest)
      (λ t. below (ltb-true at farthest t) ∙ at_most-high farthest (at + n) k)
      (λ f. onward-beyond (ltb-false at farthest f) ∙ omega (arith, ltb-false at farthest f))

pub onward-least : (at n : ℕ) → farthest < at + n → farthest ≤ onward at n
onward-least at n h =
    by (leb at farthest)
    (λ t. omega (arith, onward-far at n (leb-true at farthest t) (omega arith)))
    (λ f. omega (arith, onward-beyond at n (omega (arith, leb-false at farthest f)), leb-false at farthest f))

pub onward-none : (at : ℕ) → onward at 0 ≡ at
onward-none at =
    by (ltb at farthest)
    (λ t. onward_near at 0 (omega (arith, ltb-true at farthest t)) ∙ omega arith)
    (λ f. onward-beyond at 0 (ltb-false at farthest f))

pub onward-start : (n : ℕ) → onward 0 n ≡ capped n
onward-start n = below 0 n (omega arith) ∙ ap capped (zero-add n)

pub onward_then : (at n m : ℕ) → onward (onward at n) m ≡ onward at (n + m)
onward_then at n m =
    by (ltb at farthest)
    (λ t.
    let low : at < farthest = ltb-true at farthest t in
    by (ltb (at + n) farthest)
    (λ u.
    let near : at + n < farthest = ltb-true (at + n) farthest u in
    rw (onward_near at n (omega arith)) (below (at + n) m near ∙ ap capped (add_assoc at n m) ∙ sym (below at (n + m) low)))
    (λ v.
    let far : farthest ≤ at + n = ltb-false (at + n) farthest v in
    rw (onward-far at n (omega arith) far) (onward-beyond farthest m (omega arith) ∙ sym (onward-far at (n + m) (omega arith) (omega arith)))))
    (λ f.
    let high : farthest ≤ at = ltb-false at farthest f in
    rw (onward-beyond at n high) (onward-beyond at m high ∙ sym (onward-beyond at (n + m) high)))
