-- A listing that ascends is sorted: the test asks of neighbours only, and the order of tuples is transitive.
--   leads-each, each-leads == the first tuple is before the next, exactly if it is before all
--   ascending-sorted, sorted-ascending == so of every tuple
use mathlib.Core.Path.{◌≡◌, refl}
use mathlib.Core.Bool.{true}
use mathlib.Core.List.{List, [], ◌∷◌}
use Prim.Native.Nat.{ℕ}
use Rattle.boxes.specs.Fits.{Each, none, more}
use Rattle.boxes.proofs.Tests.{and_left, and_right, and_both}
use Rattle.boxes.proofs.Lists.{each-imp}
use Rattle.questions.specs.Orders.{before}
use Rattle.questions.specs.Good.{Ordered, Sorted}
use Rattle.questions.proofs.Laws.{before-trans}
use Rattle.checker.specs.Checks.{leads, ascending}

leads-each : (p : List ℕ) (ts : List (List ℕ)) → leads p ts ≡ true → Sorted ts → Each (λ r. before p r ≡ true) ts
leads-each p [] e Ordered.none = none
leads-each p (r ∷ ts) e (Ordered.more h s) = more e (each-imp (λ x k. before-trans p r x e k) h)

each-leads : (p : List ℕ) {ts : List (List ℕ)} → Each (λ r. before p r ≡ true) ts → leads p ts ≡ true
each-leads p none = refl
each-leads p (more h r) = h

pub ascending-sorted : (ts : List (List ℕ)) → ascending ts ≡ true → Sorted ts
unfolding ascending
ascending-sorted [] e = Ordered.none
ascending-sorted (p ∷ ts) e =
    let rest : Sorted ts = ascending-sorted ts (and_right (leads p ts) (ascending ts) e) in
    Ordered.more (leads-each p ts (and_left (leads p ts) (ascending ts) e) rest) rest

pub sorted-ascending : {ts : List (List ℕ)} → Sorted ts → ascending ts ≡ true
unfolding ascending
sorted-ascending Ordered.none = refl
sorted-ascending (Ordered.more {x = p} h s) = and_both (each-leads p h) (sorted-ascending s)
