-- A number put into the first numbers of an order: those behind its place move up by one.
--   put-in == the numbers from a place on copied one place further, and a number put at the place
use mathlib.Core.Path.{◌≡◌, sym, ap, ap₂, ◌∙◌}
use mathlib.Core.List.{List, ◌∷◌, ◌++◌}
use Prim.Native.Nat.{ℕ, suc, ◌+◌, ◌-◌, ◌≤◌, ◌<◌}
use native.Mathlib.Omega.{arith}
use lib.ListN.{length, set, take, drop, length-append, length-drop}
use lib.Seq.{length-take-le, take-take, take-add, take_at, drop_at, take-append-le, take-set-lt, set_split, paste, take-paste}
use Rattle.csv_tables.specs.Keeping.{put_in}

pub put-in : (o : List ℕ) (m at x : ℕ) → m < length o → at ≤ m → take (suc m) (set (paste o (at + 1) (drop at o) (m - at)) at x) ≡ put_in at x (take m o)
put-in o m at x h l =
    let rest : List ℕ = take (m - at) (drop at o) in
    let front : List ℕ = take (at + 1) o in
    let whole : suc m ≡ at + 1 + (m - at) = omega arith in
    let front-long : length front ≡ at + 1 = length-take-le (at + 1) o (omega arith) in
    let rest-long : m - at ≤ length (drop at o) = omega (arith, length-drop at o) in
    let top : take (suc m) (paste o (at + 1) (drop at o) (m - at)) ≡ front ++ rest =
    ap (λ (n : ℕ). take n (paste o (at + 1) (drop at o) (m - at))) whole ∙ take-paste o (at + 1) (drop at o) (m - at) (omega arith) rest-long in
    let sum : m ≡ at + (m - at) = omega arith in
    let parts : take m o ≡ take at o ++ rest = ap (λ (n : ℕ). take n o) sum ∙ take-add at (m - at) o in
    let at-long : length (take at o) ≡ at = length-take-le at o (omega arith) in
    take-set-lt (suc m) (paste o (at + 1) (drop at o) (m - at)) at x (omega arith)
    ∙ ap (λ (l : List ℕ). set l at x) top
    ∙ set_split (front ++ rest) at x (omega (arith, front-long, length-append front rest))
    ∙ ap₂ (λ (l r : List ℕ). l ++ (x ∷ r))
    (take-append-le at front rest (omega (arith, front-long)) ∙ take-take at (at + 1) o (omega arith) ∙ sym (take_at (take at o) rest at at-long) ∙ ap (take at) (sym parts))
    (drop_at front rest (suc at) (omega (arith, front-long)) ∙ sym (drop_at (take at o) rest at at-long) ∙ ap (drop at) (sym parts))
