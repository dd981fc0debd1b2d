-- Words at the front of those that the caller gave: written behind them, and patched.
--   over-long  == the words stay as many
--   over-front == words behind a front that was written into the words itself
--   over-end   == a word behind the front
--   over-paste == words of an array behind it
--   over-counted == a number, so many words of an array, and a number behind them
--   over-patch == a word of the front is replaced
--   length-filled, values-front == the values of a line in their array: how many places it has, and the first ones
use mathlib.Core.Path.{◌≡◌, refl, sym, ap, ◌∙◌}
use mathlib.Core.List.{List, [], ◌∷◌, ◌++◌}
use Prim.Native.Nat.{ℕ, suc, ◌+◌, ◌-◌, ◌≤◌, ◌<◌}
use native.Mathlib.Omega.{arith}
use lib.ListN.{length, get_or, set, take, drop, replicate, length-append, length-replicate}
use lib.Seq.{length_front, take_all, take_at, append_snoc, drop-cons, drop-drop, set-append_left, set-append_seam, take-append_seam, drop-append-add, length-take-le, paste}
use Rattle.boxes.specs.Limits.{max_attributes}
use Rattle.boxes.proofs.Lists.{length-end}
use Rattle.questions.specs.Directories.{filled_to}
use Rattle.questions.specs.Words.{over}

pub over-long : (xs v : List ℕ) → length xs ≤ length v → length (over xs v) ≡ length v
over-long xs v h = length_front v xs (length xs) (sym (length-take-le (length xs) v h))

pub over-front : (f xs u : List ℕ) {v w : List ℕ} (n : ℕ) → w ≡ over (take n v ++ xs) v → v ≡ over f u → length f ≡ n → w ≡ over (f ++ xs) u
over-front f xs u n e d long =
    let rest : List ℕ = drop (length f) u in
    let all : length (f ++ xs) ≡ length f + length xs = length-append f xs in
    rw (e, d, take_at f rest n long)
    (ap (λ (l : List ℕ). (f ++ xs) ++ l)
    (ap (λ (k : ℕ). drop k (f ++ rest)) all
    ∙ drop-append-add f rest (length xs)
    ∙ drop-drop (length xs) (length f) u
    ∙ ap (λ (k : ℕ). drop k u) (sym all)))

module _ (xs v : List ℕ) where
  pub over-end : {w : List ℕ} (at y : ℕ) → w ≡ over xs v → length xs ≡ at → at < length v → set w at y ≡ over (xs ++ (y ∷ [])) v
  over-end at y e long h =
      let l : length xs < length v = omega arith in
      rw (e, ← long)
      (ap (λ (ys : List ℕ). set (xs ++ ys) (length xs) y) (drop-cons v (length xs) 0 l)
      ∙ set-append_seam xs (get_or v (length xs) 0) (drop (suc (length xs)) v) y
      ∙ sym (append_snoc xs y (drop (suc (length xs)) v))
      ∙ ap (λ (k : ℕ). (xs ++ (y ∷ [])) ++ drop k v) (sym (length-end xs y)))

  pub over-paste : (ys : List ℕ) {w : List ℕ} (at k : ℕ) → w ≡ over xs v → length xs ≡ at → k ≤ length ys → paste w at ys k ≡ over (xs ++ take k ys) v
  over-paste ys at k e long h =
      let l : length (xs ++ take k ys) ≡ length xs + k = length-append xs (take k ys) ∙ ap (λ (n : ℕ). length xs + n) (length-take-le k ys h) in
      rw (e, ← long)
      (ap (λ (zs : List ℕ). zs ++ take k ys ++ drop (length xs + k) (over xs v)) (take-append_seam xs (drop (length xs) v))
      ∙ ap (λ (zs : List ℕ). (xs ++ take k ys) ++ zs)
      (drop-append-add xs (drop (length xs) v) k ∙ drop-drop k (length xs) v ∙ ap (λ (n : ℕ). drop n v) (sym l)))

pub over-counted : (v ys : List ℕ) (k m : ℕ) → k + 2 ≤ length v → k ≤ length ys → {w : List ℕ} → w ≡ paste (set v 0 k) 1 ys k → set w (k + 1) m ≡ over (k ∷ (take k ys ++ (m ∷ []))) v
over-counted v ys k m room few e =
    let first : set v 0 k ≡ over (k ∷ []) v = over-end [] v 0 k refl refl (omega arith) in
    over-end (k ∷ take k ys) v (k + 1) m (e ∙ over-paste (k ∷ []) v ys 1 k first refl few) (omega (arith, length-take-le k ys few)) (omega arith)

pub over-patch : (a b v : List ℕ) {w : List ℕ} (at x y : ℕ) → w ≡ over (a ++ (x ∷ b)) v → length a ≡ at → set w at y ≡ over (a ++ (y ∷ b)) v
over-patch a b v at x y e long =
    let l : length a < length (a ++ (x ∷ b)) = omega (arith, length-append a (x ∷ b)) in
    rw (e, ← long)
    (set-append_left (a ++ (x ∷ b)) (drop (length (a ++ (x ∷ b))) v) (length a) y l
    ∙ ap (λ (zs : List ℕ). zs ++ drop (length (a ++ (x ∷ b))) v) (set-append_seam a x b y)
    ∙ ap (λ (k : ℕ). (a ++ (y ∷ b)) ++ drop k v) (length-append a (x ∷ b) ∙ sym (length-append a (y ∷ b))))

module _ (xs : List ℕ) (few : length xs ≤ max_attributes) where
  pub values-front : take (length xs) (filled_to max_attributes 0 (take max_attributes xs)) ≡ xs
  values-front = rw (take_all max_attributes xs few) (take-append_seam xs (replicate (max_attributes - length xs) 0))

  pub length-filled : length (filled_to max_attributes 0 (take max_attributes xs)) ≡ max_attributes
  length-filled = rw (take_all max_attributes xs few) (length-append xs (replicate (max_attributes - length xs) 0) ∙ omega (arith, length-replicate {A = ℕ} (max_attributes - length xs) 0))
