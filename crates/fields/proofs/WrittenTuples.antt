-- The tuples of a listing, and a line put for each of them.
--   tuples_of-zero   == a listing has no tuples without a value
--   tuples_of-front  == the tuples of a listing's front
--   tuples_of-flat, flat-whole == tuples that stand one after the other are read back; they leave nothing over
--   tuples_of-more, tuples_of-few == a tuple and those behind it; too few words
--   LinesPut f      == what f writes is put for the tuples before those of certain words
--   lines-none, lines-turn, lines-done == none yet, one more, all
use mathlib.Core.Path.{◌≡◌, refl, sym, ap, ap₂, ◌∙◌}
use mathlib.Core.List.{List, [], ◌∷◌, ◌++◌, append_assoc, append-nil}
use Prim.Native.Nat.{ℕ, zero, suc, ◌+◌, ◌*◌, ◌/◌, ◌%◌, ◌≤◌, ◌<◌}
use native.Mathlib.Nat.{add_assoc, add-div_left, div-eq_of_lt, suc-mul, div-zero, mul-div_cancel, mul-mod_left}
use native.Mathlib.Numerals.{add-one}
use native.Mathlib.Omega.{arith}
use lib.ListN.{length, take, drop, length-append, length-drop, take-append-drop}
use lib.Seq.{take_all, drop-append-add, length-take-le, take-append-le, drop-append-le}
use Rattle.boxes.specs.Fits.{Each}
use Rattle.questions.specs.Directories.{rows_of}
use Rattle.questions.specs.Words.{flat}
use Rattle.questions.proofs.Laws.{rows_of-none, rows_of-turn, rows_of-flat, length-flat, flat-none, flat-more}
use Rattle.fields.specs.Limits.{farthest}
use Rattle.fields.specs.Puts.{Puts}
use Rattle.fields.specs.Writing.{lines_by, tuples_of}
use Rattle.fields.proofs.Puts.{puts_none, puts_then, puts-same}

pub tuples_of-zero : (l : List ℕ) (n : ℕ) → n ≡ 0 → tuples_of n l ≡ []
tuples_of-zero l n e = ap (λ (k : ℕ). tuples_of k l) e ∙ ap (rows_of l 0 0) (div-zero (length l)) ∙ rows_of-none l 0 0

-- ---- the front of a listing

module _ (k : ℕ) where
  rows_of-front : (xs ys : List ℕ) (b n : ℕ) → b + n * k ≤ length xs → rows_of (xs ++ ys) b k n ≡ rows_of xs b k n
  unfolding rows_of
  rows_of-front xs ys b zero h = refl
  rows_of-front xs ys b (suc n) h =
      let within : b + (n * k + k) ≤ length xs = omega (arith, suc-mul n k) in
      let row : take k (drop b (xs ++ ys)) ≡ take k (drop b xs) =
      ap (take k) (drop-append-le b xs ys (omega arith)) ∙ take-append-le k (drop b xs) ys (omega (arith, length-drop b xs)) in
      rw row (ap (λ (rs : List (List ℕ)). take k (drop b xs) ∷ rs) (rows_of-front xs ys (b + k) n (omega arith)))

  pub tuples_of-front : (l : List ℕ) (n : ℕ) → 1 ≤ k → n * k ≤ length l → tuples_of k (take (n * k) l) ≡ rows_of l 0 k n
  tuples_of-front l n some h =
      let front : List ℕ = take (n * k) l in
      let long : length front ≡ n * k = length-take-le (n * k) l h in
      ap (rows_of front 0 k) (ap (λ (m : ℕ). m / k) long ∙ mul-div_cancel n some)
      ∙ sym (rows_of-front front (drop (n * k) l) 0 n (omega (arith, long)))
      ∙ ap (λ (xs : List ℕ). rows_of xs 0 k n) (take-append-drop (n * k) l)

-- ---- tuples of one length that stand one after the other

module _ {n : ℕ} {ts : List (List ℕ)} (long : Each (λ t. length t ≡ n) ts) where
  pub tuples_of-flat : 1 ≤ n → tuples_of n (flat ts) ≡ ts
  tuples_of-flat some =
      let many : length (flat ts) / n ≡ length ts = ap (λ (m : ℕ). m / n) (length-flat long) ∙ mul-div_cancel (length ts) some in
      ap (rows_of (flat ts) 0 n) many ∙ ap (λ (l : List ℕ). rows_of l 0 n (length ts)) (sym (append-nil (flat ts))) ∙ rows_of-flat long [] []

  pub flat-whole : length (flat ts) % n ≡ 0
  flat-whole = ap (λ (m : ℕ). m % n) (length-flat long) ∙ mul-mod_left (length ts) n

-- ---- a line put for each tuple, whatever it has of the tuple

module _ (k : ℕ) where
  rows_of-behind : (x s : List ℕ) (b m : ℕ) → rows_of (x ++ s) (length x + b) k m ≡ rows_of s b k m
  unfolding rows_of
  rows_of-behind x s b zero = refl
  rows_of-behind x s b (suc m) =
      ap₂ (λ (r : List ℕ) (rs : List (List ℕ)). r ∷ rs) (ap (take k) (drop-append-add x s b))
      (ap (λ (n : ℕ). rows_of (x ++ s) n k m) (add_assoc (length x) b k) ∙ rows_of-behind x s (b + k) m)

  pub tuples_of-more : (x s : List ℕ) → 1 ≤ k → length x ≡ k → tuples_of k (x ++ s) ≡ x ∷ tuples_of k s
  tuples_of-more x s some long =
      let many : length (x ++ s) / k ≡ suc (length s / k) =
      ap (λ (n : ℕ). n / k) (length-append x s ∙ ap (λ (n : ℕ). n + length s) long) ∙ add-div_left (length s) some ∙ add-one (length s / k) in
      ap (rows_of (x ++ s) 0 k) many ∙ rows_of-turn (x ++ s) 0 k (length s / k)
      ∙ ap₂ (λ (r : List ℕ) (rs : List (List ℕ)). r ∷ rs) (take-append-le k x s (omega (arith, long)) ∙ take_all k x (omega (arith, long)))
      (ap (λ (n : ℕ). rows_of (x ++ s) n k (length s / k)) (omega (arith, long)) ∙ rows_of-behind x s 0 (length s / k))

  pub tuples_of-few : (s : List ℕ) → length s < k → tuples_of k s ≡ []
  tuples_of-few s h = ap (rows_of s 0 k) (div-eq_of_lt h) ∙ rows_of-none s 0 k

-- the lines of the tuples before those of the words s are put
pub record LinesPut (f : List ℕ → List ℕ) (l : List ℕ) (k at : ℕ) (o o₁ : List ℕ) (end : ℕ) (s : List ℕ) : Type 0 where
  pub lines : List ℕ
  pub is : lines_by f (tuples_of k l) ≡ lines ++ lines_by f (tuples_of k s)
  pub puts : Puts lines at o o₁ end

pub lines-none : (f : List ℕ → List ℕ) (l : List ℕ) (k at : ℕ) (o : List ℕ) → length o < farthest → LinesPut f l k at o o at l
lines-none f l k at o h = record { lines = []; is = refl; puts = puts_none at o h }

module _ {f : List ℕ → List ℕ} {l o o₁ s : List ℕ} {k at end : ℕ} (p : LinesPut f l k at o o₁ end s) where
  pub lines-turn : {x t o₂ : List ℕ} {r : ℕ} → 1 ≤ k → length x ≡ k → s ≡ x ++ t → Puts (f x) end o₁ o₂ r → LinesPut f l k at o o₂ r t
  lines-turn {x} {t} some long e q = record {
    lines = p.lines ++ f x;
    is = p.is ∙ ap (λ (m : List ℕ). p.lines ++ m)
        (ap (λ (m : List ℕ). lines_by f (tuples_of k m)) e ∙ ap (lines_by f) (tuples_of-more k x t some long) ∙ flat-more _ _) ∙ sym (append_assoc p.lines (f x) _);
    puts = puts_then p.puts q;
  }

  pub lines-done : length s < k → Puts (lines_by f (tuples_of k l)) at o o₁ end
  lines-done few =
      puts-same (p.is ∙ ap (λ (m : List ℕ). p.lines ++ m) (ap (lines_by f) (tuples_of-few k s few) ∙ flat-none) ∙ append-nil p.lines) refl refl p.puts
