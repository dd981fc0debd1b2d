-- Highest values, raised by the columns of a table.
--   length-raise  == they stay as many
--   columns-all, columns-turn, columns-end == a loop over the columns: all of them, one more, and their end
--   name-low      == the attribute of a column is below the most
--   column_values a xs j rs == the values of the attribute a in the columns from j on, whose attributes are xs
--   raise-values  == the highest value of an attribute after the columns, which stand in the words
use mathlib.Core.Path.{◌≡◌, refl, sym, ap, ap₂, ◌∙◌}
use mathlib.Core.Bool.{true, false}
use mathlib.Core.List.{List, [], ◌∷◌, ◌++◌, map}
use Prim.Native.Nat.{ℕ, zero, suc, ◌+◌, ◌-◌, ◌≤◌, ◌<◌, max}
use native.Mathlib.Nat.{add-zero, sub-zero}
use native.Mathlib.Numerals.{add-one}
use native.Mathlib.Omega.{arith}
use borrow.Author.Tests.{eqb-true, eqb-false}
use lib.Dec.{eqb}
use lib.ListN.{length, get_or, set, take, drop, length-set, length-drop}
use lib.Seq.{length-take-le, drop-cons, drop-drop, get_or-take, get_or-drop, get_or-set_same, get_or-set_other}
use Rattle.boxes.specs.Limits.{max_attributes}
use Rattle.boxes.specs.Fits.{Each, none, more}
use Rattle.boxes.proofs.Tests.{by}
use Rattle.boxes.proofs.Lists.{each_at}
use Rattle.questions.specs.Good.{Below}
use Rattle.questions.specs.Directories.{rows_of}
use Rattle.questions.specs.Words.{flat}
use Rattle.questions.proofs.Laws.{flat-none, flat-more}
use Rattle.files.specs.Widths.{row_values}
use Rattle.files.specs.Raising.{highest, column_words, raise, raise_columns, arity_at, TableAt}
use Rattle.files.proofs.Highest.{highest-none, highest-more, highest-flat}
use Rattle.files.proofs.Values.{row_values-none, row_values-here, row_values-past}
use Rattle.files.proofs.Columns.{column-rows}

module _ (s : List ℕ) where
  columns-none : (n b k m : ℕ) (hs : List ℕ) → raise_columns s n b k m 0 hs ≡ hs
  unfolding raise_columns
  columns-none n b k m hs = refl

  columns-more : (n b k m l : ℕ) (hs : List ℕ) → raise_columns s n b k m (suc l) hs ≡ raise_columns s (suc n) (suc b) k m l (raise (get_or s n 0) (column_words s b k m) hs)
  unfolding raise_columns
  columns-more n b k m l hs = refl

  pub length-raise : (l n b k m : ℕ) (hs : List ℕ) → length (raise_columns s n b k m l hs) ≡ length hs
  length-raise zero n b k m hs = ap length (columns-none n b k m hs)
  length-raise (suc l) n b k m hs =
      ap length (columns-more n b k m l hs)
      ∙ length-raise l (suc n) (suc b) k m (raise (get_or s n 0) (column_words s b k m) hs)
      ∙ length-set hs (get_or s n 0) (max (get_or hs (get_or s n 0) 0) (highest (column_words s b k m)))

  pub columns-all : (n b k m : ℕ) (hs : List ℕ) → raise_columns s (n + 0) (b + 0) k m (k - 0) hs ≡ raise_columns s n b k m k hs
  columns-all n b k m hs = rw (add-zero n, add-zero b, sub-zero k)

  -- j columns of k are done
  module _ (n b k m j : ℕ) (hs : List ℕ) where
    pub columns-turn : (h : ℕ) → j < k → h ≡ max (get_or hs (get_or s (n + j) 0) 0) (highest (column_words s (b + j) k m))
        → raise_columns s (n + (j + 1)) (b + (j + 1)) k m (k - (j + 1)) (set hs (get_or s (n + j) 0) h) ≡ raise_columns s (n + j) (b + j) k m (k - j) hs
    columns-turn h within e =
        let left : k - j ≡ suc (k - (j + 1)) = omega arith in
        let next : suc (n + j) ≡ n + (j + 1) = omega arith in
        let below : suc (b + j) ≡ b + (j + 1) = omega arith in
        rw (e, left, ← next, ← below) (sym (columns-more (n + j) (b + j) k m (k - (j + 1)) hs))

    pub columns-end : k ≤ j → raise_columns s (n + j) (b + j) k m (k - j) hs ≡ hs
    columns-end h = let past : k - j ≡ 0 = omega arith in rw past (columns-none (n + j) (b + j) k m hs)

pub name-low : {s : List ℕ} {at : ℕ} → TableAt s at → (j : ℕ) → j < arity_at s at → get_or s (at + 1 + j) 0 < max_attributes
name-low {s} {at} t j h =
    let k : ℕ = arity_at s at in
    let rest : List ℕ = drop (at + 1) s in
    let long : j < length (take k rest) = omega (arith, t.ends, length-take-le k rest (omega (arith, t.ends, length-drop (at + 1) s))) in
    rw (sym (get_or-drop (at + 1) s j 0), sym (get_or-take k rest j 0 h)) (each_at t.below j 0 long)

abbrev pub column_values : ℕ → List ℕ → ℕ → List (List ℕ) → List ℕ
column_values a xs j rs = flat (map (λ r. row_values a xs (drop j r)) rs)

module _ (a : ℕ) where
  values-none : (j : ℕ) (rs : List (List ℕ)) → highest (column_values a [] j rs) ≡ 0
  values-none j [] = rw flat-none highest-none
  values-none j (r ∷ rs) =
      omega (arith, highest-flat (row_values a [] (drop j r)) (map (λ r. row_values a [] (drop j r)) rs), ap highest (row_values-none a (drop j r)), highest-none, values-none j rs)

  module _ (k x : ℕ) (xs : List ℕ) (j : ℕ) (within : j < k) where
    values-here : {rs : List (List ℕ)} → Each (λ r. length r ≡ k) rs → eqb x a ≡ true
        → highest (column_values a (x ∷ xs) j rs) ≡ max (highest (map (λ r. get_or r j 0) rs)) (highest (column_values a xs (suc j) rs))
    values-here none t = rw (flat-none, highest-none) refl
    values-here (more {x = r} {xs = rs} e even) t =
        let there : j < length r = omega arith in
        omega (
          arith,
          highest-flat (row_values a (x ∷ xs) (drop j r)) (map (λ r. row_values a (x ∷ xs) (drop j r)) rs),
          ap (λ (l : List ℕ). highest (row_values a (x ∷ xs) l)) (drop-cons r j 0 there) ∙ ap highest (row_values-here a x xs (get_or r j 0) (drop (suc j) r) t),
          highest-more (get_or r j 0) (row_values a xs (drop (suc j) r)),
          highest-more (get_or r j 0) (map (λ r. get_or r j 0) rs),
          highest-flat (row_values a xs (drop (suc j) r)) (map (λ r. row_values a xs (drop (suc j) r)) rs),
          values-here even t,
        )

    values-past : {rs : List (List ℕ)} → Each (λ r. length r ≡ k) rs → eqb x a ≡ false → column_values a (x ∷ xs) j rs ≡ column_values a xs (suc j) rs
    values-past none f = refl
    values-past (more {x = r} {xs = rs} e even) f =
        let there : j < length r = omega arith in
        flat-more (row_values a (x ∷ xs) (drop j r)) (map (λ r. row_values a (x ∷ xs) (drop j r)) rs)
        ∙ ap₂ ◌++◌ (ap (row_values a (x ∷ xs)) (drop-cons r j 0 there) ∙ row_values-past a x xs (get_or r j 0) (drop (suc j) r) f) (values-past even f)
        ∙ sym (flat-more (row_values a xs (drop (suc j) r)) (map (λ r. row_values a xs (drop (suc j) r)) rs))

  -- a column raises the highest value by those that it adds
  raise-column : (k : ℕ) {rs : List (List ℕ)} → Each (λ r. length r ≡ k) rs → (x : ℕ) (xs vs hs : List ℕ) (j : ℕ) → j < k → x < length hs → vs ≡ map (λ r. get_or r j 0) rs
      → max (get_or (raise x vs hs) a 0) (highest (column_values a xs (suc j) rs)) ≡ max (get_or hs a 0) (highest (column_values a (x ∷ xs) j rs))
  raise-column k even x xs vs hs j within h e =
      by (eqb x a)
      (λ t.
      let here : get_or (raise x vs hs) a 0 ≡ max (get_or hs x 0) (highest vs) = rw (← eqb-true x a t) (get_or-set_same hs x (max (get_or hs x 0) (highest vs)) 0 h) in
      let own : get_or hs x 0 ≡ get_or hs a 0 = ap (λ (i : ℕ). get_or hs i 0) (eqb-true x a t) in
      omega (arith, here, own, ap highest e, values-here k x xs j within even t))
      (λ f.
      let past : get_or (raise x vs hs) a 0 ≡ get_or hs a 0 = get_or-set_other hs x a (max (get_or hs x 0) (highest vs)) 0 (λ d. eqb-false x a f (sym d)) in
      omega (arith, past, ap highest (values-past k x xs j within even f)))

-- rows of k values that begin at a place
module _ (s : List ℕ) (begin k m : ℕ) {rs : List (List ℕ)} (rows : rows_of s begin k m ≡ rs) (even : Each (λ r. length r ≡ k) rs) (a : ℕ) where
  pub raise-values : (xs rest hs : List ℕ) (j n b : ℕ) → b ≡ begin + j → j + length xs ≡ k → drop n s ≡ xs ++ rest → Below (length hs) xs
      → get_or (raise_columns s n b k m (length xs) hs) a 0 ≡ max (get_or hs a 0) (highest (column_values a xs j rs))
  raise-values [] rest hs j n b at left names below = rw (columns-none s n b k m hs) (omega (arith, values-none a j rs))
  raise-values (x ∷ xs) rest hs j n b at left names (more h below) =
      let vs : List ℕ = column_words s b k m in
      let within : j < k = omega arith in
      let values : vs ≡ map (λ r. get_or r j 0) rs = column-rows s begin k m j b within at ∙ ap (map (λ r. get_or r j 0)) rows in
      let name : get_or s n 0 ≡ x = ap (λ (i : ℕ). get_or s i 0) (omega arith) ∙ sym (get_or-drop n s 0 0) ∙ ap (λ (l : List ℕ). get_or l 0 0) names in
      let later : drop (suc n) s ≡ xs ++ rest = ap (λ (i : ℕ). drop i s) (sym (add-one n)) ∙ sym (drop-drop 1 n s) ∙ ap (drop 1) names in
      let low : Below (length (raise x vs hs)) xs = rw length-set below in
      rw (columns-more s n b k m (length xs) hs, name)
      (raise-values xs rest (raise x vs hs) (suc j) (suc n) (suc b) (omega arith) (omega arith) later low ∙ raise-column a k even x xs vs hs j within h values)
