-- A table's words, written into those that the caller gave: its front, and behind it row by row. The rows before a file's first record.
--   rows_none      == before the first row
--   row_put        == a turn: the row is written behind those before it
--   table_front, front_long, front-put == the front: how many attributes there are, these, and how many rows; how long it is; it is written
--   front-written, fronted-long == so as the code writes it; the words are as many as before
--   table-put      == the front, and then the rows
--   kept-none      == no row is kept yet
use mathlib.Core.Path.{◌≡◌, refl, sym, ap, ◌∙◌}
use mathlib.Core.List.{List, [], ◌∷◌, ◌++◌, map, append_assoc, append-nil, map-append}
use Prim.Native.Nat.{ℕ, suc, ◌+◌, ◌-◌, ◌*◌, ◌≤◌, ◌<◌, zero-le}
use native.Mathlib.Nat.{suc-mul}
use native.Mathlib.Numerals.{add-one}
use native.Mathlib.Omega.{arith}
use borrow.Rule.Slice.PartMut.{put_mid}
use Rattle.std.specs.Prelude.{Some}
use Rattle.std.proofs.lemmas.Slice.{put_mid-paste}
use lib.ListN.{length, get_or, set, take, length-append, take-append-drop}
use lib.Seq.{length-take-le, take_all, take-length, take-suc, paste}
use Rattle.boxes.specs.Limits.{max_attributes}
use Rattle.boxes.specs.Fits.{Each, none}
use Rattle.boxes.proofs.Lists.{length-end, each_map, each_take}
use Rattle.questions.specs.Limits.{max_rows}
use Rattle.questions.specs.Words.{flat, over}
use Rattle.questions.proofs.Laws.{flat-none, flat-end, length-flat}
use Rattle.fields.proofs.Laws.{over-long, over-front, over-paste, over-counted}
use Rattle.csv_tables.specs.Keeping.{rows_words, row_at, kept_rows, RowsKept}
use Rattle.csv_tables.proofs.Sorting.{sort-none}
use Rattle.csv_tables.proofs.KeptRows.{row-long, kept-long}

-- ---- the rows, of k values each, of the words w in the order o

module _ (k : ℕ) (w o : List ℕ) (room : Each (λ i. suc i * k ≤ length w) o) where
  kept-some : (i : ℕ) → Each (λ r. length r ≡ k) (kept_rows k w o i)
  kept-some i = each_map (row_at w k) (λ j l. row-long k w j (omega (arith, l, suc-mul j k))) (each_take i room)

  flat-kept-long : (i : ℕ) → i ≤ length o → length (flat (kept_rows k w o i)) ≡ i * k
  flat-kept-long i h = length-flat (kept-some i) ∙ ap (λ (n : ℕ). n * k) (kept-long k w o i h)

  flat-kept-more : (i : ℕ) → i < length o → flat (kept_rows k w o (i + 1)) ≡ flat (kept_rows k w o i) ++ row_at w k (get_or o i 0)
  flat-kept-more i h =
      let more : take (i + 1) o ≡ take i o ++ (get_or o i 0 ∷ []) = rw add-one (take-suc o i 0 (omega arith)) in
      ap flat (ap (map (row_at w k)) more ∙ map-append (row_at w k) (take i o) (get_or o i 0 ∷ []))
      ∙ flat-end (kept_rows k w o i) (row_at w k (get_or o i 0))

  -- v₀ are the words before the rows, and the rows are written from a on
  module _ (v₀ : List ℕ) (a : ℕ) (h : a + length o * k ≤ length v₀) where
    pub rows_none : v₀ ≡ over (take a v₀ ++ flat (kept_rows k w o 0)) v₀
    rows_none =
        let front : take a v₀ ++ flat [] ≡ take a v₀ = ap (λ (xs : List ℕ). take a v₀ ++ xs) flat-none ∙ append-nil (take a v₀) in
        rw (front, length-take-le a v₀ (omega arith)) (sym (take-append-drop a v₀))

    pub row_put : {v r : List ℕ} (i at : ℕ) → i < length o → at ≡ a + i * k → v ≡ over (take a v₀ ++ flat (kept_rows k w o i)) v₀ → r ≡ row_at w k (get_or o i 0)
        → paste v at r (length r) ≡ over (take a v₀ ++ flat (kept_rows k w o (i + 1))) v₀
    row_put {v} {r} i at l e is new =
        let front : List ℕ = take a v₀ in
        let rows : List ℕ = flat (kept_rows k w o i) in
        let long : length (front ++ rows) ≡ at = omega (arith, length-append front rows, length-take-le a v₀ (omega arith), flat-kept-long i (omega arith)) in
        over-paste (front ++ rows) v₀ r at (length r) is long (omega arith)
        ∙ ap (λ (xs : List ℕ). over xs v₀)
        (ap (λ (xs : List ℕ). front ++ rows ++ xs) (take-length r ∙ new)
        ∙ append_assoc front rows (row_at w k (get_or o i 0))
        ∙ ap (λ (xs : List ℕ). front ++ xs) (sym (flat-kept-more i l)))

-- ---- the front

module _ (xs u : List ℕ) (k m : ℕ) (long : length xs ≡ k) (room : 2 + k ≤ length u) where
  abbrev table_front : List ℕ
  table_front = (k ∷ xs) ++ (m ∷ [])

  pub front_long : length table_front ≡ k + 2
  front_long = length-end (k ∷ xs) m ∙ omega arith

  pub front-put : {v : List ℕ} (at : ℕ) → v ≡ paste (set u 0 k) 1 xs k → at ≡ k + 1 → set v at m ≡ over table_front u
  front-put {v} at e is =
      ap (λ (i : ℕ). set v i m) is ∙ over-counted u xs k m (omega arith) (omega arith) e ∙ ap (λ (l : List ℕ). over (k ∷ (l ++ (m ∷ []))) u) (take_all k xs (omega arith))

  pub table-put : (rs : List (List ℕ)) {v w : List ℕ} (at : ℕ) → w ≡ over (take at v ++ flat rs) v → v ≡ over table_front u → at ≡ k + 2
      → w ≡ over (k ∷ (xs ++ (m ∷ flat rs))) u
  table-put rs at e d is =
      over-front table_front (flat rs) u at e d (front_long ∙ sym is)
      ∙ ap (λ (l : List ℕ). over (k ∷ l) u) (append_assoc xs (m ∷ []) (flat rs))

-- as the code writes it
module _ (xs u : List ℕ) (k m : ℕ) (long : length xs ≡ k) (room : 2 + k ≤ length u) {z : List ℕ} (e : z ≡ xs) where
  pub front-written : set (put_mid 1 (k + 1 - 1) (set u 0 k) z) (k + 1) m ≡ over ((k ∷ xs) ++ (m ∷ [])) u
  front-written = front-put xs u k m long room (k + 1) (put_mid-paste 1 (k + 1 - 1) (set u 0 k) z xs k e (omega arith) (sym long)) refl

  pub fronted-long : length (set (put_mid 1 (k + 1 - 1) (set u 0 k) z) (k + 1) m) ≡ length u
  fronted-long = ap length front-written ∙ over-long ((k ∷ xs) ++ (m ∷ [])) u (omega (arith, front_long xs u k m long room))

-- ---- before the first record

pub kept-none : (k : ℕ) (w o : List ℕ) → k ≤ max_attributes → length w ≡ rows_words → length o ≡ max_rows → RowsKept k w o (Some 0) []
kept-none k w o h l m = record {
  arity = h;
  rows_long = l;
  order-long = m;
  long = none;
  is = (zero-le, none, sym sort-none);
}
