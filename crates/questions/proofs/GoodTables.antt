-- A good table's words are read back as that table: what `accepted-good` says, the other way round.
--   ascending-few     == ascending numbers below n are at most n
--   attributes_in-good, order-passes, row_in-good, rows_in-good, contents-good, arity-good == each part is read, after what was read before it, and the words that follow are left
--   table_in-good      == so is the table
use mathlib.Core.Path.{◌≡◌, refl, subst, ◌∙◌}
use mathlib.Core.List.{List, [], ◌∷◌, ◌++◌, map, append_assoc, append-nil}
use Prim.Native.Nat.{ℕ, suc, ◌+◌, ◌^◌, ◌≤◌}
use native.Mathlib.Omega.{arith}
use borrow.Author.Tests.{eqb-true, eqb-false, lt-leb}
use lib.Dec.{eqb}
use lib.ListN.{length, get_or, length-map}
use Rattle.boxes.specs.Limits.{max_attributes}
use Rattle.boxes.specs.Fits.{Each, none, more, Point}
use Rattle.boxes.proofs.Tests.{by}
use Rattle.boxes.proofs.Lists.{each2-length, each-imp}
use Rattle.questions.specs.Limits.{open_mark, range_mark}
use Rattle.questions.specs.Questions.{Contents, with_rows, unfilled, with_pairs, Table, Got, got, then_g, first_of, word_in, above_last, attribute_check, attributes_in, value_check, order_check, row_in, rows_in, arity_check, arity_of, rows_check, contents_in, table_in, has_pairs}
use Rattle.questions.specs.Good.{Ordered, Below, Ascending, widths_at, Sorted, GoodPairs, GoodContents, GoodTable}
use Rattle.questions.specs.Words.{flat, pair_words, arity_word, contents_words, table_words}
use Rattle.questions.proofs.Arities.{arity-marked, arity-passes, pairs-one, arity-word}
use Rattle.questions.proofs.Contents.{rows-mark, rows_few, contents-open, contents-rows, contents-pairs}
use Rattle.questions.proofs.Pairs.{pairs_in-good}
use Rattle.questions.proofs.Reading.{word_in-passes, then_is, then-then}
use Rattle.questions.proofs.Numbers.{above_last-end, number-good}
use Rattle.questions.proofs.Readers.{Follows}

-- ---- attributes

few-from : (n k : ℕ) {xs : List ℕ} → k ≤ n → Ascending xs → Each (λ x. k ≤ x) xs → Below n xs → k + length xs ≤ n
few-from n k h Ordered.none none none = omega arith
few-from n k h (Ordered.more {x = x} {xs = xs} above o) (more least r) (more below s) =
    let rest : suc x + length xs ≤ n = few-from n (suc x) below o above s in
    omega arith

pub ascending-few : {n : ℕ} {xs : List ℕ} → Ascending xs → Below n xs → length xs ≤ n
ascending-few {n} {xs} o b = omega (arith, few-from n 0 (omega arith) o (each-imp (λ x h. omega arith) b) b)

attributes_in-good : (n : ℕ) (vs : List ℕ) {xs : List ℕ} (s : List ℕ) → Below n xs → Ascending xs → Each (λ a. above_last vs ≤ a) xs
    → attributes_in (length xs) n vs (xs ++ s) ≡ got (vs ++ xs) s
unfolding attributes_in
attributes_in-good n vs s none Ordered.none none = rw append-nil
attributes_in-good n vs s (more {x = a} {xs = xs} below r) (Ordered.more above o) (more least l) =
    let later : Each (λ b. above_last (vs ++ (a ∷ [])) ≤ b) xs = rw (above_last-end vs a) above in
    then_is _ (word_in-passes (attribute_check n vs) a (xs ++ s) (number-good n vs a below least))
    ∙ rw append_assoc at (attributes_in-good n (vs ++ (a ∷ [])) s r o later)

-- ---- rows

order-passes : (left above row : List ℕ) → (length left ≡ 0 → Follows above row) → order_check left above row ≡ 0
order-passes left above row f =
    by (eqb (length left) 0)
    (λ t. by (eqb (length above) 0)
    (λ u. rw (t, u))
    (λ u. let after = f (eqb-true (length left) 0 t) (omega (arith, eqb-false (length above) 0 u)) in rw (t, u, after)))
    (λ g. rw g)

row_in-good : (ws xs above r : List ℕ) {p : List ℕ} (s : List ℕ) → Point (widths_at ws xs) p → Follows above (r ++ p) → row_in ws xs above r (p ++ s) ≡ got (r ++ p) s
unfolding row_in
row_in-good ws [] above r s none f = rw append-nil
row_in-good ws (a ∷ xs) above r s (more {y = v} {ys = p} h rest) f =
    let check : ℕ → ℕ = λ u. first_of (value_check (get_or ws a 0) u) (order_check xs above (r ++ (u ∷ []))) in
    let last : length xs ≡ 0 → Follows above (r ++ (v ∷ [])) =
    λ z. subst (λ (t : List ℕ). Follows above (r ++ (v ∷ t))) (nothing p (omega (arith, each2-length rest, length-map xs (λ b. get_or ws b 0)))) f in
    let value : value_check (get_or ws a 0) v ≡ 0 = rw (lt-leb (2 ^ get_or ws a 0) v h) in
    let passes : check v ≡ 0 = rw (value) (order-passes xs above (r ++ (v ∷ [])) last) in
    then_is _ (word_in-passes check v (p ++ s) passes) ∙ rw append_assoc at (row_in-good ws xs above (r ++ (v ∷ [])) s rest (rw append_assoc f))
  where
    nothing : (l : List ℕ) → length l ≡ 0 → l ≡ []
    nothing [] z = refl
    nothing (x ∷ l) z = absurd (omega arith)

rows_in-good : (ws xs above : List ℕ) (rs : List (List ℕ)) {ps : List (List ℕ)} (s : List ℕ) → Each (Point (widths_at ws xs)) ps → Sorted ps → Each (Follows above) ps
    → rows_in (length ps) ws xs above rs (flat ps ++ s) ≡ got (rs ++ ps) s
unfolding rows_in flat
rows_in-good ws xs above rs s none Ordered.none none = rw append-nil
rows_in-good ws xs above rs s (more {x = p} {xs = ps} h r) (Ordered.more later o) (more f fs) =
    let next : Each (Follows p) ps = each-imp (λ x b some. b) later in
    rw (append_assoc p (flat ps) s)
    (then_is _ (row_in-good ws xs above [] (flat ps ++ s) h f) ∙ rw append_assoc at (rows_in-good ws xs p (rs ++ (p ∷ [])) s r o next))

-- ---- tables

-- m and the rows or pairs, or the mark of an open table; no arity is the mark of a range table
contents-good : (ws xs : List ℕ) (c : Contents) (s : List ℕ) → length xs ≤ max_attributes → GoodContents ws xs c
    → then_g (word_in rows_check (contents_words c ++ s)) (λ m t. contents_in (arity_word xs c) m ws xs t) ≡ got c s
contents-good ws xs (with_rows rs) s few good =
    then_is _ (word_in-passes rows_check (length rs) _ (rows_few (length rs) good.few))
    ∙ contents-rows (length rs) (length xs) ws xs (flat rs ++ s) (λ e. omega arith) (λ e. omega (arith, good.few))
    ∙ then_is _ (rows_in-good ws xs [] [] s good.within good.sorted (each-imp (λ r h some. absurd (omega arith)) good.within))
contents-good ws xs unfilled s few good = then_is _ (word_in-passes rows_check open_mark s (rows-mark open_mark refl)) ∙ contents-open open_mark (length xs) ws xs s refl
contents-good ws xs (with_pairs ps) s few good =
    let pairs : GoodPairs (get_or ws (get_or xs 0 0) 0) ps = good.1 in
    then_is _ (word_in-passes rows_check (length ps) _ (rows_few (length ps) pairs.few))
    ∙ contents-pairs (length ps) range_mark ws xs (flat (map pair_words ps) ++ s) refl (λ e. omega (arith, pairs.few))
    ∙ then_is _ (pairs_in-good (get_or ws (get_or xs 0 0) 0) 0 [] s pairs.within pairs.apart (each-imp (λ p h. omega arith) pairs.within))

-- the first word passes question 6
arity-good : (n : ℕ) (xs : List ℕ) (c : Contents) → 1 ≤ length xs → length xs ≤ n → arity_check n (arity_word xs c) ≡ 0
arity-good n xs c some few = by (has_pairs c) (λ t. rw t (arity-marked range_mark n refl)) (λ f. rw f (arity-passes (length xs) n some few))

least-none : (a : ℕ) → above_last [] ≤ a
unfolding above_last
least-none a = omega arith

pub table_in-good : (ws : List ℕ) {t : Table} (s : List ℕ) → length ws ≤ max_attributes → GoodTable ws t → table_in (length ws) ws (table_words t ++ s) ≡ got t s
unfolding table_in table_words
table_in-good ws {t} s most good =
    let xs : List ℕ = t.attributes in
    let n : ℕ = length ws in
    let c : Contents = t.contents in
    let k : ℕ = arity_word xs c in
    let few : length xs ≤ n = ascending-few good.ascending good.below in
    let arity : arity_of k ≡ length xs = arity-word xs c (omega arith) (pairs-one (GoodContents ws xs) (length xs) (λ ps g. g.0) c good.contents) in
    let rest : Contents → List ℕ → Got Table = λ c u. got (record { attributes = xs; contents = c }) u in
    rw (append_assoc xs)
    (then_is _ (word_in-passes (arity_check n) k _ (arity-good n xs c good.some few))
    ∙ rw arity
    (then_is _ (attributes_in-good n [] _ good.below good.ascending (each-imp (λ a h. least-none a) good.below))
    ∙ then-then (word_in rows_check (contents_words c ++ s)) (λ m u. contents_in k m ws xs u) rest
    ∙ then_is rest (contents-good ws xs c s (omega arith) good.contents)))
