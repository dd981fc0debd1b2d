-- What chains of iterators give, in the words of the definitions.
--   every-all == all elements pass a test
--   pointwise-both == so do all pairs of two lists, by what std names `pointwise`
--   whole-all == all intervals are 1
--   entries-all == all tables have the tuples' rows
--   units-all == all intervals are the units of a tuple's values
--   halves-count == at how many attributes two boxes have halves
--   resolve-all == two boxes resolve as far as each attribute tells
--   tuples-come == the tuples of a listing, one after the other
use Rattle.std.proofs.Common.{◌≡◌, refl, ap, ◌∙◌, ℕ, zero, suc, eqb, length-append, ◌+◌, ◌/◌, ◌≤◌, ◌<◌, Bool, ◌&&◌, List, [], ◌∷◌, ◌++◌, length, take, drop, arith}
use mathlib.Core.List.{zip_with}
use denote.Ref.{Bor}
use Rattle.std.specs.declared.slice.ChunksExact.{ChunksExact}
use Rattle.std.specs.Slice.Iter.{chunks_exact_rest, chunks_exact_size, chunks_exact_steps}
use Rattle.std.specs.List.{list_all, zip, filter}
use Rattle.std.specs.Cmp.Lexicographic.{pointwise}
use Rattle.std.proofs.lemmas.Iterator.{YieldsList}
use Rattle.std.proofs.lemmas.Iterator.Splits.{YieldsList-from_shown_while}
use Rattle.std.proofs.Math.Nat.{add-div_left, div-eq_of_lt}
use Rattle.std.proofs.Math.Seq.{drop-append-add, take-append_seam}
use Rattle.boxes.specs.Every.{every, both}
use Rattle.boxes.specs.Boxes.{whole_space, count_halves}
use Rattle.boxes.proofs.Tests.{by}
use Rattle.boxes.specs.Intervals.{halves, unit_or0}
use Rattle.questions.specs.Orders.{same}
use Rattle.questions.specs.declared.directory.TableEntry.{TableEntry}
use Rattle.questions.specs.Directories.{rows_of}
use Rattle.questions.proofs.Laws.{length-rows_of}
use Rattle.checker.specs.Checks.{read_tuples}
use Rattle.checker.specs.Parts.{resolves_at, resolve_each, entry_has_row, entries_have_rows, units_of}

pub every-all : {A : Type 0} (p : A → Bool) (xs : List A) → list_all p xs ≡ every p xs
unfolding every
every-all p [] = refl
every-all p (x ∷ xs) = ap (λ (b : Bool). p x && b) (every-all p xs)

pub pointwise-both : (f : ℕ → ℕ → Bool) (xs ys : List ℕ) → pointwise f xs ys ≡ both f xs ys
unfolding both
pointwise-both f [] [] = refl
pointwise-both f [] (y ∷ ys) = refl
pointwise-both f (x ∷ xs) [] = refl
pointwise-both f (x ∷ xs) (y ∷ ys) = ap (λ (b : Bool). f x y && b) (pointwise-both f xs ys)

pub whole-all : (xs : List ℕ) → list_all (λ (u : ℕ). eqb u 1) xs ≡ same xs (whole_space (length xs))
unfolding same
whole-all [] = refl
whole-all (x ∷ xs) = ap (λ (b : Bool). eqb x 1 && b) (whole-all xs)

pub entries-all : (w : List ℕ) (es : List TableEntry) (ts : List (List ℕ)) → list_all (λ (e : TableEntry). every (entry_has_row w e) ts) es ≡ entries_have_rows w es ts
unfolding entries_have_rows
entries-all w [] ts = refl
entries-all w (e ∷ es) ts = ap (λ (b : Bool). every (entry_has_row w e) ts && b) (entries-all w es ts)

pub units-all : (ws p b : List ℕ) → length p ≡ length ws → length b ≡ length ws
    → list_all (λ (z : (ℕ × ℕ) × ℕ). eqb z.1 (unit_or0 z.0.0 z.0.1)) (zip (zip ws p) b) ≡ same b (units_of ws p)
unfolding same zip_with
units-all [] [] [] e f = refl
units-all [] [] (u ∷ b) e f = absurd (omega arith)
units-all [] (a ∷ p) b e f = absurd (omega arith)
units-all (w ∷ ws) [] b e f = absurd (omega arith)
units-all (w ∷ ws) (a ∷ p) [] e f = absurd (omega arith)
units-all (w ∷ ws) (a ∷ p) (u ∷ b) e f = ap (λ (r : Bool). eqb u (unit_or0 w a) && r) (units-all ws p b (omega arith) (omega arith))

-- ---- boxes that resolve

pub halves-count : (us vs : List ℕ) → length (filter (λ (z : ℕ × ℕ). halves z.0 z.1) (zip us vs)) ≡ count_halves us vs
unfolding count_halves
halves-count [] vs = refl
halves-count (u ∷ us) [] = refl
halves-count (u ∷ us) (v ∷ vs) = by (halves u v) (λ t. rw t (let h = halves-count us vs in omega arith)) (λ f. rw f (let h = halves-count us vs in omega arith))

pub resolve-all : (us vs xs : List ℕ) → length vs ≡ length us → length xs ≡ length us
    → list_all (λ (z : (ℕ × ℕ) × ℕ). resolves_at z.0.0 z.0.1 z.1) (zip (zip us vs) xs) ≡ resolve_each us vs xs
unfolding resolve_each
resolve-all [] vs xs e f = refl
resolve-all (u ∷ us) [] xs e f = absurd (omega arith)
resolve-all (u ∷ us) (v ∷ vs) [] e f = absurd (omega arith)
resolve-all (u ∷ us) (v ∷ vs) (x ∷ xs) e f = ap (λ (b : Bool). resolves_at u v x && b) (resolve-all us vs xs (omega arith) (omega arith))

-- ---- the tuples of a listing

rows-later : (x l : List ℕ) (b n m : ℕ) → rows_of (x ++ l) (length x + b) n m ≡ rows_of l b n m
unfolding rows_of
rows-later x l b n zero = refl
rows-later x l b n (suc m) =
    let next : length x + b + n ≡ length x + (b + n) = omega arith in
    rw (drop-append-add x l b, next) (ap (λ (rs : List (List ℕ)). take n (drop b l) ∷ rs) (rows-later x l (b + n) n m))

tuples-turn : (n : ℕ) (x l : List ℕ) → length x ≡ n → 1 ≤ n → read_tuples n (x ++ l) ≡ x ∷ read_tuples n l
unfolding rows_of
tuples-turn zero x l e some = absurd (omega arith)
tuples-turn (suc n) x l e some =
    let long : length (x ++ l) ≡ suc n + length l = omega (arith, length-append x l) in
    let count : length (x ++ l) / suc n ≡ suc (length l / suc n) = rw (long, add-div_left (length l) {k = suc n} (omega arith)) (omega arith) in
    let first : take (suc n) (x ++ l) ≡ x = rw (← e) (take-append_seam x l) in
    let at : 0 + suc n ≡ length x + 0 = omega arith in
    rw (count, first, at) (ap (λ (rs : List (List ℕ)). x ∷ rs) (rows-later x l 0 (suc n) (length l / suc n)))

tuples-none : (n : ℕ) (l : List ℕ) → length l < n → length (read_tuples n l) ≡ 0
tuples-none zero l h = absurd (omega arith)
tuples-none (suc n) l h = length-rows_of l 0 (suc n) (length l / suc n) ∙ div-eq_of_lt h

pub tuples-come : {s : ChunksExact ℕ} (n : ℕ) (l : List ℕ) → 1 ≤ n → chunks_exact_rest s ≡ l → chunks_exact_size s ≡ n
    → YieldsList chunks_exact_steps (λ (x : Bor (List ℕ)). x.now) s (read_tuples n l)
tuples-come {s} n l some rest size =
    rw (← rest, ← size)
    (YieldsList-from_shown_while chunks_exact_steps (λ (x : Bor (List ℕ)). x.now) (λ (t : ChunksExact ℕ). read_tuples (chunks_exact_size t) (chunks_exact_rest t)) (λ (t : ChunksExact ℕ). 1 ≤ chunks_exact_size t)
    (λ t u p h. tuples-none (chunks_exact_size t) (chunks_exact_rest t) h.1.0)
    (λ t x u p h. (omega (arith, h.0), rw (h.1.0, h.0) (tuples-turn (chunks_exact_size t) x.now (chunks_exact_rest u) h.1.1 p)))
    s (omega arith))
