-- Every complete run is accepted: the tuples and the boxes that it leaves.
--   halfless-lower   == where two boxes have no halves, none is in the wrong order; lower-at: nor where the only ones stand in order
--   lower-first      == so of two boxes that resolve, of which the first is the lower half's witness
--   gap-stands       == a gap box of a run holds no row of its table
--   origin-stands    == a box with its origin stands as a record
--   left-acceptable  == what a complete run leaves is accepted
--   run-acceptable   == so with every accepted question, and any room that is enough
use mathlib.Core.Path.{◌≡◌, refl, sym, subst, ◌∙◌}
use mathlib.Core.Bool.{true, false, not}
use mathlib.Core.List.{List, [], ◌∷◌, Memᴰ}
use Prim.Native.Nat.{ℕ, zero, suc, ◌+◌, ◌*◌, ◌≤◌, ◌<◌}
use native.Mathlib.Omega.{arith}
use borrow.Author.Tests.{lt-ltb, eqb-true, eqb-false, ne_eqb}
use lib.Dec.{eqb}
use lib.ListN.{length, get_or}
use Rattle.boxes.specs.Every.{both}
use Rattle.boxes.specs.Intervals.{halves}
use Rattle.boxes.specs.Boxes.{count_halves, elsewhere, resolve}
use Rattle.boxes.specs.Fits.{Each, Fits}
use Rattle.boxes.proofs.Tests.{by, and_left, and_both, or_right}
use Rattle.boxes.proofs.Lists.{mem-at, mem-each, each_at, each2-length}
use Rattle.boxes.proofs.Laws.{are-halves}
use Rattle.questions.specs.Questions.{Table, Question, got, read_question}
use Rattle.questions.specs.Good.{Sorted, Good}
use Rattle.questions.proofs.Laws.{accepted-good}
use Rattle.tables.specs.Rows.{is_row}
use Rattle.tables.specs.Gaps.{gap_box}
use Rattle.tables.specs.Joins.{join_of}
use Rattle.tables.proofs.Laws.{gaps, gap_box-holds_row, joined}
use Rattle.course.specs.Stores.{Stored, stored, box_at}
use Rattle.course.specs.Runs.{Run, run_of}
use Rattle.course.specs.Claims.{no_table, LowerFirst, GapOrigin, TupleOrigin, ResolventOrigin, Origin, Left}
use Rattle.course.proofs.Laws.{demand-3}
use Rattle.checker.specs.Checks.{lower_first, acceptable}
use Rattle.checker.proofs.Standing.{GapStands, Stands, of-gap, of-tuple, of-resolvent}
use Rattle.checker.proofs.Accepted.{IsTuple, accepted-acceptable}

-- ---- the lower half's first

halfless-lower : (b c : List ℕ) → length b ≡ length c → count_halves b c ≡ 0 → lower_first b c ≡ true
unfolding count_halves both
halfless-lower [] [] e n = refl
halfless-lower [] (y ∷ c) e n = absurd (omega arith)
halfless-lower (x ∷ b) [] e n = absurd (omega arith)
halfless-lower (x ∷ b) (y ∷ c) e n =
    by (halves x y)
    (λ t. let one : 1 + count_halves b c ≡ 0 = rw t at n in absurd (omega arith))
    (λ f. let rest : 0 + count_halves b c ≡ 0 = rw f at n in rw f (halfless-lower b c (omega arith) (omega arith)))

-- at the attribute number i the first has the lower half of d, the second the upper
module _ (d : ℕ) (some : 1 ≤ d) where
  halves_of : (u v : ℕ) → u ≡ 2 * d → v ≡ suc (2 * d) → halves u v ≡ true
  halves_of u v l h = are-halves (record { some = omega arith; one = omega arith; two = λ e. omega arith })

  count_at_lem : (b c : List ℕ) (i : ℕ) → get_or b i 0 ≡ 2 * d → get_or c i 0 ≡ suc (2 * d) → 1 ≤ count_halves b c
  unfolding count_halves
  count_at_lem [] c i l u = absurd (omega arith)
  count_at_lem (x ∷ b) [] i l u = absurd (omega arith)
  count_at_lem (x ∷ b) (y ∷ c) zero l u = rw (halves_of x y l u) (omega arith)
  count_at_lem (x ∷ b) (y ∷ c) (suc i) l u = omega (arith, count_at_lem b c i l u)

  lower-at : (b c : List ℕ) → length b ≡ length c → count_halves b c ≡ 1 → (i : ℕ) → get_or b i 0 ≡ 2 * d → get_or c i 0 ≡ suc (2 * d) → lower_first b c ≡ true
  unfolding count_halves both
  lower-at [] c e n i l u = absurd (omega arith)
  lower-at (x ∷ b) [] e n i l u = absurd (omega arith)
  lower-at (x ∷ b) (y ∷ c) e n zero l u =
      let one : 1 + count_halves b c ≡ 1 = rw (halves_of x y l u) at n in
      and_both (or_right (not (halves x y)) (lt-ltb x y (omega arith))) (halfless-lower b c (omega arith) (omega arith))
  lower-at (x ∷ b) (y ∷ c) e n (suc i) l u =
      by (halves x y)
      (λ t. let one : 1 + count_halves b c ≡ 1 = rw t at n in absurd (omega (arith, count_at_lem b c i l u)))
      (λ f. let rest : 0 + count_halves b c ≡ 1 = rw f at n in rw f (lower-at b c (omega arith) (omega arith) i l u))

lower-first : {b c : List ℕ} → length b ≡ length c → resolve b c ≡ true → LowerFirst b c → lower_first b c ≡ true
unfolding resolve
lower-first {b} {c} e r h =
    let one : count_halves b c ≡ 1 = eqb-true (count_halves b c) 1 (and_left (eqb (count_halves b c) 1) (elsewhere b c) r) in
    lower-at h.double h.some b c e one h.at h.lower h.upper

-- ---- every box

module _ {q : Question} (good : Good q) {bs : List Stored} (fits : Each (λ b. Fits q.widths b.box) bs) where
  box-fits : (i : ℕ) → i < length bs → Fits q.widths (box_at bs i)
  box-fits i h = each_at fits i (stored [] 0 0 0) h

  -- a table's gap box at a point is none where the point is a row, and then is within no widths
  gap-stands : {i : ℕ} {s : Stored} → Fits q.widths s.box → GapOrigin q bs i s → GapStands q s
  gap-stands {s = s} fit g =
      let t : Table = get_or q.tables s.first no_table in
      let b : List ℕ = gap_box q t g.point in
      let m : Memᴰ t q.tables = mem-at q.tables s.first no_table g.table in
      let long : length q.widths ≡ length b = each2-length (rw g.is at fit) in
      let out : is_row t g.point ≡ false = sym ((gaps good).exactly t g.point m g.within) ∙ ne_eqb (length b) 0 (λ z. omega (arith, good.sound.some)) in
      record { table = g.table; second = g.second; no_row = rw g.is (gap_box-holds_row good m g.within out) }

  origin-stands : {ts : List (List ℕ)} {i : ℕ} {s : Stored} → i < length bs → Fits q.widths s.box → Origin q ts bs i s → Stands q ts bs i s
  origin-stands {ts} {i} {s} h fit o =
      by (eqb s.kind 0)
      (λ t. let k : s.kind ≡ 0 = eqb-true s.kind 0 t in of-gap k (gap-stands fit (o.gap k)))
      (λ f.
      let n : s.kind ≡ 0 → ⊥ = eqb-false s.kind 0 f in
      by (eqb s.kind 1)
      (λ t.
      let k : s.kind ≡ 1 = eqb-true s.kind 1 t in
      let x : TupleOrigin q ts s = o.tuple k in
      of-tuple k (record { place = x.place; second = x.second; is = x.is }))
      (λ g.
      let m : s.kind ≡ 1 → ⊥ = eqb-false s.kind 1 g in
      let k : s.kind ≡ 2 = omega (arith, o.kinds) in
      let x : ResolventOrigin bs i s = o.resolvent k in
      let one : length q.widths ≡ length (box_at bs s.first) = each2-length (box-fits s.first (omega (arith, x.first))) in
      let two : length q.widths ≡ length (box_at bs s.second) = each2-length (box-fits s.second (omega (arith, x.second))) in
      of-resolvent k (record { first = x.first; second = x.second; resolves = x.resolve; lower = lower-first (sym one ∙ two) x.resolve x.lower-first; is = x.is })))

-- ---- every complete run

pub left-acceptable : {q : Question} → Good q → {x : Run} → Left q x → x.number ≡ 0 → acceptable q x.tuples x.boxes ≡ true
left-acceptable {q} good {x} left done =
    let join : x.tuples ≡ join_of q = left.complete done in
    accepted-acceptable q x.tuples x.boxes (record {
      sorted = subst Sorted (sym join) (joined q).sorted;
      tuples = subst (Each (IsTuple q)) (sym join) (mem-each (join_of q) (joined q).of-join);
      fits = left.fits;
      stand = λ i h. origin-stands good left.fits h (box-fits good left.fits i h) (left.origins i h);
      some = (left.covered done).0;
      whole = (left.covered done).1;
    })

pub run-acceptable : (w : List ℕ) {q : Question} → read_question w ≡ got q [] → (l s : ℕ) → (run_of q l s).number ≡ 0
    → acceptable q (run_of q l s).tuples (run_of q l s).boxes ≡ true
run-acceptable w {q} read l s done = left-acceptable (accepted-good w q [] read) ((demand-3 w q read).1 l s) done
