-- An accepted listing is the join, whoever made it: each point that a record holds is not in the join, or is listed, and the last record holds every point.
--   Explained q ts p  == the point p is not in all tables, or it is listed
--   record-explains   == a record that stands holds explained points only, if all earlier ones do
--   all-explained     == every point is explained
--   acceptable-join   == an accepted listing is the join
use mathlib.Core.Path.{◌≡◌, sym, ap, ◌∙◌}
use mathlib.Core.Logic.{◌⊎◌, inl, inr}
use mathlib.Core.Bool.{true, false}
use mathlib.Core.List.{List, [], Memᴰ}
use Prim.Native.Nat.{ℕ, zero, suc, ◌-◌, ◌<◌}
use native.Mathlib.Omega.{arith}
use lib.ListN.{length, get_or}
use Rattle.boxes.specs.Boxes.{holds, box_of, point_of}
use Rattle.boxes.specs.Fits.{Fits, Point}
use Rattle.boxes.proofs.Tests.{by, either, clash}
use Rattle.boxes.proofs.Lists.{mem-at, each-mem, each_at}
use Rattle.boxes.proofs.Laws.{units-only, units-fit, box_of-units, point_of-box_of, whole-holds, resolvent-sound}
use Rattle.questions.specs.Questions.{Table, Question}
use Rattle.questions.specs.Good.{Good}
use Rattle.questions.proofs.Laws.{sorted-same}
use Rattle.tables.specs.Rows.{is_row, in_all}
use Rattle.tables.specs.Joins.{join_of}
use Rattle.tables.proofs.Laws.{point-holds_row, in_all-not, joined}
use Rattle.course.specs.Stores.{Stored, stored, box_at}
use Rattle.course.specs.Claims.{no_table}
use Rattle.checker.specs.Checks.{acceptable}
use Rattle.checker.proofs.Standing.{Stands, of-gap, of-tuple, of-resolvent}
use Rattle.checker.proofs.Accepted.{Accepted, acceptable-accepted}

-- two points with one box are one
box-point : {ws p r : List ℕ} → Point ws p → Point ws r → holds (box_of ws p) (box_of ws r) ≡ true → r ≡ p
box-point {ws} {p} {r} point other h =
    let is : box_of ws p ≡ box_of ws r = units-only (box_of-units point) (units-fit (box_of-units other)) h in
    sym (point_of-box_of other) ∙ ap (point_of ws) (sym is) ∙ point_of-box_of point

-- ---- what the records explain

abbrev Explained : Question → List (List ℕ) → List ℕ → Type 0
Explained q ts p = (in_all q.tables p ≡ false) ⊎ Memᴰ p ts

module _ {q : Question} (good : Good q) {ts : List (List ℕ)} {bs : List Stored} (a : Accepted q ts bs) {p : List ℕ} (point : Point q.widths p) where
  record-explains : (i : ℕ) (s : Stored) → i < length bs → Stands q ts bs i s → holds s.box (box_of q.widths p) ≡ true
      → ((j : ℕ) → j < i → holds (box_at bs j) (box_of q.widths p) ≡ true → Explained q ts p) → Explained q ts p
  record-explains i s l (of-gap k g) h earlier =
      let t : Table = get_or q.tables s.first no_table in
      let m : Memᴰ t q.tables = mem-at q.tables s.first no_table g.table in
      let out : is_row t p ≡ false =
      by (is_row t p) (λ e. clash (point-holds_row (each-mem good.sound.each m) point s.box h e) g.no_row) (λ f. f) in
      inl (in_all-not p m out)
  record-explains i s l (of-tuple k t) h earlier =
      let m = mem-at ts s.first [] t.place in
      inr (mathlib.Core.List.Memᴰ.cast (box-point (each-mem a.tuples m).0 point (rw (← t.is) h)) m)
  record-explains i s l (of-resolvent k r) h earlier =
      let fits : (j : ℕ) → j < length bs → Fits q.widths (box_at bs j) = λ j below. each_at a.fits j (stored [] 0 0 0) below in
      either (resolvent-sound (fits s.first (omega (arith, r.first))) (fits s.second (omega (arith, r.second))) (box_of-units point) r.resolves (rw (← r.is) h))
      (earlier s.first r.first)
      (earlier s.second r.second)

  -- by induction on a bound of the numbers
  below-explains : (n i : ℕ) → i < n → i < length bs → holds (box_at bs i) (box_of q.widths p) ≡ true → Explained q ts p
  below-explains zero i h l e = absurd (omega arith)
  below-explains (suc n) i h l e =
      record-explains i (get_or bs i (stored [] 0 0 0)) l (a.stand i l) e (λ j less. below-explains n j (omega arith) (omega arith))

  all-explained : Explained q ts p
  all-explained =
      let last : ℕ = length bs - 1 in
      below-explains (length bs) last (omega (arith, a.some)) (omega (arith, a.some)) (rw a.whole (whole-holds (units-fit (box_of-units point))))

-- ---- the listing

pub acceptable-join : {q : Question} → Good q → (ts : List (List ℕ)) (bs : List Stored) → acceptable q ts bs ≡ true → ts ≡ join_of q
acceptable-join {q} good ts bs e =
    let a : Accepted q ts bs = acceptable-accepted q ts bs e in
    sorted-same a.sorted (joined q).sorted
    (λ p m. let l = each-mem a.tuples m in (joined q).in-join p l.0 l.1)
    (λ p m. let l = (joined q).of-join p m in either (all-explained good a l.0) (λ f. clash l.1 f) (λ n. n))
