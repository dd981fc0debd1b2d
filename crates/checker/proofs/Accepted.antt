-- What it is to be accepted, as a record: each part of `acceptable` is a fact, and the parts together are the test.
--   IsTuple q p      == p is a tuple of the join
--   Accepted q ts bs == the tuples ts and the records bs are accepted, part by part
--   is_tuple-is, is-is_tuple, records_stand-at, at-records_stand == a tuple; the records, number by number
--   acceptable-accepted, accepted-acceptable == the test says so, exactly
use mathlib.Core.Path.{◌≡◌, refl}
use mathlib.Core.Bool.{Bool, true, ◌&&◌}
use mathlib.Core.List.{List, [], ◌∷◌}
use Prim.Native.Nat.{ℕ, zero, suc, ◌+◌, ◌-◌, ◌≤◌, ◌<◌}
use native.Mathlib.Omega.{arith}
use borrow.Author.Tests.{leb-true, le-leb}
use lib.Dec.{leb}
use lib.ListN.{length, get_or}
use Rattle.boxes.specs.Every.{every}
use Rattle.boxes.specs.Boxes.{whole_space}
use Rattle.boxes.specs.Fits.{Each, Fits, Point}
use Rattle.boxes.proofs.Tests.{and_left, and_right, and_both}
use Rattle.boxes.proofs.Lists.{each-imp}
use Rattle.boxes.proofs.Every.{every-each, each-every}
use Rattle.questions.specs.Orders.{same}
use Rattle.questions.specs.Questions.{Question}
use Rattle.questions.specs.Good.{Sorted}
use Rattle.questions.proofs.Laws.{same-is, same_refl}
use Rattle.tables.specs.Rows.{in_all}
use Rattle.course.specs.Stores.{Stored, stored, box_at}
use Rattle.checker.specs.Checks.{is_point, ascending, is_tuple, fits_in, record_stands, records_stand, ends_whole, acceptable}
use Rattle.checker.proofs.Ordering.{ascending-sorted, sorted-ascending}
use Rattle.checker.proofs.Standing.{fits_in-fits, fits-fits_in, is_point-point, point-is_point, Stands, record_stands-stands, stands-record_stands}

abbrev pub IsTuple : Question → List ℕ → Type 0
IsTuple q p = Point q.widths p × (in_all q.tables p ≡ true)

pub record Accepted (q : Question) (ts : List (List ℕ)) (bs : List Stored) : Type 0 where
  pub sorted : Sorted ts
  pub tuples : Each (IsTuple q) ts
  pub fits : Each (λ s. Fits q.widths s.box) bs
  pub stand : (i : ℕ) → i < length bs → Stands q ts bs i (get_or bs i (stored [] 0 0 0))
  pub some : 1 ≤ length bs
  pub whole : box_at bs (length bs - 1) ≡ whole_space (length q.widths)

module _ (q : Question) (p : List ℕ) where
  is_tuple-is : is_tuple q p ≡ true → IsTuple q p
  is_tuple-is t =
      (is_point-point q.widths p (and_left (is_point q.widths p) (in_all q.tables p) t), and_right (is_point q.widths p) (in_all q.tables p) t)

  is-is_tuple : IsTuple q p → is_tuple q p ≡ true
  is-is_tuple l = and_both (point-is_point l.0) l.1

module _ (q : Question) (ts : List (List ℕ)) (bs : List Stored) where
  -- ---- the records, number by number

  records_stand-at : (i : ℕ) (ss : List Stored) → records_stand i q ts bs ss ≡ true → (k : ℕ) → k < length ss → Stands q ts bs (i + k) (get_or ss k (stored [] 0 0 0))
  unfolding records_stand
  records_stand-at i [] e k h = absurd (omega arith)
  records_stand-at i (s ∷ ss) e zero h =
      let z : i + 0 ≡ i = omega arith in
      rw z (record_stands-stands q ts bs i s (and_left (record_stands q ts bs i s) (records_stand (suc i) q ts bs ss) e))
  records_stand-at i (s ∷ ss) e (suc k) h =
      let z : i + suc k ≡ suc i + k = omega arith in
      rw z (records_stand-at (suc i) ss (and_right (record_stands q ts bs i s) (records_stand (suc i) q ts bs ss) e) k (omega arith))

  at-records_stand : (i : ℕ) (ss : List Stored) → ((k : ℕ) → k < length ss → Stands q ts bs (i + k) (get_or ss k (stored [] 0 0 0))) → records_stand i q ts bs ss ≡ true
  unfolding records_stand
  at-records_stand i [] f = refl
  at-records_stand i (s ∷ ss) f =
      let z : i + 0 ≡ i = omega arith in
      and_both (stands-record_stands q ts bs i s (rw z at (f 0 (omega arith))))
      (at-records_stand (suc i) ss (λ k h. let z : i + suc k ≡ suc i + k = omega arith in rw z at (f (suc k) (omega arith))))

  -- ---- all of it

  pub acceptable-accepted : acceptable q ts bs ≡ true → Accepted q ts bs
  unfolding acceptable
  acceptable-accepted e =
      let n : ℕ = length q.widths in
      let x : List ℕ = box_at bs (length bs - 1) in
      let a : Bool = ascending ts in
      let b : Bool = every (is_tuple q) ts in
      let c : Bool = every (λ s. fits_in q.widths s.box) bs in
      let d : Bool = records_stand 0 q ts bs bs in
      let f : Bool = ends_whole n bs in
      let e1 : (b && (c && (d && f))) ≡ true = and_right a (b && (c && (d && f))) e in
      let e2 : (c && (d && f)) ≡ true = and_right b (c && (d && f)) e1 in
      let e3 : (d && f) ≡ true = and_right c (d && f) e2 in
      let e4 : f ≡ true = and_right d f e3 in
      record {
        sorted = ascending-sorted ts (and_left a (b && (c && (d && f))) e);
        tuples = each-imp (is_tuple-is q) (every-each (is_tuple q) ts (and_left b (c && (d && f)) e1));
        fits = each-imp (λ s t. fits_in-fits q.widths s.box t) (every-each (λ s. fits_in q.widths s.box) bs (and_left c (d && f) e2));
        stand = λ i h. let z : 0 + i ≡ i = omega arith in rw z at (records_stand-at 0 bs (and_left d f e3) i h);
        some = leb-true 1 (length bs) (and_left (leb 1 (length bs)) (same x (whole_space n)) e4);
        whole = same-is x (whole_space n) (and_right (leb 1 (length bs)) (same x (whole_space n)) e4);
      }

  pub accepted-acceptable : Accepted q ts bs → acceptable q ts bs ≡ true
  unfolding acceptable
  accepted-acceptable a =
      and_both (sorted-ascending a.sorted) (and_both
      (each-every (is_tuple q) (each-imp (is-is_tuple q) a.tuples)) (and_both
      (each-every (λ s. fits_in q.widths s.box) (each-imp (λ s f. fits-fits_in f) a.fits)) (and_both
      (at-records_stand 0 bs (λ k h. let z : 0 + k ≡ k = omega arith in rw z (a.stand k h)))
      (and_both (le-leb 1 (length bs) a.some) (rw a.whole (same_refl (whole_space (length q.widths))))))))
