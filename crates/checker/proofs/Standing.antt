-- What the tests of a record say, there and back: each becomes a fact that the laws above can take apart.
--   fits_in-fits, fits-fits_in     == intervals within their widths
--   is_point-point, point-is_point == values within theirs
--   GapStands q s, TupleStands q ts s, ResolventStands bs i s == what a record of each kind says
--   gap_stands-gap, gap-gap_stands, tuple_stands-tuple, tuple-tuple_stands, resolvent_stands-resolvent, resolvent-resolvent_stands == the test says so, exactly
--   Stands q ts bs i s           == the record s, number i, stands
--   record_stands-stands, stands-record_stands == the test says so, exactly
use mathlib.Core.Path.{◌≡◌}
use mathlib.Core.Bool.{Bool, true, false, ◌&&◌, not}
use mathlib.Core.List.{List, []}
use Prim.Native.Nat.{ℕ, ◌^◌, ◌<◌}
use native.Mathlib.Omega.{arith}
use borrow.Author.Tests.{ltb-true, eqb-true, lt-ltb, eq-eqb, ne_eqb, not-true}
use lib.Dec.{eqb, ltb}
use lib.ListN.{length, get_or}
use Rattle.boxes.specs.Intervals.{pick, is_interval}
use Rattle.boxes.specs.Boxes.{resolve, resolvent, box_of}
use Rattle.boxes.specs.Fits.{Fits, Point}
use Rattle.boxes.proofs.Tests.{by, and_left, and_right, and_both}
use Rattle.boxes.proofs.Every.{both-each, each_both}
use Rattle.boxes.proofs.Laws.{is_interval-fits, fits-is_interval}
use Rattle.questions.specs.Orders.{same}
use Rattle.questions.specs.Questions.{Table, Question}
use Rattle.questions.proofs.Laws.{same-is, same_refl}
use Rattle.tables.specs.Inside.{holds_row}
use Rattle.course.specs.Stores.{Stored, box_at}
use Rattle.course.specs.Claims.{no_table}
use Rattle.checker.specs.Checks.{is_point, fits_in, lower_first, gap_stands, tuple_stands, resolvent_stands, record_stands}

-- ---- within the widths

pub fits_in-fits : (ws b : List ℕ) → fits_in ws b ≡ true → Fits ws b
fits_in-fits = both-each is_interval is_interval-fits

pub fits-fits_in : {ws b : List ℕ} → Fits ws b → fits_in ws b ≡ true
fits-fits_in = each_both is_interval (λ w u h. fits-is_interval h)

pub is_point-point : (ws p : List ℕ) → is_point ws p ≡ true → Point ws p
is_point-point = both-each (λ w a. ltb a (2 ^ w)) (λ w a e. ltb-true a (2 ^ w) e)

pub point-is_point : {ws p : List ℕ} → Point ws p → is_point ws p ≡ true
point-is_point = each_both (λ w a. ltb a (2 ^ w)) (λ w a h. lt-ltb a (2 ^ w) h)

-- ---- a record of each kind

pub record GapStands (q : Question) (s : Stored) : Type 0 where
  pub table : s.first < length q.tables
  pub second : s.second ≡ 0
  pub no_row : holds_row q.widths (get_or q.tables s.first no_table) s.box ≡ false

pub record TupleStands (q : Question) (ts : List (List ℕ)) (s : Stored) : Type 0 where
  pub place : s.first < length ts
  pub second : s.second ≡ 0
  pub is : s.box ≡ box_of q.widths (get_or ts s.first [])

pub record ResolventStands (bs : List Stored) (i : ℕ) (s : Stored) : Type 0 where
  pub first : s.first < i
  pub second : s.second < i
  pub resolves : resolve (box_at bs s.first) (box_at bs s.second) ≡ true
  pub lower : lower_first (box_at bs s.first) (box_at bs s.second) ≡ true
  pub is : s.box ≡ resolvent (box_at bs s.first) (box_at bs s.second)

module _ (q : Question) (s : Stored) where
  gap_stands-gap : gap_stands q s ≡ true → GapStands q s
  unfolding gap_stands
  gap_stands-gap e =
      let t : Table = get_or q.tables s.first no_table in
      let a : Bool = ltb s.first (length q.tables) in
      let b : Bool = eqb s.second 0 in
      let c : Bool = not (holds_row q.widths t s.box) in
      let bc : (b && c) ≡ true = and_right a (b && c) e in
      record {
        table = ltb-true s.first (length q.tables) (and_left a (b && c) e);
        second = eqb-true s.second 0 (and_left b c bc);
        no_row = not-true (holds_row q.widths t s.box) (and_right b c bc);
      }

  gap-gap_stands : GapStands q s → gap_stands q s ≡ true
  unfolding gap_stands
  gap-gap_stands g =
      and_both (lt-ltb s.first (length q.tables) g.table) (and_both (eq-eqb s.second 0 g.second) (rw g.no_row))

module _ (q : Question) (ts : List (List ℕ)) (s : Stored) where
  tuple_stands-tuple : tuple_stands q ts s ≡ true → TupleStands q ts s
  unfolding tuple_stands
  tuple_stands-tuple e =
      let x : List ℕ = box_of q.widths (get_or ts s.first []) in
      let a : Bool = ltb s.first (length ts) in
      let b : Bool = eqb s.second 0 in
      let c : Bool = same s.box x in
      let bc : (b && c) ≡ true = and_right a (b && c) e in
      record {
        place = ltb-true s.first (length ts) (and_left a (b && c) e);
        second = eqb-true s.second 0 (and_left b c bc);
        is = same-is s.box x (and_right b c bc);
      }

  tuple-tuple_stands : TupleStands q ts s → tuple_stands q ts s ≡ true
  unfolding tuple_stands
  tuple-tuple_stands t =
      and_both (lt-ltb s.first (length ts) t.place) (and_both (eq-eqb s.second 0 t.second) (rw (← t.is) (same_refl s.box)))

module _ (bs : List Stored) (i : ℕ) (s : Stored) where
  resolvent_stands-resolvent : resolvent_stands bs i s ≡ true → ResolventStands bs i s
  unfolding resolvent_stands
  resolvent_stands-resolvent e =
      let x : List ℕ = box_at bs s.first in
      let y : List ℕ = box_at bs s.second in
      let a : Bool = ltb s.first i in
      let b : Bool = ltb s.second i in
      let c : Bool = resolve x y in
      let d : Bool = lower_first x y in
      let f : Bool = same s.box (resolvent x y) in
      let e1 : (b && (c && (d && f))) ≡ true = and_right a (b && (c && (d && f))) e in
      let e2 : (c && (d && f)) ≡ true = and_right b (c && (d && f)) e1 in
      let e3 : (d && f) ≡ true = and_right c (d && f) e2 in
      record {
        first = ltb-true s.first i (and_left a (b && (c && (d && f))) e);
        second = ltb-true s.second i (and_left b (c && (d && f)) e1);
        resolves = and_left c (d && f) e2;
        lower = and_left d f e3;
        is = same-is s.box (resolvent x y) (and_right d f e3);
      }

  resolvent-resolvent_stands : ResolventStands bs i s → resolvent_stands bs i s ≡ true
  unfolding resolvent_stands
  resolvent-resolvent_stands r =
      and_both (lt-ltb s.first i r.first) (and_both (lt-ltb s.second i r.second) (and_both r.resolves
      (and_both r.lower (rw (← r.is) (same_refl s.box)))))

-- ---- by its kind

pub data Stands (q : Question) (ts : List (List ℕ)) (bs : List Stored) (i : ℕ) (s : Stored) : Type 0 where
  of-gap : s.kind ≡ 0 → GapStands q s → Stands q ts bs i s
  of-tuple : s.kind ≡ 1 → TupleStands q ts s → Stands q ts bs i s
  of-resolvent : s.kind ≡ 2 → ResolventStands bs i s → Stands q ts bs i s

module _ (q : Question) (ts : List (List ℕ)) (bs : List Stored) (i : ℕ) (s : Stored) where
  pub record_stands-stands : record_stands q ts bs i s ≡ true → Stands q ts bs i s
  unfolding record_stands
  record_stands-stands e =
      by (eqb s.kind 0)
      (λ k. of-gap (eqb-true s.kind 0 k) (gap_stands-gap q s (rw k at e)))
      (λ n.
      let e1 : pick (eqb s.kind 1) (tuple_stands q ts s) (eqb s.kind 2 && resolvent_stands bs i s) ≡ true = rw n at e in
      by (eqb s.kind 1)
      (λ k. of-tuple (eqb-true s.kind 1 k) (tuple_stands-tuple q ts s (rw k at e1)))
      (λ m.
      let e2 : (eqb s.kind 2 && resolvent_stands bs i s) ≡ true = rw m at e1 in
      of-resolvent (eqb-true s.kind 2 (and_left (eqb s.kind 2) (resolvent_stands bs i s) e2))
      (resolvent_stands-resolvent bs i s (and_right (eqb s.kind 2) (resolvent_stands bs i s) e2))))

  pub stands-record_stands : Stands q ts bs i s → record_stands q ts bs i s ≡ true
  unfolding record_stands
  stands-record_stands (of-gap k g) = rw (eq-eqb s.kind 0 k) (gap-gap_stands q s g)
  stands-record_stands (of-tuple k t) = rw (ne_eqb s.kind 0 (λ z. omega arith), eq-eqb s.kind 1 k) (tuple-tuple_stands q ts s t)
  stands-record_stands (of-resolvent k r) =
      rw (ne_eqb s.kind 0 (λ z. omega arith), ne_eqb s.kind 1 (λ z. omega arith), eq-eqb s.kind 2 k) (resolvent-resolvent_stands bs i s r)
