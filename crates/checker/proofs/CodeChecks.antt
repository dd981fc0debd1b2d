-- The tests as the code makes them are those of the definitions, where the directory is that of an accepted question: so what `Certificate::stands` answers is whether
-- listing and records are accepted. The code asks of boxes attribute by attribute, of tables by halves, and of rows table by table.
--   ReadAs w d q       == the words w are the accepted question q, and d is its directory
--   resolve_each-is, resolves_to-is == attribute by attribute, and at one in halves: the two resolve, the lower half's first, into the third
--   entries_have_rows-is           == rows table by table are rows in every table
--   widths-are, rows-there == the directory's widths are the question's, and its entries' rows those of the tables
--   row-held-is, listed-box-is == what the code asks of the box of a record of kind 0 and 1
--   gap_checked-is, tuple_checked-is, resolvent_checked-is, record_checked-is, records_checked-is == what the code asks of a record, by its kind, is what the definition asks
--   and-4, and-5       == tests that are all passed
--   boxes-fit, boxes-checked, rows-checked, all_checked-is == all of it
--   read-accepted, read_as-sized == the directory that is read is that of an accepted question, and its arrays are long enough
--   read-refused, check_number-is == a refused question's number; the answer
use mathlib.Core.Path.{◌≡◌, refl, sym, ap, ap₂, ◌∙◌}
use mathlib.Core.Bool.{Bool, true, false, ◌&&◌, not, and_assoc, and-false}
use Rattle.std.specs.Prelude.{Ok, Err}
use mathlib.Core.List.{List, [], ◌∷◌, map, zip_with, Memᴰ}
use Prim.Native.Nat.{ℕ, suc, ◌+◌, ◌≤◌, ◌<◌}
use native.Mathlib.Omega.{arith}
use borrow.Author.Tests.{ltb-true, eqb-true, ne_eqb}
use lib.Dec.{eqb, ltb}
use lib.ListN.{length, get_or, take}
use lib.Seq.{take_at, take_all, get_or-take, length-take-le}
use Rattle.boxes.specs.Limits.{max_attributes}
use Rattle.boxes.specs.Every.{every, both}
use Rattle.boxes.specs.Intervals.{halves, comparable_i, resolvent_i}
use Rattle.boxes.specs.Boxes.{box_of, count_halves, elsewhere, resolve, resolvent}
use Rattle.boxes.specs.Fits.{Each, none, more, Fits, Point, Widths}
use Rattle.boxes.proofs.Tests.{by, same_tests, and_left, and_right, and_both}
use Rattle.boxes.proofs.Lists.{each-mem, mem-each, each-imp, each_at, each_map, each2-length}
use Rattle.boxes.proofs.Every.{every-and, every-same, every_map, every-each, each-every}
use Rattle.boxes.proofs.Laws.{box_of-or0}
use Rattle.questions.specs.Orders.{same}
use Rattle.questions.specs.Questions.{Table, Question, Got, got, when, read_question}
use Rattle.questions.specs.Good.{Good}
use Rattle.questions.specs.Directories.{no_entry, filled_to, table_of}
use Rattle.questions.specs.Refusals.{refusal_number}
use Rattle.questions.specs.declared.refusal.Refusal.{Refusal}
use Rattle.questions.specs.Says.{DirectorySays, DirectoryFor}
use Rattle.questions.specs.declared.directory.TableEntry.{TableEntry}
use Rattle.questions.specs.declared.directory.Directory.{Directory}
use Rattle.questions.proofs.Laws.{accepted-good, directory-of}
use Rattle.tables.specs.Rows.{is_row, in_all}
use Rattle.tables.specs.Inside.{holds_row}
use Rattle.tables.proofs.Laws.{at_table, at-box, row_found-is, seek_is}
use Rattle.course.specs.Stores.{Stored, stored, box_at}
use Rattle.course.specs.Claims.{no_table}
use Rattle.search.specs.Limits.{record_words}
use Rattle.search.specs.Records.{cut_s}
use Rattle.checker.specs.Limits.{check_failed}
use Rattle.checker.specs.Checks.{is_point, ascending, is_tuple, fits_in, lower_first, gap_stands, tuple_stands, resolvent_stands, record_stands, records_stand, ends_whole, acceptable, whole_parts, read_tuples, read_records, ones_beyond, accepts, check_of, check_number}
use Rattle.checker.specs.Parts.{resolves_at, resolve_each, resolves_to, entry_has_row, entries_have_rows, fits_whole, gap_checked, tuple_checked, resolvent_checked, record_checked, records_checked, all_checked, Sized}
use Rattle.checker.proofs.Standing.{fits_in-fits, is_point-point}

pub record ReadAs (w : List ℕ) (d : Directory) (q : Question) : Type 0 where
  pub read : read_question w ≡ got q []
  pub directory : DirectoryFor w q d

-- ---- boxes that resolve

-- tests in another order, by which of the first two fails
with-halves : (a b e l s : Bool) → ((a && b) && (e && (l && s))) ≡ (e && ((b && l) && (a && s)))
with-halves true true e l s = refl
with-halves true false e l s = sym (and-false e)
with-halves false b e l s = sym (ap (λ (x : Bool). e && x) (and-false (b && l)) ∙ and-false e)

with_none : (a b e l s : Bool) → ((a && b) && (e && (l && s))) ≡ ((b && e) && (l && (a && s)))
with_none true true e l s = refl
with_none true false e l s = refl
with_none false b e l s = sym (ap (λ (x : Bool). (b && e) && x) (and-false l) ∙ and-false (b && e))

resolve_each-is : (us vs xs : List ℕ) → length vs ≡ length us → length xs ≡ length us
    → resolve_each us vs xs ≡ (elsewhere us vs && (lower_first us vs && same xs (resolvent us vs)))
unfolding resolve_each resolves_at elsewhere both same resolvent zip_with
resolve_each-is [] [] [] e f = refl
resolve_each-is [] [] (x ∷ xs) e f = absurd (omega arith)
resolve_each-is [] (v ∷ vs) xs e f = absurd (omega arith)
resolve_each-is (u ∷ us) [] xs e f = absurd (omega arith)
resolve_each-is (u ∷ us) (v ∷ vs) [] e f = absurd (omega arith)
resolve_each-is (u ∷ us) (v ∷ vs) (x ∷ xs) e f =
    let a : Bool = eqb x (resolvent_i u v) in
    let b : Bool = elsewhere us vs in
    let l : Bool = lower_first us vs in
    let s : Bool = same xs (resolvent us vs) in
    by (halves u v)
    (λ t. rw (t, resolve_each-is us vs xs (omega arith) (omega arith)) (with-halves a (ltb u v) b l s))
    (λ g. rw (g, resolve_each-is us vs xs (omega arith) (omega arith)) (with_none a (comparable_i u v) b l s))

resolves_to-is : (us vs xs : List ℕ) → length vs ≡ length us → length xs ≡ length us
    → resolves_to us vs xs ≡ (eqb (count_halves us vs) 1 && (elsewhere us vs && (lower_first us vs && same xs (resolvent us vs))))
resolves_to-is us vs xs e f = ap (λ (r : Bool). eqb (count_halves us vs) 1 && r) (resolve_each-is us vs xs e f)

resolvent_checked-is : {n : ℕ} (bs : List Stored) → Each (λ b. length b.box ≡ n) bs → (i : ℕ) → i ≤ length bs → (s : Stored) → length s.box ≡ n
    → resolvent_checked (take i bs) s.first s.second s.box ≡ resolvent_stands bs i s
unfolding resolvent_stands resolve
resolvent_checked-is {n} bs long i most s e =
    let b : List ℕ = box_at bs s.first in
    let c : List ℕ = box_at bs s.second in
    let count : length (take i bs) ≡ i = length-take-le i bs most in
    by (ltb s.first i)
    (λ t.
    by (ltb s.second i)
    (λ u.
    let first : s.first < i = ltb-true s.first i t in
    let second : s.second < i = ltb-true s.second i u in
    let lb : length b ≡ n = each_at long s.first (stored [] 0 0 0) (omega arith) in
    let lc : length c ≡ n = each_at long s.second (stored [] 0 0 0) (omega arith) in
    let one : box_at (take i bs) s.first ≡ b = ap (λ (x : Stored). x.box) (get_or-take i bs s.first (stored [] 0 0 0) first) in
    let other : box_at (take i bs) s.second ≡ c = ap (λ (x : Stored). x.box) (get_or-take i bs s.second (stored [] 0 0 0) second) in
    rw (count, t, u)
    (ap₂ (λ (x y : List ℕ). resolves_to x y s.box) one other
    ∙ resolves_to-is b c s.box (omega arith) (omega arith)
    ∙ sym (and_assoc (eqb (count_halves b c) 1) (elsewhere b c) (lower_first b c && same s.box (resolvent b c)))))
    (λ f. rw (count, t, f)))
    (λ f. rw (count, f))

-- ---- rows

-- an entry for each table, and the tuples have the rows of the one exactly if they have those of the other
entries_have_rows-is : (w : List ℕ) (ts : List (List ℕ)) (es : List TableEntry) (us : List Table) → length es ≡ length us
    → ((i : ℕ) → i < length us → (p : List ℕ) → Memᴰ p ts → entry_has_row w (get_or es i no_entry) p ≡ is_row (get_or us i no_table) p)
    → entries_have_rows w es ts ≡ every (in_all us) ts
unfolding entries_have_rows in_all
entries_have_rows-is w ts [] [] e f = sym (each-every (λ p. true) (mem-each ts (λ p m. refl)))
entries_have_rows-is w ts [] (t ∷ us) e f = absurd (omega arith)
entries_have_rows-is w ts (x ∷ es) [] e f = absurd (omega arith)
entries_have_rows-is w ts (x ∷ es) (t ∷ us) e f =
    ap₂ ◌&&◌ (every-same (entry_has_row w x) (is_row t) ts (f 0 (omega arith))) (entries_have_rows-is w ts es us (omega arith) (λ i h. f (suc i) (omega arith)))
    ∙ sym (every-and (is_row t) (in_all us) ts)

-- tests that are all passed
and-4 : (a b c d : Bool) → (a && (b && (c && d))) ≡ true → (a ≡ true) × (b ≡ true) × (c ≡ true) × (d ≡ true)
and-4 a b c d t =
    let u : (b && (c && d)) ≡ true = and_right a (b && (c && d)) t in
    let v : (c && d) ≡ true = and_right b (c && d) u in
    (and_left a (b && (c && d)) t, and_left b (c && d) u, and_left c d v, and_right c d v)

and-5 : (a b c d e : Bool) → (a && (b && (c && (d && e)))) ≡ true → (a ≡ true) × (b ≡ true) × (c ≡ true) × (d ≡ true) × (e ≡ true)
and-5 a b c d e t =
    let r = and-4 b c d e (and_right a (b && (c && (d && e))) t) in
    (and_left a (b && (c && (d && e))) t, r.0, r.1, r.2, r.3)

-- ---- at the directory of an accepted question

module _ {w : List ℕ} {d : Directory} {q : Question} (g : ReadAs w d q) where
  abbrev n : ℕ
  n = length q.widths

  good : Good q
  good = accepted-good w q [] g.read

  widths-are : take d.dimension d.widths ≡ q.widths
  widths-are = ap₂ take g.directory.count g.directory.widths ∙ take_at q.widths _ n refl

  narrow : Widths q.widths
  narrow = each-imp (λ x h. h.1) good.sound.widths

  -- rows
  rows-there : (ts : List (List ℕ)) → Each (Point q.widths) ts → entries_have_rows w (take d.tables d.entries) ts ≡ every (in_all q.tables) ts
  rows-there ts points =
      entries_have_rows-is w ts (take d.tables d.entries) q.tables g.directory.entries
      (λ i h p m.
      let point : Point q.widths p = each-mem points m in
      let long : length p ≡ n = sym (each2-length point) in
      let front : take n (filled_to max_attributes 0 p) ≡ p = take_at p _ n long in
      let at = at_table w d g.directory g.read i no_entry h (filled_to max_attributes 0 p) (rw front point) in
      ap (λ (e : TableEntry). entry_has_row w e p) (get_or-take d.tables d.entries i no_entry (omega (arith, g.directory.tables)))
      ∙ row_found-is w (get_or d.entries i no_entry) (filled_to max_attributes 0 p) at
      ∙ ap₂ is_row (g.directory.table i no_entry no_table h) front)

  -- records
  module _ (s : Stored) (fits : Fits q.widths s.box) where
    row-held-is : gap_checked w d s.first s.box ≡ (ltb s.first (length q.tables) && not (holds_row q.widths (get_or q.tables s.first no_table) s.box))
    row-held-is =
        by (ltb s.first (length q.tables))
        (λ t.
        let h : s.first < length q.tables = ltb-true s.first (length q.tables) t in
        let whole : take n s.box ≡ s.box = take_all n s.box (omega (arith, each2-length fits)) in
        let at = at-box w d g.directory g.read s.first no_entry h s.box (rw whole fits) in
        let is = seek_is w d.widths (get_or d.entries s.first no_entry) s.box at
        ∙ ap₂ (holds_row q.widths) (g.directory.table s.first no_entry no_table h) whole in
        rw (g.directory.tables, t, is))
        (λ f. rw (g.directory.tables, f))

    listed-box-is : (ts : List (List ℕ)) → tuple_checked (take d.dimension d.widths) ts s.first s.box ≡ (ltb s.first (length ts) && same s.box (box_of q.widths (get_or ts s.first [])))
    listed-box-is ts = rw (widths-are, box_of-or0 narrow (get_or ts s.first []))

    -- kind 0, whose second origin is 0
    gap_checked-is : (ts : List (List ℕ)) (bs : List Stored) (i : ℕ) → eqb s.kind 0 ≡ true → record_checked w d ts bs i s ≡ gap_stands q s
    unfolding gap_stands
    gap_checked-is ts bs i z =
        let one : eqb s.kind 1 ≡ false = ne_eqb s.kind 1 (λ e. omega (arith, eqb-true s.kind 0 z)) in
        let two : eqb s.kind 2 ≡ false = ne_eqb s.kind 2 (λ e. omega (arith, eqb-true s.kind 0 z)) in
        by (eqb s.second 0) (λ t. rw (z, t) row-held-is) (λ f. rw (z, f, one, two) (sym (and-false (ltb s.first (length q.tables)))))

    -- kind 1, whose second origin is 0
    tuple_checked-is : (ts : List (List ℕ)) (bs : List Stored) (i : ℕ) → eqb s.kind 0 ≡ false → eqb s.kind 1 ≡ true → record_checked w d ts bs i s ≡ tuple_stands q ts s
    unfolding tuple_stands
    tuple_checked-is ts bs i nz o =
        let two : eqb s.kind 2 ≡ false = ne_eqb s.kind 2 (λ e. omega (arith, eqb-true s.kind 1 o)) in
        by (eqb s.second 0) (λ t. rw (nz, o, t) (listed-box-is ts)) (λ f. rw (nz, o, f, two) (sym (and-false (ltb s.first (length ts)))))

    record_checked-is : (ts : List (List ℕ)) (bs : List Stored) → Each (λ b. length b.box ≡ n) bs → (i : ℕ) → i ≤ length bs → record_checked w d ts bs i s ≡ record_stands q ts bs i s
    unfolding record_stands
    record_checked-is ts bs long i most =
        by (eqb s.kind 0)
        (λ z. gap_checked-is ts bs i z ∙ rw z refl)
        (λ nz.
        by (eqb s.kind 1)
        (λ o. tuple_checked-is ts bs i nz o ∙ rw (nz, o) refl)
        (λ no.
        by (eqb s.kind 2) (λ t. rw (nz, no, t) (resolvent_checked-is bs long i most s (sym (each2-length fits)))) (λ f. rw (nz, no, f))))

  records_checked-is : (ts : List (List ℕ)) (bs : List Stored) → Each (λ b. length b.box ≡ n) bs → (i : ℕ) {ss : List Stored} → Each (λ b. Fits q.widths b.box) ss
      → i + length ss ≤ length bs → records_checked i w d ts bs ss ≡ records_stand i q ts bs ss
  unfolding records_checked records_stand
  records_checked-is ts bs long i none most = refl
  records_checked-is ts bs long i (more {x = s} f r) most =
      ap₂ ◌&&◌ (record_checked-is s f ts bs long i (omega arith)) (records_checked-is ts bs long (suc i) r (omega arith))

  -- all of it
  module _ (l s : List ℕ) where
    abbrev ws : List ℕ
    ws = q.widths

    abbrev ts : List (List ℕ)
    ts = read_tuples n l

    abbrev rs : List Stored
    rs = read_records s

    abbrev bs : List Stored
    bs = map (cut_s n) rs

    -- the records' boxes are within the widths
    boxes-fit : every (λ x. fits_in ws (take n x.box)) rs ≡ true → Each (λ b. Fits ws b.box) bs
    boxes-fit t = each_map (cut_s n) (λ x e. fits_in-fits ws (take n x.box) e) (every-each (λ x. fits_in ws (take n x.box)) rs t)

    boxes-checked : every (λ x. fits_in ws (take n x.box)) rs ≡ true → records_checked 0 w d ts bs bs ≡ records_stand 0 q ts bs bs
    boxes-checked t =
        let fit : Each (λ b. Fits ws b.box) bs = boxes-fit t in
        records_checked-is ts bs (each-imp (λ b h. sym (each2-length h)) fit) 0 fit (omega arith)

    rows-checked : every (is_point ws) ts ≡ true → entries_have_rows w (take d.tables d.entries) ts ≡ every (in_all q.tables) ts
    rows-checked t = rows-there ts (each-imp (λ p e. is_point-point ws p e) (every-each (is_point ws) ts t))

    all_checked-is : (whole_parts record_words s && all_checked w d l (read_records s)) ≡ accepts q l s
    unfolding accepts acceptable
    all_checked-is =
        let whole-l : Bool = whole_parts n l in
        let whole-s : Bool = whole_parts record_words s in
        let ends : Bool = ends_whole n bs in
        let up : Bool = ascending ts in
        let points : Bool = every (is_point ws) ts in
        let rows : Bool = entries_have_rows w (take d.tables d.entries) ts in
        let both-fit : Bool = every (fits_whole n ws) rs in
        let recs : Bool = records_checked 0 w d ts bs bs in
        let ones : Bool = every (ones_beyond n) rs in
        let fit : Bool = every (λ x. fits_in ws x.box) bs in
        let fit_words : Bool = every (λ x. fits_in ws (take n x.box)) rs in
        let tuples : Bool = every (is_tuple q) ts in
        let stand : Bool = records_stand 0 q ts bs bs in
        let split : both-fit ≡ (ones && fit_words) = every-and (ones_beyond n) (λ x. fits_in ws (take n x.box)) rs in
        let cut : fit ≡ fit_words = every_map (λ x. fits_in ws x.box) (cut_s n) rs in
        let each : tuples ≡ (points && every (in_all q.tables) ts) = every-and (is_point ws) (in_all q.tables) ts in
        ap₂ (λ (k : ℕ) (vs : List ℕ). whole-s && (ends_whole k (map (cut_s k) rs) && ((whole_parts k l && (ascending (read_tuples k l) && (every (is_point vs) (read_tuples k l)
        && entries_have_rows w (take d.tables d.entries) (read_tuples k l)))) && (every (fits_whole k vs) rs && records_checked 0 w d (read_tuples k l) (map (cut_s k) rs) (map (cut_s k) rs))))) g.directory.count widths-are
        ∙ same_tests (whole-s && (ends && ((whole-l && (up && (points && rows))) && (both-fit && recs))))
        (whole-l && (whole-s && (ones && (up && (tuples && (fit && (stand && ends)))))))
        (λ t.
        let p = and-5 whole-s ends (whole-l && (up && (points && rows))) both-fit recs t in
        let r = and-4 whole-l up points rows p.2 in
        let f : (ones && fit_words) ≡ true = sym split ∙ p.3 in
        let fw : fit_words ≡ true = and_right ones fit_words f in
        and_both r.0 (and_both p.0 (and_both (and_left ones fit_words f) (and_both r.1
        (and_both (each ∙ and_both r.2 (sym (rows-checked r.2) ∙ r.3)) (and_both (cut ∙ fw) (and_both (sym (boxes-checked fw) ∙ p.4) p.1)))))))
        (λ t.
        let p = and-4 whole-l whole-s ones (up && (tuples && (fit && (stand && ends)))) t in
        let r = and-5 up tuples fit stand ends p.3 in
        let both-rows : (points && every (in_all q.tables) ts) ≡ true = sym each ∙ r.1 in
        let pts : points ≡ true = and_left points (every (in_all q.tables) ts) both-rows in
        let fw : fit_words ≡ true = sym cut ∙ r.2 in
        and_both p.1 (and_both r.4 (and_both
        (and_both p.0 (and_both r.0 (and_both pts (rows-checked pts ∙ and_right points (every (in_all q.tables) ts) both-rows))))
        (and_both (split ∙ and_both p.2 fw) (boxes-checked fw ∙ r.3)))))

pub read-accepted : (w : List ℕ) (d : Directory) → DirectorySays w (read_question w) (Ok d) → (q : Question) × ReadAs w d q
read-accepted w d says =
    let q : Question = record { widths = take d.dimension d.widths; tables = map (table_of w) (take d.tables d.entries) } in
    (q, record { read = sym says.is; directory = directory-of w d says (sym says.is) })

-- its arrays are long enough
pub read_as-sized : {w : List ℕ} {d : Directory} {q : Question} → ReadAs w d q → Sized d
read_as-sized {d = d} {q = q} g =
    let sound = (accepted-good _ q [] g.read).sound in
    let count : d.dimension ≡ length q.widths = g.directory.count in
    record {
      some = omega (arith, sound.some);
      few = omega (arith, sound.few);
      few-tables = omega (arith, sound.few-tables, g.directory.tables);
      widths = ap length (widths-are g) ∙ sym count;
      entries = g.directory.entries ∙ sym g.directory.tables;
    }

-- ---- the question first

module _ (w l s : List ℕ) where
  pub read-refused : (r : Refusal) → DirectorySays w (read_question w) (Err r) → refusal_number r ≡ check_number w l s
  read-refused r says = ap (λ (g : Got Question). check_of g l s) says.is

  -- what is found decides
  pub check_number-is : (d : Directory) → DirectorySays w (read_question w) (Ok d) → {b : Bool} → (whole_parts record_words s && all_checked w d l (read_records s)) ≡ b
      → when (not b) check_failed ≡ check_number w l s
  check_number-is d says {b} is =
      let g = read-accepted w d says in
      let accepted : accepts g.0 l s ≡ b = sym (all_checked-is g.1 l s) ∙ is in
      rw (g.1.read, accepted)
