-- What an imported file is.
--   by_move          == cases on what a byte does, with the equation kept
--   records-some     == the first record has a field
--   header-yes       == what it says of a header that it passed
--   row-refused, header_refused == a record, or the header, that does not pass
--   refused-imported == a refusal is no table
--   Taken names s t  == the table t is that of the file s: what the header and the records passed, and what the table is of them
--   rows_taken       == what read_rows imports is the table of rows that passed
--   file-taken       == so of a file
--   taken-file       == and the other way round: such a file is imported as this table
use mathlib.Core.Path.{◌≡◌, refl, sym, ap, ◌∙◌}
use mathlib.Core.Bool.{true, ◌&&◌, not}
use mathlib.Core.List.{List, [], ◌∷◌, ◌++◌, map, append-nil}
use Prim.Native.Nat.{ℕ, ◌≤◌}
use native.Mathlib.Omega.{arith}
use borrow.Author.Tests.{eqb-true, eqb-false, ne_eqb, ltb-false, le-ltb}
use lib.Dec.{eqb, ltb}
use lib.ListN.{length}
use lib.Seq.{append_snoc}
use Rattle.boxes.specs.Fits.{Each, none, more}
use Rattle.boxes.proofs.Tests.{by, and_left, and_right}
use Rattle.boxes.proofs.Lists.{length-end}
use Rattle.questions.specs.Limits.{max_rows}
use Rattle.questions.specs.Questions.{Table, when, table_with}
use Rattle.fields.specs.Limits.{max_bytes}
use Rattle.fields.specs.Fields.{every, is_number, is_one, distinct}
use Rattle.fields.proofs.Laws.{every-each, each-every}
use Rattle.csv_tables.specs.Records.{Mode, start, plain, quoted, closing, ending, Move, keep, skip, cut, line, stop, move, kind_of, Records, ended, broken, next, records_from, records_of, record_list}
use Rattle.csv_tables.specs.Imports.{refused, imported, header_check, record_check, columns_of, row_of, sort_rows, tabled, record_place, read_rows, read_header, read_csv}
use Rattle.csv_tables.proofs.Lines.{from-keep, from-skip, from_cut, from-line, from-stop}
use Rattle.csv_tables.proofs.RoundTrip.{check-passes, row-taken, header-taken}
use Rattle.questions.proofs.Laws.{when-yes, first-yes}

-- ---- a record has a field

pub by_move {ℓ} : {A : Type ℓ} (v : Move) → ((n : Mode) → v ≡ keep n → A) → ((n : Mode) → v ≡ skip n → A) → (v ≡ cut → A) → (v ≡ line → A) → (v ≡ stop → A) → A
by_move (keep n) f g h i j = f n refl
by_move (skip n) f g h i j = g n refl
by_move cut f g h i j = h refl
by_move line f g h i j = i refl
by_move stop f g h i j = j refl

next-first : {h k : List (List ℕ)} {r u : Records} → next h r ≡ next k u → k ≡ h
next-first e = cc

broken-next : {A : Type 0} {h : List (List ℕ)} {r : Records} → broken ≡ next h r → A
broken-next e = let z : ◌≡◌ {A = ℕ} 0 1 = cc in absurd (omega arith)

some_end : (fs : List (List ℕ)) (f : List ℕ) {h : List (List ℕ)} {r u : Records} → next (fs ++ (f ∷ [])) u ≡ next h r → 1 ≤ length h
some_end fs f {h} e = omega (arith, length-end fs f, ap length (next-first e))

pub records-some : (m : Mode) (fs : List (List ℕ)) (f s : List ℕ) {h : List (List ℕ)} {r : Records} → records_from m fs f s ≡ next h r → 1 ≤ length h
unfolding records_from
records-some start fs f [] e = some_end fs f e
records-some plain fs f [] e = some_end fs f e
records-some quoted fs f [] e = broken-next e
records-some closing fs f [] e = some_end fs f e
records-some ending fs f [] e = broken-next e
records-some m fs f (b ∷ s) e =
    by_move (move m (kind_of b))
    (λ n v. records-some n fs (f ++ (b ∷ [])) s (sym (from-keep m b fs f s v) ∙ e))
    (λ n v. records-some n fs f s (sym (from-skip m b fs f s v) ∙ e))
    (λ v. records-some start (fs ++ (f ∷ [])) [] s (sym (from_cut m b fs f s v) ∙ e))
    (λ v. some_end fs f (sym (from-line m b fs f s v) ∙ e))
    (λ v. broken-next (sym (from-stop m b fs f s v) ∙ e))

-- ---- questions answered yes

record-yes : (h fs : List (List ℕ)) → record_check h fs ≡ 0 → (length fs ≡ length h) × (every is_number fs ≡ true)
record-yes h fs e =
    let both = first-yes (when (not (eqb (length fs) (length h))) 18) (when (not (every is_number fs)) 19) e in
    (eqb-true (length fs) (length h) (when-yes (eqb (length fs) (length h)) 17 both.0), when-yes (every is_number fs) 18 both.1)

pub header-yes : (names h : List (List ℕ)) → header_check names h ≡ 0 → (distinct h ≡ true) × (every (is_one names) h ≡ true)
header-yes names h e =
    let both : (distinct h && every (is_one names) h) ≡ true = when-yes (distinct h && every (is_one names) h) 15 e in
    (and_left (distinct h) (every (is_one names) h) both, and_right (distinct h) (every (is_one names) h) both)

-- ---- the rows

pub refused-imported : {A : Type 0} {n k : ℕ} {t : Table} → refused n k ≡ imported t → A
refused-imported e = let z : ◌≡◌ {A = ℕ} 0 1 = cc in absurd (omega arith)

pub row-refused : (names h rs fs : List (List ℕ)) (r : Records) → (record_check h fs ≡ 0 → ⊥) → read_rows names h rs (next fs r) ≡ refused (record_check h fs) (record_place rs)
unfolding read_rows
row-refused names h rs fs r n = rw (ne_eqb (record_check h fs) 0 n)

pub header_refused : (names h : List (List ℕ)) (r : Records) → (header_check names h ≡ 0 → ⊥) → read_header names (next h r) ≡ refused (header_check names h) 1
unfolding read_header
header_refused names h r n = rw (ne_eqb (header_check names h) 0 n)

-- the rows rs, and those of records that passed
record RowsTaken (names h rs : List (List ℕ)) (r : Records) (t : Table) : Type 0 where
  records : List (List (List ℕ))
  read : r ≡ record_list records
  long : Each (λ fs. length fs ≡ length h) records
  values : Each (λ fs. every is_number fs ≡ true) records
  rows : List (List ℕ)
  sorts : rows ≡ sort_rows (rs ++ map (row_of names h) records)
  is : t ≡ table_with (columns_of names h) rows
  few : length rows ≤ max_rows

module _ (names h : List (List ℕ)) where
  tabled-taken : (rs : List (List ℕ)) {t : Table} → tabled names h rs ≡ imported t → (t ≡ table_with (columns_of names h) (sort_rows rs)) × (length (sort_rows rs) ≤ max_rows)
  tabled-taken rs {t} e =
      by (ltb max_rows (length (sort_rows rs)))
      (λ b. refused-imported (rw b at e))
      (λ f.
      let same : imported (table_with (columns_of names h) (sort_rows rs)) ≡ imported t = rw f at e in
      (cc, ltb-false max_rows (length (sort_rows rs)) f))

  rows_taken : (rs : List (List ℕ)) (r : Records) {t : Table} → read_rows names h rs r ≡ imported t → RowsTaken names h rs r t
  unfolding read_rows record_list
  rows_taken rs ended {t} e =
      let table = tabled-taken rs e in
      record { records = []; read = refl; long = none; values = none; rows = sort_rows rs; sorts = ap sort_rows (sym (append-nil rs)); is = table.0; few = table.1 }
  rows_taken rs broken e = refused-imported e
  rows_taken rs (next fs r) {t} e =
      by (eqb (record_check h fs) 0)
      (λ p.
      let passes : record_check h fs ≡ 0 = eqb-true (record_check h fs) 0 p in
      let both = record-yes h fs passes in
      let k : RowsTaken names h (rs ++ (row_of names h fs ∷ [])) r t = rows_taken (rs ++ (row_of names h fs ∷ [])) r (sym (row-taken names h rs fs r passes) ∙ e) in
      record {
        records = fs ∷ k.records;
        read = ap (next fs) k.read;
        long = more both.0 k.long;
        values = more both.1 k.values;
        rows = k.rows;
        sorts = k.sorts ∙ ap sort_rows (append_snoc rs (row_of names h fs) (map (row_of names h) k.records));
        is = k.is;
        few = k.few;
      })
      (λ f. refused-imported (sym (row-refused names h rs fs r (eqb-false (record_check h fs) 0 f)) ∙ e))

-- ---- the file

-- the file as a list of records, not one byte too many; what was asked of them; and the table
pub record Taken (names : List (List ℕ)) (s : List ℕ) (t : Table) : Type 0 where
  pub header : List (List ℕ)
  pub records : List (List (List ℕ))
  pub short : length s ≤ max_bytes
  pub read : records_of s ≡ record_list (header ∷ records)
  pub once : distinct header ≡ true
  pub known : Each (λ g. is_one names g ≡ true) header
  pub long : Each (λ fs. length fs ≡ length header) records
  pub values : Each (λ fs. every is_number fs ≡ true) records
  pub rows : List (List ℕ)
  pub sorts : rows ≡ sort_rows (map (row_of names header) records)
  pub is : t ≡ table_with (columns_of names header) rows
  pub few : length rows ≤ max_rows

header-taken-as : (names : List (List ℕ)) (s : List ℕ) (r : Records) {t : Table} → records_of s ≡ r → length s ≤ max_bytes → read_header names r ≡ imported t → Taken names s t
unfolding read_header record_list
header-taken-as names s ended is short e = refused-imported e
header-taken-as names s broken is short e = refused-imported e
header-taken-as names s (next h r) {t} is short e =
    by (eqb (header_check names h) 0)
    (λ p.
    let passes : header_check names h ≡ 0 = eqb-true (header_check names h) 0 p in
    let both = header-yes names h passes in
    let k : RowsTaken names h [] r t = rows_taken names h [] r (sym (header-taken names h r passes) ∙ e) in
    record {
      header = h;
      records = k.records;
      short = short;
      read = is ∙ ap (next h) k.read;
      once = both.0;
      known = every-each (is_one names) h both.1;
      long = k.long;
      values = k.values;
      rows = k.rows;
      sorts = k.sorts;
      is = k.is;
      few = k.few;
    })
    (λ f. refused-imported (sym (header_refused names h r (eqb-false (header_check names h) 0 f)) ∙ e))

pub file-taken : (names : List (List ℕ)) (s : List ℕ) {t : Table} → read_csv names s ≡ imported t → Taken names s t
unfolding read_csv
file-taken names s e =
    by (ltb max_bytes (length s))
    (λ b. refused-imported (rw b at e))
    (λ f. header-taken-as names s (records_of s) refl (ltb-false max_bytes (length s) f) (rw f at e))

-- ---- and back

rows_back : (names h rs : List (List ℕ)) {fss : List (List (List ℕ))} → Each (λ fs. length fs ≡ length h) fss → Each (λ fs. every is_number fs ≡ true) fss
    → read_rows names h rs (record_list fss) ≡ tabled names h (rs ++ map (row_of names h) fss)
unfolding record_list read_rows
rows_back names h rs none none = ap (tabled names h) (sym (append-nil rs))
rows_back names h rs (more {x = fs} {xs = fss} l ls) (more v vs) =
    row-taken names h rs fs (record_list fss) (check-passes h fs l v) ∙ rows_back names h (rs ++ (row_of names h fs ∷ [])) ls vs
    ∙ ap (tabled names h) (append_snoc rs (row_of names h fs) (map (row_of names h) fss))

pub taken-file : (names : List (List ℕ)) (s : List ℕ) {t : Table} → Taken names s t → read_csv names s ≡ imported t
unfolding read_csv record_list
taken-file names s {t} k =
    let h : List (List ℕ) = k.header in
    let rows : List (List ℕ) = map (row_of names h) k.records in
    let passes : header_check names h ≡ 0 = rw (k.once, each-every (is_one names) k.known) in
    let few : length (sort_rows rows) ≤ max_rows = omega (arith, k.few, ap length k.sorts) in
    rw (le-ltb max_bytes (length s) k.short)
    (ap (read_header names) k.read ∙ header-taken names h (record_list k.records) passes ∙ rows_back names h [] k.long k.values
    ∙ rw (le-ltb max_rows (length (sort_rows rows)) few) (ap imported (sym (k.is ∙ ap (table_with (columns_of names h)) k.sorts))))
