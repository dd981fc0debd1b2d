-- The records after the header, one after the other, into rows.
--   record-number  == the code's number for a record is that of its fields
--   header-arity, header-small == how many columns a header has, and that these are few
--   record-row     == the values of a record's sources are its row
--   BodyOpen l c s from at w o x p == the records before a place are kept as rows
--   body-start, body_refused, body_more == at the start; with a record that is refused; with one more
--   body_end       == at the end: too many rows, or a table
use mathlib.Core.Path.{◌≡◌, refl, sym, ap, ap₂, ◌∙◌}
use mathlib.Core.Bool.{Bool, true, false, not}
use mathlib.Core.List.{List, [], ◌∷◌, ◌++◌, map}
use Prim.Native.Nat.{ℕ, ◌+◌, ◌≤◌, ◌<◌}
use native.Mathlib.Omega.{arith}
use borrow.Author.Tests.{eqb-true, lt-ltb, le-ltb}
use lib.Dec.{eqb}
use lib.ListN.{length, drop}
use Rattle.std.specs.Prelude.{Option, None, Some, Err, is_some}
use Rattle.boxes.specs.Intervals.{pick}
use Rattle.std.specs.Option.{ok_or}
use Rattle.boxes.specs.Limits.{max_attributes}
use Rattle.boxes.proofs.Tests.{by}
use Rattle.boxes.proofs.Lists.{length-end}
use Rattle.questions.specs.Limits.{max_rows}
use Rattle.questions.specs.Questions.{when, first_of}
use Rattle.fields.specs.Fields.{every, fields_of, is_number, field_number, distinct}
use Rattle.fields.specs.Names.{top_check}
use Rattle.fields.specs.Lines.{values}
use Rattle.fields.proofs.Laws.{top_check-names}
use Rattle.csv_tables.specs.Records.{start, broken, next, records_from, follow}
use Rattle.csv_tables.specs.Columns.{sourced}
use Rattle.csv_tables.specs.Keeping.{kept_rows, RowsKept}
use Rattle.csv_tables.specs.Judging.{judged, RecordFrom, RecordSays}
use Rattle.csv_tables.specs.Imports.{refused, record_check, row_of, sort_rows, tabled, record_place, read_rows}
use Rattle.csv_tables.specs.Importing.{record_number, HeaderOf, RowsAsk, BodySays}
use Rattle.csv_tables.specs.Refusals.{refusal_number}
use Rattle.csv_tables.specs.declared.refusal.FileRefusal.{FileRefusal}
use Rattle.csv_tables.specs.declared.refusal.FileRefusal.TheVariants.{Rows}
use Rattle.csv_tables.specs.declared.record.Record.{Record}
use Rattle.csv_tables.proofs.Steps.{follow-at, follow-end}
use Rattle.csv_tables.proofs.Taking.{row-refused}
use Rattle.csv_tables.proofs.RoundTrip.{row-taken}
use Rattle.csv_tables.proofs.TopLines.{line-names}
use Rattle.csv_tables.proofs.RecordFields.{numbers-read}
use Rattle.csv_tables.proofs.RefusalNumbers.{refusal-some}
use Rattle.csv_tables.proofs.HeaderNumbers.{sourced-array, header-few, sources-count}
use Rattle.csv_tables.proofs.KeptRows.{keep-long}
use Rattle.csv_tables.proofs.TablePuts.{kept-none}

-- ---- a header

module _ (l : List ℕ) (top : top_check l ≡ 0) {c : List ℕ} (h : HeaderOf (fields_of l) c) where
  known-names : distinct (fields_of l) ≡ true
  known-names = (line-names l top).once

  pub header-arity : length c ≡ length h.texts
  header-arity = ap length h.columns ∙ sources-count (fields_of l) known-names h.texts h.known h.once

  pub header-small : length c ≤ max_attributes
  header-small = omega (arith, header-arity, header-few (fields_of l) known-names h.texts h.known h.once, (top_check-names l top).few)

  -- the values of a record's sources, where it has as many fields as the header has (fields_of l)
  pub record-row : (fs : List (List ℕ)) {vs : List ℕ} → vs ≡ values (map field_number fs) → length fs ≡ length h.texts
      → sourced c vs ≡ row_of (fields_of l) h.texts fs
  record-row fs e long =
      let few : length fs ≤ max_attributes = omega (arith, header-arity, header-small) in
      ap₂ sourced h.columns e ∙ sourced-array (fields_of l) known-names h.texts h.known fs few

-- ---- a record

-- the values of a record's fields
abbrev numbers_given : List (List ℕ) → Option (List ℕ)
numbers_given fs = pick (every is_number fs) (Some (values (map field_number fs))) None

given-some : (fs : List (List ℕ)) → is_some (numbers_given fs) ≡ every is_number fs
given-some fs = by (every is_number fs) (λ t. rw t) (λ f. rw f)

given-is : (fs : List (List ℕ)) {vs : List ℕ} → Some vs ≡ numbers_given fs → vs ≡ values (map field_number fs)
given-is fs {vs} e =
    by (every is_number fs)
    (λ t. let is : Some vs ≡ Some (values (map field_number fs)) = rw t at e in cc)
    (λ f. let no : Some vs ≡ None = rw f at e in cc)

-- the number for a record within the grammar, by its fields
record-number : (k : ℕ) (fs h : List (List ℕ)) (x : Record) → x.count ≡ length fs → x.values ≡ numbers_given fs → k ≡ length h → record_number (Some x) k ≡ record_check h fs
record-number k fs h x count e is =
    ap₂ (λ (b d : Bool). first_of (when (not b) 18) (when (not d) 19)) (ap₂ eqb count is) (ap is_some e ∙ given-some fs)

-- ---- the records before a place

pub record BodyOpen (l c s : List ℕ) (from at : ℕ) (w o : List ℕ) (x : Option ℕ) (p : ℕ) : Type 0 where
  pub rows : List (List ℕ)
  pub kept : RowsKept (length c) w o x rows
  pub within : at ≤ length s
  pub few : length rows ≤ at
  pub place : p ≡ record_place rows
  pub reads : (h : HeaderOf (fields_of l) c) → read_rows (fields_of l) h.texts [] (follow (drop from s)) ≡ read_rows (fields_of l) h.texts rows (follow (drop at s))

pub body-start : {s : List ℕ} {from : ℕ} {c w o : List ℕ} (a : RowsAsk s from c w o) → BodyOpen a.names c s from from w o (Some 0) 2
body-start {c = c} {w = w} {o = o} a = record {
  rows = [];
  kept = kept-none (length c) w o (header-small a.names a.named a.header) a.rows_long a.order-long;
  within = a.within;
  few = omega arith;
  place = refl;
  reads = λ h. refl;
}

module _ (l : List ℕ) (top : top_check l ≡ 0) {c s : List ℕ} {from at : ℕ} {w o : List ℕ} {x : Option ℕ} {p : ℕ} (b : BodyOpen l c s from at w o x p) where
  module _ (low : at < length s) where
    goes : (h : HeaderOf (fields_of l) c) → read_rows (fields_of l) h.texts [] (follow (drop from s)) ≡ read_rows (fields_of l) h.texts b.rows (records_from start [] [] (drop at s))
    goes h = b.reads h ∙ ap (read_rows (fields_of l) h.texts b.rows) (follow-at s at low)

    broken-refused : (h : HeaderOf (fields_of l) c) (rs : List (List ℕ)) → read_rows (fields_of l) h.texts rs broken ≡ refused 18 (record_place rs)
    unfolding read_rows
    broken-refused h rs = refl

    module _ {r : Record} (says : RecordFrom (judged (fields_of l) false) s at r) where
      abbrev fs : List (List ℕ)
      fs = says.texts

      given : r.values ≡ numbers_given fs
      given = says.values ∙ numbers-read (fields_of l) fs

      passes-on : (h : HeaderOf (fields_of l) c) → read_rows (fields_of l) h.texts [] (follow (drop from s)) ≡ read_rows (fields_of l) h.texts b.rows (next fs (follow (drop r.next s)))
      passes-on h = goes h ∙ ap (read_rows (fields_of l) h.texts b.rows) says.reads

      check : (h : HeaderOf (fields_of l) c) → record_number (Some r) (length c) ≡ record_check h.texts fs
      check h = record-number (length c) fs h.texts r says.count given (header-arity l top h)

      refused-here : {n : ℕ} → record_number (Some r) (length c) ≡ n → (n ≡ 0 → ⊥) → (h : HeaderOf (fields_of l) c)
          → read_rows (fields_of l) h.texts [] (follow (drop from s)) ≡ refused n p
      refused-here {n} e some h =
          let is : record_check h.texts fs ≡ n = sym (check h) ∙ e in
          passes-on h ∙ row-refused (fields_of l) h.texts b.rows fs (follow (drop r.next s)) (λ z. some (sym is ∙ z)) ∙ ap₂ refused is (sym b.place)

      -- whatever header it is, a record that passes has as many fields as that has names
      pub body_more : record_number (Some r) (length c) ≡ 0 → (vs : List ℕ) → Some vs ≡ r.values → {w' o' : List ℕ} {x' : Option ℕ}
          → RowsKept (length c) w' o' x' (b.rows ++ (sourced c vs ∷ []))
          → BodyOpen l c s from r.next w' o' x' (p + 1)
      body_more e vs v k = record {
        rows = b.rows ++ (row ∷ []);
        kept = k;
        within = says.within;
        few = omega (arith, length-end b.rows row, b.few, says.onward low);
        place = omega (arith, b.place, length-end b.rows row);
        reads = λ h.
            let zero : record_check h.texts fs ≡ 0 = sym (check h) ∙ e in
            passes-on h
            ∙ row-taken (fields_of l) h.texts b.rows fs (follow (drop r.next s)) zero
            ∙ ap (λ (q : List ℕ). read_rows (fields_of l) h.texts (b.rows ++ (q ∷ [])) (follow (drop r.next s))) (sym (record-row l top h fs (given-is fs (v ∙ given)) (long h zero)));
      }
        where
          row : List ℕ
          row = sourced c vs

          wide : (h : List (List ℕ)) → eqb (length fs) (length h) ≡ false → record_check h fs ≡ 0 → ⊥
          wide h f z = let no : ◌≡◌ {A = ℕ} 18 0 = rw f at z in omega arith

          long : (h : HeaderOf (fields_of l) c) → record_check h.texts fs ≡ 0 → length fs ≡ length h.texts
          long h z = by (eqb (length fs) (length h.texts)) (λ t. eqb-true (length fs) (length h.texts) t) (λ f. absurd (wide h.texts f z))

    refused-rows : (r : Option Record) → RecordSays (judged (fields_of l) false) s at r → {n : ℕ} → record_number r (length c) ≡ n → (n ≡ 0 → ⊥) → (h : HeaderOf (fields_of l) c)
        → read_rows (fields_of l) h.texts [] (follow (drop from s)) ≡ refused n p
    refused-rows None says e some h = goes h ∙ ap (read_rows (fields_of l) h.texts b.rows) says ∙ broken-refused h b.rows ∙ ap₂ refused e (sym b.place)
    refused-rows (Some r) says e some h = refused-here says e some h

    pub body_refused : (r : Option Record) → RecordSays (judged (fields_of l) false) s at r → (why : FileRefusal) → record_number r (length c) ≡ refusal_number why
        → (h : HeaderOf (fields_of l) c) → BodySays (fields_of l) h.texts (length c) s from w o (Err (record { why = why; place = Some p }))
    body_refused r says why e h = record {
      rows_long = b.kept.rows_long;
      order-long = b.kept.order-long;
      rows = tt;
      reads = refused-rows r says e (refusal-some why) h;
    }

  -- the file's end
  ended-rows : (h : HeaderOf (fields_of l) c) → length s ≤ at → read_rows (fields_of l) h.texts [] (follow (drop from s)) ≡ tabled (fields_of l) h.texts b.rows
  unfolding read_rows
  ended-rows h e = b.reads h ∙ ap (read_rows (fields_of l) h.texts b.rows) (follow-end s at e)

-- at the end
pub body_end : (l : List ℕ) {c s : List ℕ} {from at : ℕ} {w o : List ℕ} (x : Option ℕ) {p : ℕ} → top_check l ≡ 0 → BodyOpen l c s from at w o x p → length s ≤ at → (h : HeaderOf (fields_of l) c)
    → BodySays (fields_of l) h.texts (length c) s from w o (ok_or x (record { why = Rows; place = None }))
body_end l None top b e h = record {
  rows_long = b.kept.rows_long;
  order-long = b.kept.order-long;
  rows = tt;
  reads = ended-rows l top b h e ∙ rw (lt-ltb max_rows (length (sort_rows b.rows)) b.kept.is);
}
body_end l {c} {w = w} {o = o} (Some m) top b e h =
    let is : kept_rows (length c) w o m ≡ sort_rows b.rows = b.kept.is.2 in
    let low : length (sort_rows b.rows) ≤ max_rows = omega (arith, ap length is, keep-long (length c) w o m b.rows b.kept, b.kept.is.0) in
    record {
      rows_long = b.kept.rows_long;
      order-long = b.kept.order-long;
      rows = (b.kept.is.0, b.kept.is.1);
      reads = ended-rows l top b h e ∙ rw (le-ltb max_rows (length (sort_rows b.rows)) low, ← is);
    }
