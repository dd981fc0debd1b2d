-- The export: how the file is put, what its answers say, and that it is imported again.
--   export_is      == the file, written out
--   file-puts      == the names, the line's end and the tuples' lines, put one after the other, are the file
--   counted-capped == a count that was capped before
--   check_both, check-listing, check-names == the number for the names and the listing: both pass, the listing does not, the names do not
--   refused-some   == no refusal has the number 0
--   says-refused, says-lacking, says-written == the answers: a refusal, no room, the file
--   export-tuples  == tuples that stand one after the other are exported as these tuples
--   export-passes  == their listing passes
--   export-import  == and they are imported again
--   there_and_back == so in the bytes and words of two calls
use mathlib.Core.Path.{◌≡◌, refl, sym, ap, ap₂, subst, ◌∙◌}
use mathlib.Core.Bool.{Bool, true, false, not}
use mathlib.Core.List.{List, ◌∷◌, ◌++◌, map, map-map}
use Prim.Native.Nat.{ℕ, ◌%◌, ◌≤◌, ◌<◌}
use native.Mathlib.Omega.{arith}
use borrow.Author.Tests.{ltb-true, ltb-false, lt-ltb, le-ltb, le-leb, lt-leb, eq-eqb, ne_eqb}
use lib.Dec.{eqb, ltb}
use lib.ListN.{length, take, drop}
use lib.Seq.{take-append_seam}
use Rattle.boxes.specs.Fits.{Each}
use Rattle.boxes.proofs.Tests.{by}
use Rattle.questions.specs.Questions.{when, first_of}
use Rattle.questions.specs.Words.{flat, over, table_words}
use Rattle.questions.proofs.Laws.{flat-more, first-no}
use Rattle.fields.specs.Limits.{max_bytes, farthest, capped}
use Rattle.fields.specs.Fields.{fields_of}
use Rattle.fields.specs.Names.{top_check, refusal_number as names_refusal}
use Rattle.fields.specs.declared.lines.NamesRefusal.{NamesRefusal}
use Rattle.fields.specs.Puts.{Puts, PrintsWith}
use Rattle.fields.specs.Writing.{joined, tuples_by, tuples_of}
use Rattle.fields.proofs.Laws.{at_most-low, at_most-high, capped-most, capped-within, puts_then, puts-same, tuples_of-flat, flat-whole}
use Rattle.csv_tables.specs.Records.{comma}
use Rattle.csv_tables.specs.Imports.{Imported, imported, import_csv}
use Rattle.csv_tables.specs.Exports.{csv_end, csv_line, value_fields, export_csv}
use Rattle.csv_tables.specs.Claims.{Listed, listed_table, ThereAndBack}
use Rattle.csv_tables.specs.Says.{import_number, import_words, exported, export_check, highest_count, counted, export_with, export_number, ExportSays}
use Rattle.csv_tables.specs.Exporting.{export_refusal_number}
use Rattle.csv_tables.specs.declared.export.ExportRefusal.{ExportRefusal}
use Rattle.csv_tables.specs.declared.export.ExportRefusal.TheVariants.{Names, Listing}
use Rattle.csv_tables.specs.declared.refusal.FileRefusal.TheVariants.{Names as FileNames}
use Rattle.csv_tables.proofs.RefusalNumbers.{refusal-some}
use Rattle.csv_tables.proofs.TopLines.{line-names, line-round-trip}

-- ---- the file

pub export_is : (names ts : List (List ℕ)) → export_csv names ts ≡ flat (map csv_line (names ∷ map value_fields ts))
unfolding export_csv
export_is names ts = refl

file-lines : (names ts : List (List ℕ)) → export_csv names ts ≡ joined comma names ++ csv_end ++ tuples_by comma csv_end ts
file-lines names ts = export_is names ts ∙ flat-more (csv_line names) (map csv_line (map value_fields ts)) ∙ ap (λ (ls : List (List ℕ)). csv_line names ++ flat ls) (map-map csv_line value_fields ts)

pub file-puts : (names ts : List (List ℕ)) {o o₁ o₂ o₃ : List ℕ} {at a b d : ℕ} → Puts (joined comma names) at o o₁ a → Puts csv_end a o₁ o₂ b
    → Puts (tuples_by comma csv_end ts) b o₂ o₃ d → Puts (export_csv names ts) at o o₃ d
file-puts names ts p q r = puts-same (file-lines names ts) refl refl (puts_then (puts_then p q) r)

-- ---- counts

pub counted-capped : (n : ℕ) → counted (capped n) ≡ counted n
counted-capped n =
    by (ltb n farthest)
    (λ t. let is : capped n ≡ n = rw t in ap counted is)
    (λ f.
    let far : farthest ≤ n = ltb-false n farthest f in
    let is : capped n ≡ farthest = rw f in
    ap counted is ∙ sym (at_most-high highest_count n (omega arith)))

-- ---- the number for the names and the listing

module _ (l v : List ℕ) where
  module _ {n : ℕ} (passed : top_check l ≡ 0) (many : n ≡ length (fields_of l)) where
    after-top : export_check l v ≡ when (not (eqb (length v % n) 0)) 3
    after-top = ap (λ (a : ℕ). first_of a (when (not (eqb (length v % length (fields_of l)) 0)) 3)) passed ∙ ap (λ (k : ℕ). when (not (eqb (length v % k) 0)) 3) (sym many)

    pub check_both : length v % n ≡ 0 → export_check l v ≡ 0
    check_both e = after-top ∙ ap (λ (b : Bool). when (not b) 3) (eq-eqb (length v % n) 0 e)

    pub check-listing : (length v % n ≡ 0 → ⊥) → export_check l v ≡ 3
    check-listing e = after-top ∙ ap (λ (b : Bool). when (not b) 3) (ne_eqb (length v % n) 0 e)

  pub check-names : (r : NamesRefusal) → top_check l ≡ names_refusal r → export_check l v ≡ names_refusal r
  check-names r e = first-no (top_check l) (when (not (eqb (length v % length (fields_of l)) 0)) 3) (λ z. refusal-some (FileNames r) (omega (arith, e, z))) ∙ e

-- ---- the answers

refused-some : (r : ExportRefusal) → export_refusal_number r ≡ 0 → ⊥
refused-some (Names r) e = refusal-some (FileNames r) e
refused-some Listing e = omega arith

pub says-refused : (l v o : List ℕ) (r : ExportRefusal) → export_check l v ≡ export_refusal_number r → {m : ℕ} → m ≡ export_refusal_number r → ExportSays l v o o (export_with m 0)
says-refused l v o r e {m} d =
    let some : export_check l v ≡ 0 → ⊥ = λ z. refused-some r (omega (arith, e, z)) in
    let is : export_number l v o ≡ export_check l v = first-no (export_check l v) (when (ltb (length o) (length (exported l v))) 13) some in
    let no : eqb (export_check l v) 0 ≡ false = ne_eqb (export_check l v) 0 some in
    record {
      number = omega (arith, d, e, is);
      count = rw no refl;
      bytes = rw (is, no) refl;
    }

module _ (l v : List ℕ) {o o' : List ℕ} {n r : ℕ} (passes : export_check l v ≡ 0) (short : length o < farthest) (many : n ≡ length (fields_of l))
    (print : PrintsWith (export_csv (fields_of l) (tuples_of n v)) o o' r) where
  p : PrintsWith (exported l v) o o' r
  p = subst (λ (k : ℕ). PrintsWith (export_csv (fields_of l) (tuples_of k v)) o o' r) many print

  count-is : counted r ≡ counted (length (exported l v))
  count-is = ap counted p.count ∙ counted-capped (length (exported l v))

  pub says-lacking : length o < r → ExportSays l v o o' (export_with 13 (counted r))
  says-lacking h =
      let long : length o < length (exported l v) = omega (arith, p.count, capped-most (length (exported l v))) in
      let lacks : ltb (length o) (length (exported l v)) ≡ true = lt-ltb (length o) (length (exported l v)) long in
      record {
        number = rw (passes, lacks);
        count = rw passes count-is;
        bytes = rw (passes, lacks) (p.bytes ∙ rw (lt-leb (length (exported l v)) (length o) long));
      }

  pub says-written : r ≤ length o → ExportSays l v o o' (export_with 0 (counted r))
  says-written h =
      let fits : length (exported l v) ≤ length o = capped-within (length (exported l v)) (length o) (omega (arith, p.count)) short in
      let room : ltb (length o) (length (exported l v)) ≡ false = le-ltb (length o) (length (exported l v)) fits in
      record {
        number = rw (passes, room);
        count = rw passes count-is;
        bytes = rw (passes, room) (p.bytes ∙ rw (le-leb (length (exported l v)) (length o) fits));
      }

-- ---- the export is imported again

module _ (l : List ℕ) {ts : List (List ℕ)} (passed : top_check l ≡ 0) (long : Each (λ t. length t ≡ length (fields_of l)) ts) where
  pub export-tuples : exported l (flat ts) ≡ export_csv (fields_of l) ts
  export-tuples = ap (export_csv (fields_of l)) (tuples_of-flat long (line-names l passed).some)

  pub export-passes : export_check l (flat ts) ≡ 0
  export-passes = check_both l (flat ts) passed refl (flat-whole long)

pub export-import : (l : List ℕ) (ts : List (List ℕ)) → top_check l ≡ 0 → Listed (length (fields_of l)) ts → length (exported l (flat ts)) ≤ max_bytes
    → import_csv l (exported l (flat ts)) ≡ imported (listed_table l ts)
export-import l ts passed listed short =
    let is : exported l (flat ts) ≡ export_csv (fields_of l) ts = export-tuples l passed listed.long in
    ap (import_csv l) is ∙ line-round-trip l ts passed listed (omega (arith, short, ap length is))

-- a file that is not too long is counted exactly
counted-short : (n : ℕ) → counted n ≤ max_bytes → counted n ≡ n
counted-short n h =
    by (ltb n highest_count)
    (λ t. at_most-low highest_count n (omega (arith, ltb-true n highest_count t)))
    (λ f. absurd (omega (arith, h, at_most-high highest_count n (ltb-false n highest_count f))))

pub there_and_back : ThereAndBack
there_and_back l ts o o' w w' x r passed listed ex done few im room =
    let bytes : List ℕ = exported l (flat ts) in
    let passes : export_check l (flat ts) ≡ 0 = export-passes l passed listed.long in
    let count : x.count ≡ counted (length bytes) = ex.count ∙ rw passes in
    let exact : counted (length bytes) ≡ length bytes = counted-short (length bytes) (omega (arith, few, count)) in
    let written : o' ≡ over bytes o = ex.bytes ∙ rw (sym ex.number ∙ done) in
    let file : take x.count o' ≡ bytes = ap₂ take (count ∙ exact) written ∙ take-append_seam bytes (drop (length bytes) o) in
    let is : import_csv l (take x.count o') ≡ imported (listed_table l ts) = ap (import_csv l) file ∙ export-import l ts passed listed (omega (arith, few, count, exact)) in
    let fits : ltb (length w) (length (table_words (listed_table l ts))) ≡ false = le-ltb (length w) (length (table_words (listed_table l ts))) room in
    (im.number ∙ ap (λ (y : Imported). import_number y w) is ∙ rw fits, im.words ∙ ap (λ (y : Imported). import_words y w) is ∙ rw fits)
