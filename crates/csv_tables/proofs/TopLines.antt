-- The same after a names' line that passed 15 and 16.
--   line-names     == its fields are names as in document 01
--   import-read    == after it the file is read
--   import-names, import-long, import-file == a line of names that does not pass; a file that is too long; else the file is read
--   names-long     == a line that is too long is refused as one that has not the form of names
--   top-pass, top-refused == a line that passes, or not, by its answer
--   line-round-trip == what is exported under these names is imported under them
use mathlib.Core.Path.{◌≡◌, refl, ◌∙◌}
use mathlib.Core.Bool.{Bool, true, false, not}
use mathlib.Core.List.{List}
use Prim.Native.Nat.{ℕ, ◌+◌, ◌*◌, ◌≤◌, ◌<◌}
use native.Mathlib.Omega.{arith}
use Rattle.std.specs.Prelude.{Ok, Err}
use Rattle.boxes.specs.Intervals.{pick}
use borrow.Author.Tests.{eq-eqb, ne_eqb, lt-ltb, le-ltb}
use lib.ListN.{length}
use Rattle.boxes.specs.Limits.{max_attributes}
use Rattle.questions.specs.Questions.{when, first_of}
use Rattle.fields.specs.Limits.{max_bytes, max_name}
use Rattle.fields.specs.Fields.{fields_of, distinct}
use Rattle.fields.specs.Names.{form, are_names, top_check, top_of, refusal_number as names_refusal}
use Rattle.fields.specs.declared.lines.NamesRefusal.{NamesRefusal}
use Rattle.fields.specs.declared.lines.NamesRefusal.TheVariants.{Malformed, Repeated}
use Rattle.fields.proofs.Laws.{TopNames, top_check-names, top-long}
use Rattle.csv_tables.specs.Imports.{refused, read_header, read_csv, import_csv}
use Rattle.csv_tables.specs.Records.{records_of}
use Rattle.csv_tables.specs.Exports.{export_csv}
use Rattle.csv_tables.specs.Claims.{Names, LineRoundTrip}
use Rattle.questions.proofs.Laws.{when-yes, first-yes}
use Rattle.csv_tables.proofs.RoundTrip.{round_trip}

pub line-names : (l : List ℕ) → top_check l ≡ 0 → Names (fields_of l)
line-names l e =
    let fs : List (List ℕ) = fields_of l in
    let top : TopNames fs = top_check-names l e in
    record {
      some = top.some;
      named = top.each;
      once = when-yes (distinct fs) 15 (first-yes (form (are_names max_attributes fs)) (when (not (distinct fs)) 16) e).1;
    }

pub import-read : (l s : List ℕ) → top_check l ≡ 0 → import_csv l s ≡ read_csv (fields_of l) s
unfolding import_csv
import-read l s e = rw (eq-eqb (top_check l) 0 e)

module _ (l s : List ℕ) where
  pub import-names : (top_check l ≡ 0 → ⊥) → import_csv l s ≡ refused (top_check l) 0
  unfolding import_csv
  import-names n = rw (ne_eqb (top_check l) 0 n)

  module _ (e : top_check l ≡ 0) where
    pub import-long : max_bytes < length s → import_csv l s ≡ refused 17 0
    unfolding read_csv
    import-long h = import-read l s e ∙ rw (lt-ltb max_bytes (length s) h)

    pub import-file : length s ≤ max_bytes → import_csv l s ≡ read_header (fields_of l) (records_of s)
    unfolding read_csv
    import-file h = import-read l s e ∙ rw (le-ltb max_bytes (length s) h)

pub line-round-trip : LineRoundTrip
line-round-trip l ts e listed short =
    import-read l (export_csv (fields_of l) ts) e ∙ round_trip (fields_of l) ts (line-names l e) listed short

-- a line that is too long
module _ (l : List ℕ) where
  wrong-names : (a d : Bool) (n : ℕ) → first_of (form a) (when (not d) 16) ≡ 15 → Err Malformed ≡ pick a (pick d (Ok n) (Err Repeated)) (Err Malformed)
  wrong-names true true n e = absurd (omega (arith, e))
  wrong-names true false n e = absurd (omega (arith, e))
  wrong-names false d n e = refl

  pub names-long : max_attributes * (max_name + 1) ≤ length l → Err Malformed ≡ top_of l
  names-long h = wrong-names (are_names max_attributes (fields_of l)) (distinct (fields_of l)) (length (fields_of l)) (top-long l h)

-- what the answer to the line says of its number
names-pass : (a d : Bool) (k : ℕ) {n : ℕ} → Ok n ≡ pick a (pick d (Ok k) (Err Repeated)) (Err Malformed) → (first_of (form a) (when (not d) 16) ≡ 0) × (n ≡ k)
names-pass true true k e = (refl, cc)
names-pass true false k e = cc
names-pass false d k e = cc

names-refused : (a d : Bool) (k : ℕ) {r : NamesRefusal} → Err r ≡ pick a (pick d (Ok k) (Err Repeated)) (Err Malformed) → first_of (form a) (when (not d) 16) ≡ names_refusal r
names-refused true true k e = cc
names-refused true false k {r} e = let same : r ≡ Repeated = cc in rw same
names-refused false d k {r} e = let same : r ≡ Malformed = cc in rw same

module _ (l : List ℕ) where
  pub top-pass : {n : ℕ} → Ok n ≡ top_of l → (top_check l ≡ 0) × (n ≡ length (fields_of l))
  top-pass e = names-pass (are_names max_attributes (fields_of l)) (distinct (fields_of l)) (length (fields_of l)) e

  pub top-refused : {r : NamesRefusal} → Err r ≡ top_of l → top_check l ≡ names_refusal r
  top-refused e = names-refused (are_names max_attributes (fields_of l)) (distinct (fields_of l)) (length (fields_of l)) e
