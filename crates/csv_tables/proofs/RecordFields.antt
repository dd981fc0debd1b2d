-- A record read field by field.
--   judged-field   == what the code finds of a field is what its bytes stand for, also where a quote is doubled in them
--   some-right, value-or == whether a field stands for something, and for what, in the library's words
--   quoteless      == a field with a quote is no name, and no value
--   RecordOpen j s from at n b vs == the fields of a record before a place
--   RecordField j s from x n b vs == the same with the field that was read last, and what follows it
--   record-start, record-field == no field yet; one field more
--   record-comma, record-line, record-broken == what follows
--   every-alike, map-alike == tests and functions that are alike on each element
--   numbers-read   == the fields of a later record stand for their values
--   places-right, places-read == those of the header stand for something if all are known, and then for their places
use mathlib.Core.Path.{◌≡◌, refl, sym, ap, ap₂, ◌∙◌}
use mathlib.Core.Bool.{Bool, true, false, ◌&&◌}
use mathlib.Core.List.{List, [], ◌∷◌, ◌++◌, map, map-append}
use Prim.Native.Nat.{ℕ, suc, ◌≤◌, ◌<◌}
use native.Mathlib.Numerals.{add-one}
use native.Mathlib.Omega.{arith}
use borrow.Author.Tests.{ltb-true, ltb-false}
use lib.Dec.{ltb}
use lib.ListN.{length, set, drop, replicate, length-map}
use lib.Seq.{take_all, take-append-le, set_out}
use denote.Ref.{Bor}
use Rattle.std.specs.Prelude.{Option, None, Some, is_some}
use Rattle.std.specs.Option.{unwrap_or}
use Rattle.std.specs.Bool.{then_some}
use Rattle.boxes.specs.Limits.{max_attributes}
use Rattle.boxes.specs.Intervals.{pick}
use Rattle.boxes.specs.Fits.{Each, none, more}
use Rattle.boxes.proofs.Tests.{by}
use Rattle.boxes.proofs.Lists.{length-end, mem-each, each-imp}
use Rattle.fields.specs.Limits.{farthest, onward}
use Rattle.fields.specs.Fields.{every, fields_of, is_number, field_number, place, is_one}
use Rattle.fields.specs.Names.{top_check}
use Rattle.fields.specs.Lines.{number_in, place_in, is_right, value_in, values}
use Rattle.fields.proofs.Laws.{every-none, every-end, every-each, right-number, value-number, length_front, filled_to-set, onward_near, top_check-names}
use Rattle.csv_tables.specs.Records.{start, records_from}
use Rattle.csv_tables.specs.Reading.{after_fields, Onward, TextSays, FieldFrom, FieldSays}
use Rattle.csv_tables.specs.Judging.{judged, NoQuotes, fields_read, RecordFrom, RecordSays}
use Rattle.csv_tables.specs.declared.field.After.{After}
use Rattle.csv_tables.specs.declared.field.After.TheVariants.{Comma, Line}
use Rattle.csv_tables.specs.declared.field.Field.{Field}
use Rattle.csv_tables.proofs.Quotes.{quote-no-value, quote-no-name}

-- ---- what a field stands for

-- what the code finds of a field
-- by the text that it has
abbrev pub judged_text : (List ℕ → Option ℕ) → Option (Bor (List ℕ)) → Option ℕ
judged_text j None = None
judged_text j (Some t) = j t.now

text-judged : {j : List ℕ → Option ℕ} → NoQuotes j → (t : Option (Bor (List ℕ))) {bs : List ℕ} → TextSays t bs → judged_text j t ≡ j bs
text-judged quotes None {bs} says = sym (quotes bs says)
text-judged {j} quotes (Some t) says = ap j says

pub judged-field : {j : List ℕ → Option ℕ} → NoQuotes j → {s : List ℕ} {at : ℕ} {x : Field} {n : Option ℕ} → (f : FieldFrom start s at x) → n ≡ judged_text j x.text → n ≡ j f.bytes
judged-field quotes {x = x} f e = e ∙ text-judged quotes x.text f.text

-- a field with a quote is no name, and no value
pub quoteless : (l : List ℕ) (b : Bool) → top_check l ≡ 0 → NoQuotes (judged (fields_of l) b)
quoteless l true top f m = rw (quote-no-name f m (fields_of l) (top_check-names l top).each)
quoteless l false top f m = rw (quote-no-value f m)

-- in the library's words
pub some-right : (v : Option ℕ) → is_some v ≡ is_right v
some-right None = refl
some-right (Some v) = refl

pub value-or : (v : Option ℕ) → unwrap_or v 0 ≡ value_in v
value-or None = refl
value-or (Some v) = refl

-- ---- the fields of a record

-- the array after one value more
values-more : (xs : List ℕ) (v : ℕ) → set (values xs) (length xs) v ≡ values (xs ++ (v ∷ []))
values-more xs v =
    by (ltb (length xs) max_attributes)
    (λ t.
    let h : length xs < max_attributes = ltb-true (length xs) max_attributes t in
    rw (take_all max_attributes xs (omega arith), take_all max_attributes (xs ++ (v ∷ [])) (omega (arith, length-end xs v))) (filled_to-set max_attributes 0 xs v h))
    (λ e.
    let h : max_attributes ≤ length xs = ltb-false (length xs) max_attributes e in
    rw (take-append-le max_attributes xs (v ∷ []) h) (set_out (values xs) (length xs) v (omega (arith, length_front max_attributes 0 xs))))

module _ (j : List ℕ → Option ℕ) where
  -- n fields before the place `at`; b, whether each stands for something; their values
  pub record RecordOpen (s : List ℕ) (from at n : ℕ) (b : Bool) (vs : List ℕ) : Type 0 where
    pub texts : List (List ℕ)
    pub count : n ≡ length texts
    pub right : b ≡ every (λ f. is_right (j f)) texts
    pub is : vs ≡ values (map (λ f. value_in (j f)) texts)
    pub reads : records_from start [] [] (drop from s) ≡ records_from start texts [] (drop at s)
    pub after : from ≤ at
    pub few : length texts ≤ at

  -- the same with the field that was read last, and what follows it
  pub record RecordField (s : List ℕ) (from : ℕ) (x : After) (n : ℕ) (b : Bool) (vs : List ℕ) : Type 0 where
    pub texts : List (List ℕ)
    pub count : n ≡ length texts
    pub right : b ≡ every (λ f. is_right (j f)) texts
    pub is : vs ≡ values (map (λ f. value_in (j f)) texts)
    pub reads : records_from start [] [] (drop from s) ≡ after_fields s texts (Some x)
    pub at : ℕ
    pub behind : from ≤ at
    pub inside : at ≤ length s
    pub few : length texts ≤ suc at
    pub onward : Onward at s (Some x)

  pub record-start : (s : List ℕ) (from : ℕ) → RecordOpen s from from 0 true (replicate max_attributes 0)
  record-start s from = record {
    texts = [];
    count = refl;
    right = sym (every-none (λ f. is_right (j f)));
    is = refl;
    reads = refl;
    after = omega arith;
    few = omega arith;
  }

  pub record-field : {s : List ℕ} {from at n m : ℕ} {b c : Bool} {vs ws : List ℕ} {z : Field} {v : Option ℕ} → length s < farthest → at ≤ length s → RecordOpen s from at n b vs
      → (f : FieldFrom start s at z) → v ≡ j f.bytes → m ≡ onward n 1 → c ≡ (b && is_right v) → ws ≡ set vs n (value_in v) → RecordField s from z.after m c ws
  record-field {s} {from} {at} {n} {m} {b} {c} {vs} {ws} {z} {v} short inside o f e next both put =
      let g : List ℕ = f.bytes in
      let right : List ℕ → Bool = λ t. is_right (j t) in
      let value : List ℕ → ℕ = λ t. value_in (j t) in
      let fs : List (List ℕ) = o.texts in
      let long : n ≡ length (map value fs) = o.count ∙ sym (length-map fs value) in
      record {
        texts = fs ++ (g ∷ []);
        count = next ∙ onward_near n 1 (omega (arith, o.count, o.few)) ∙ add-one n ∙ ap suc o.count ∙ sym (length-end fs g);
        right = both ∙ ap₂ ◌&&◌ o.right (ap is_right e) ∙ sym (every-end right fs g);
        is = put ∙ ap (set vs n) (ap value_in e) ∙ rw (o.is, long) (values-more (map value fs) (value g)) ∙ ap values (sym (map-append value fs (g ∷ [])));
        reads = o.reads ∙ f.reads fs;
        at = at;
        behind = o.after;
        inside = inside;
        few = omega (arith, length-end fs g, o.few);
        onward = f.onward;
      }

  module _ {s : List ℕ} {from : ℕ} {n : ℕ} {b : Bool} {vs : List ℕ} where
    pub record-comma : {at : ℕ} → RecordField s from (Comma at) n b vs → RecordOpen s from at n b vs
    record-comma r = record {
      texts = r.texts;
      count = r.count;
      right = r.right;
      is = r.is;
      reads = r.reads;
      after = omega (arith, r.behind, r.onward.0);
      few = omega (arith, r.few, r.onward.0);
    }

    pub record-line : {at : ℕ} → RecordField s from (Line at) n b vs → RecordFrom j s from (record { count = n; values = then_some b vs; next = at })
    record-line r = record {
      texts = r.texts;
      count = r.count;
      values = by b (λ t. rw (t, sym r.right ∙ t) (ap Some r.is)) (λ f. rw (f, sym r.right ∙ f));
      reads = r.reads;
      within = r.onward.1;
      onward = λ l. behind r l;
    }
      where
        behind : {at : ℕ} (q : RecordField s from (Line at) n b vs) → from < length s → from < at
        behind q l = by (ltb q.at (length s))
            (λ t. omega (arith, q.behind, q.onward.2 (ltb-true q.at (length s) t)))
            (λ f. omega (arith, q.inside, ltb-false q.at (length s) f, q.onward.0))

  pub record-broken : {s : List ℕ} {from at n : ℕ} {b : Bool} {vs : List ℕ} → RecordOpen s from at n b vs → FieldSays start s at None → RecordSays j s from None
  record-broken o b = o.reads ∙ b o.texts

-- ---- the fields of a later record, and those of the header

every-alike : {A : Type 0} (p q : A → Bool) → ((x : A) → p x ≡ q x) → (xs : List A) → every p xs ≡ every q xs
unfolding every
every-alike p q e [] = refl
every-alike p q e (x ∷ xs) = ap₂ ◌&&◌ (e x) (every-alike p q e xs)

pub map-alike : {A B : Type 0} (p q : A → B) {xs : List A} → Each (λ x. p x ≡ q x) xs → map p xs ≡ map q xs
map-alike p q none = refl
map-alike p q (more e r) = ap₂ ◌∷◌ e (map-alike p q r)

pub numbers-read : (names fs : List (List ℕ)) → fields_read (judged names false) fs ≡ pick (every is_number fs) (Some (values (map field_number fs))) None
numbers-read names fs =
    ap₂ (λ (b : Bool) (vs : List ℕ). pick b (Some (values vs)) None) (every-alike (λ f. is_right (number_in f)) is_number right-number fs)
    (map-alike (λ f. value_in (number_in f)) field_number (mem-each fs (λ f m. value-number f)))

right-place : (names : List (List ℕ)) (f : List ℕ) → is_right (place_in names f) ≡ is_one names f
right-place names f = by (is_one names f) (λ t. rw t) (λ e. rw e)

pub places-right : (names fs : List (List ℕ)) → every (λ f. is_right (judged names true f)) fs ≡ every (is_one names) fs
places-right names fs = every-alike (λ f. is_right (place_in names f)) (is_one names) (right-place names) fs

value-place : (names : List (List ℕ)) (f : List ℕ) → is_one names f ≡ true → value_in (place_in names f) ≡ place f names
value-place names f t = rw t

pub places-read : (names fs : List (List ℕ)) → every (is_one names) fs ≡ true → map (λ f. value_in (judged names true f)) fs ≡ map (λ f. place f names) fs
places-read names fs e = map-alike (λ f. value_in (place_in names f)) (λ f. place f names) (each-imp (value-place names) (every-each (is_one names) fs e))
