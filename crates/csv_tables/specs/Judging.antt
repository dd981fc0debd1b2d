-- What the fields of a record stand for, as the code reads them.
--   judged names b f    == what a field stands for: in the header (b) its place, in a later record its value
--   Judges g f j        == each answer of the closure f is that of j
--   NoQuotes j          == a field with a quote stands for nothing
--   fields_read j fs     == the values of a record's fields, if each stands for one
--   RecordFrom j s at x == the record x is read from a place on: its fields, judged by j, and what follows
--   RecordSays j s at x == so, or from there on something is outside the grammar
use denote.Param.Members.{Shared}
use denote.Ref.{Bor}
use Rattle.std.specs.Prelude.{◌≡◌, Bool, Option, None, Some, ℕ, ◌≤◌, ◌<◌, length, drop}
use mathlib.Core.List.{List, [], map, Memᴰ}
use Rattle.boxes.specs.Intervals.{pick}
use Rattle.fields.specs.Fields.{every}
use Rattle.fields.specs.Lines.{number_in, place_in, is_right, value_in, values}
use Rattle.csv_tables.specs.Records.{quote, start, broken, next, records_from, follow}
use Rattle.csv_tables.specs.declared.record.Record.{Record}

abbrev pub judged : List (List ℕ) → Bool → List ℕ → Option ℕ
judged names b f = pick b (place_in names f) (number_in f)

abbrev pub Judges : {F : Type 0} → Shared F (Bor (List ℕ) × Unit {0}) (Option ℕ) → F → (List ℕ → Option ℕ) → Type 0
Judges g f j = (x : Bor (List ℕ)) (r : Option ℕ) → g.post f (x, tt) r → r ≡ j x.now

abbrev pub NoQuotes : (List ℕ → Option ℕ) → Type 0
NoQuotes j = (f : List ℕ) → Memᴰ quote f → j f ≡ None

abbrev pub fields_read : (List ℕ → Option ℕ) → List (List ℕ) → Option (List ℕ)
fields_read j fs = pick (every (λ f. is_right (j f)) fs) (Some (values (map (λ f. value_in (j f)) fs))) None

pub record RecordFrom (j : List ℕ → Option ℕ) (s : List ℕ) (at : ℕ) (x : Record) : Type 0 where
  pub texts : List (List ℕ)
  pub count : x.count ≡ length texts
  pub values : x.values ≡ fields_read j texts
  pub reads : records_from start [] [] (drop at s) ≡ next texts (follow (drop x.next s))
  pub within : x.next ≤ length s
  pub onward : at < length s → at < x.next

abbrev pub RecordSays : (List ℕ → Option ℕ) → List ℕ → ℕ → Option Record → Type 0
RecordSays j s at (Some x) = RecordFrom j s at x
RecordSays j s at None = records_from start [] [] (drop at s) ≡ broken
