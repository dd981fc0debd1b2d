-- A field of a file as the code reads it: by its place, and by what follows.
--   stands_at b s at     == the byte b, which is not 0, stands at a place
--   is_quote_at s at     == a quote stands there
--   after_fields s fs x == what is read after the fields fs of a record, by what follows the last of them
--   Onward at s x      == reading goes on behind a place, within the file
--   end_move k          == what a byte does where a field has ended
--   EndsAt s at m      == in the mode m a field ends at a place
--   TextEnd s from r   == the text from a place on ends at r, and with it a field without quotes
--   AfterSays s at x   == what follows a field that ends at a place
--   TextSays t bs       == t has the bytes of a field, or a quote is doubled in them
--   FieldFrom m s at x == the field x is read from a place on, in the mode m: its bytes, and what follows
--   FieldSays m s at x == so, or from there on something is outside the grammar
use denote.Ref.{Bor}
use Rattle.std.specs.Prelude.{◌≡◌, Bool, Option, None, Some, ℕ, ◌≤◌, ◌<◌, eqb, length, get_or, drop}
use mathlib.Core.List.{List, [], ◌∷◌, ◌++◌, Memᴰ}
use Rattle.fields.specs.Parts.{part}
use Rattle.csv_tables.specs.Records.{quote, kind_of, Mode, start, ending, Move, skip, cut, stop, move, Records, ended, broken, next, at_end, records_from, follow}
use Rattle.csv_tables.specs.declared.field.Kind.{Kind}
use Rattle.csv_tables.specs.declared.field.Kind.TheVariants as kinds
use Rattle.csv_tables.specs.declared.field.After.{After}
use Rattle.csv_tables.specs.declared.field.After.TheVariants.{Comma, Line}
use Rattle.csv_tables.specs.declared.field.Field.{Field}

-- past the end stands none
abbrev pub stands_at : ℕ → List ℕ → ℕ → Bool
stands_at b s at = eqb (get_or s at 0) b

abbrev pub is_quote_at : List ℕ → ℕ → Bool
is_quote_at s at = stands_at quote s at

abbrev pub after_fields : List ℕ → List (List ℕ) → Option After → Records
after_fields s fs (Some (Comma n)) = records_from start fs [] (drop n s)
after_fields s fs (Some (Line n)) = next fs (follow (drop n s))
after_fields s fs None = broken

-- where the file ends at the place, the record's end is there
abbrev pub Onward : ℕ → List ℕ → Option After → Type 0
Onward at s (Some (Comma n)) = (at < n) × (n ≤ length s)
Onward at s (Some (Line n)) = (at ≤ n) × (n ≤ length s) × (at < length s → at < n)
Onward at s None = Unit

abbrev pub end_move : Kind → Move
end_move kinds.Text = stop
end_move kinds.Comma = cut
end_move kinds.Quote = stop
end_move kinds.Return = skip ending
end_move kinds.Feed = stop
end_move kinds.Other = stop

pub record EndsAt (s : List ℕ) (at : ℕ) (m : Mode) : Type 0 where
  pub closes : (fs : List (List ℕ)) (f : List ℕ) → at_end m fs f ≡ next (fs ++ (f ∷ [])) ended
  pub moves : at < length s → move m (kind_of (get_or s at 0)) ≡ end_move (kind_of (get_or s at 0))

pub record TextEnd (s : List ℕ) (from r : ℕ) : Type 0 where
  pub mode : Mode
  pub after : from ≤ r
  pub within : r ≤ length s
  pub reads : (fs : List (List ℕ)) → records_from start fs [] (drop from s) ≡ records_from mode fs (part from r s) (drop r s)
  pub ends : EndsAt s r mode

pub record AfterSays (s : List ℕ) (at : ℕ) (x : Option After) : Type 0 where
  pub reads : (m : Mode) → EndsAt s at m → (fs : List (List ℕ)) (f : List ℕ) → records_from m fs f (drop at s) ≡ after_fields s (fs ++ (f ∷ [])) x
  pub onward : Onward at s x

abbrev pub TextSays : Option (Bor (List ℕ)) → List ℕ → Type 0
TextSays (Some t) bytes = t.now ≡ bytes
TextSays None bytes = Memᴰ quote bytes

pub record FieldFrom (m : Mode) (s : List ℕ) (at : ℕ) (x : Field) : Type 0 where
  pub bytes : List ℕ
  pub text : TextSays x.text bytes
  pub reads : (fs : List (List ℕ)) → records_from m fs [] (drop at s) ≡ after_fields s (fs ++ (bytes ∷ [])) (Some x.after)
  pub onward : Onward at s (Some x.after)

abbrev pub FieldSays : Mode → List ℕ → ℕ → Option Field → Type 0
FieldSays m s at (Some x) = FieldFrom m s at x
FieldSays m s at None = (fs : List (List ℕ)) → records_from m fs [] (drop at s) ≡ broken
