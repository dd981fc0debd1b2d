-- The numbers of a file's refusals.
--   refusal_number r == the number of a refusal
--   at_none r        == a refusal at no record
--   place_number p   == the number of a place, 0 for none
use Rattle.std.specs.Prelude.{Option, None, unwrap_or, ℕ}
use Rattle.fields.specs.Names.{refusal_number as names_refusal}
use Rattle.csv_tables.specs.declared.refusal.Refused.{Refused}
use Rattle.csv_tables.specs.declared.refusal.FileRefusal.{FileRefusal}
use Rattle.csv_tables.specs.declared.refusal.FileRefusal.TheVariants.{Names, Long, Grammar, Header, Value, Rows}

abbrev pub refusal_number : FileRefusal → ℕ
refusal_number (Names r) = names_refusal r
refusal_number Long = 17
refusal_number Grammar = 18
refusal_number Header = 16
refusal_number Value = 19
refusal_number Rows = 8

abbrev pub at_none : FileRefusal → Refused
at_none r = record { why = r; place = None }

abbrev pub place_number : Option ℕ → ℕ
place_number p = unwrap_or p 0
