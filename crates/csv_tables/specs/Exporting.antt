-- What the export's parts promise to each other.
--   export_refusal_number r == the number of a refusal
--   ArityOf l v r         == the names and the listing pass, and each tuple has as many values as there are names; or they are refused
use Rattle.std.specs.Prelude.{◌≡◌, Result, Ok, Err, List, ℕ, length}
use Rattle.fields.specs.Fields.{fields_of}
use Rattle.fields.specs.Names.{refusal_number as names_refusal}
use Rattle.csv_tables.specs.Says.{export_check}
use Rattle.csv_tables.specs.declared.export.ExportRefusal.{ExportRefusal}
use Rattle.csv_tables.specs.declared.export.ExportRefusal.TheVariants.{Names, Listing}

abbrev pub export_refusal_number : ExportRefusal → ℕ
export_refusal_number (Names r) = names_refusal r
export_refusal_number Listing = 3

abbrev pub ArityOf : List ℕ → List ℕ → Result ℕ ExportRefusal → Type 0
ArityOf l v (Ok n) = (export_check l v ≡ 0) × (n ≡ length (fields_of l))
ArityOf l v (Err r) = export_check l v ≡ export_refusal_number r
