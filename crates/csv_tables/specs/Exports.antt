-- How a listing is written as a comma-separated file.
--   csv_end             == the bytes that end a record: CR and LF
--   csv_line fs         == a record without quotes, with its end
--   value_fields t      == the fields of a tuple
--   export_csv names ts == the header, and a record for each tuple
use Rattle.std.specs.Prelude.{List, [], ◌∷◌, map, ℕ}
use Rattle.questions.specs.Words.{flat}
use Rattle.fields.specs.Decimals.{decimal}
use Rattle.fields.specs.Writing.{line_by}
use Rattle.csv_tables.specs.Records.{comma, carriage, feed}

abbrev pub csv_end : List ℕ
csv_end = carriage ∷ (feed ∷ [])

abbrev pub csv_line : List (List ℕ) → List ℕ
csv_line fs = line_by comma csv_end fs

-- the values of a tuple as they are written
abbrev pub value_fields : List ℕ → List (List ℕ)
value_fields t = map decimal t

unfoldable pub export_csv : List (List ℕ) → List (List ℕ) → List ℕ
export_csv names ts = flat (map csv_line (names ∷ map value_fields ts))
