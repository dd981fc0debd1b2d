-- Small files, joined by computing: what the definitions say at the boundaries.
--   width-none, width-zeros, width_one, width_two, width-most == the width of no value, of zeros, of 1, of 2, of the highest value
--   no-files, one-file          == no file at all; one file
--   end-beyond, ends-equal, end_below == an end beyond the bytes; a file without bytes, which has an empty name; an end below the one before
--   fourth-record               == the fourth record is refused, after one that stands twice
--   joined-file, joined-none    == the file of a join, and of one without tuples
use mathlib.Core.Path.{◌≡◌, refl}
use mathlib.Core.List.{List, [], ◌∷◌}
use Prim.Native.Nat.{ℕ}
use Rattle.questions.specs.Orders.{same, before}
use Rattle.questions.specs.Words.{flat}
use Rattle.questions.specs.Questions.{table_with}
use Rattle.tables.specs.Joins.{extended, all_points, kept, join_of}
use Rattle.tables.specs.Rows.{has_row, is_row, in_all}
use Rattle.fields.specs.Fields.{every, is_name, is_number, field_number, value_from, place, distinct, split_from}
use Rattle.fields.specs.Decimals.{decimal, decimal_from}
use Rattle.fields.specs.Writing.{joined}
use Rattle.csv_tables.specs.Records.{records_from, kind_of, is_text}
use Rattle.csv_tables.specs.Imports.{columns_from, insert_row, sort_rows, read_rows, read_header, read_csv, import_csv}
use Rattle.csv_tables.specs.Exports.{export_csv}
use Rattle.csv_tables.specs.Claims.{numbers_from}
use Rattle.files.specs.Gathers.{refused_at, gathered, gather_from, gather}
use Rattle.files.specs.Widths.{row_values, least_from, least_width, question_for}
use Rattle.files.specs.Says.{join_file}

pub width-none : least_width [] ≡ 1
unfolding least_from every
width-none = refl

pub width-zeros : least_width (0 ∷ 0 ∷ []) ≡ 1
unfolding least_from every
width-zeros = refl

pub width_one : least_width (1 ∷ []) ≡ 1
unfolding least_from every
width_one = refl

pub width_two : least_width (2 ∷ []) ≡ 2
unfolding least_from every
width_two = refl

pub width-most : least_width (65535 ∷ []) ≡ 16
unfolding least_from every
width-most = refl

-- "a\r\n0\r\n"
abbrev zero-file : List ℕ
zero-file = 97 ∷ 13 ∷ 10 ∷ 48 ∷ 13 ∷ 10 ∷ []

pub no-files : gather (97 ∷ []) zero-file [] ≡ refused_at 5 0 0
unfolding gather split_from is_name every distinct place same
no-files = refl

pub one-file : gather (97 ∷ []) zero-file (6 ∷ []) ≡ gathered (table_with (0 ∷ []) ((0 ∷ []) ∷ []) ∷ [])
unfolding gather gather_from import_csv split_from is_name read_csv read_header read_rows records_from kind_of is_text columns_from sort_rows insert_row before same place distinct every is_number field_number value_from
one-file = refl

pub end-beyond : gather (97 ∷ []) zero-file (7 ∷ []) ≡ refused_at 3 1 0
unfolding gather gather_from import_csv split_from is_name read_csv read_header read_rows records_from kind_of is_text columns_from sort_rows insert_row before same place distinct every is_number field_number value_from
end-beyond = refl

pub ends-equal : gather (97 ∷ []) zero-file (6 ∷ 6 ∷ []) ≡ refused_at 16 2 1
unfolding gather gather_from import_csv split_from is_name read_csv read_header read_rows records_from kind_of is_text columns_from sort_rows insert_row before same place distinct every is_number field_number value_from
ends-equal = refl

pub end_below : gather (97 ∷ []) zero-file (6 ∷ 5 ∷ []) ≡ refused_at 3 2 0
unfolding gather gather_from import_csv split_from is_name read_csv read_header read_rows records_from kind_of is_text columns_from sort_rows insert_row before same place distinct every is_number field_number value_from
end_below = refl

pub joined-file : join_file ((97 ∷ []) ∷ []) (question_for 1 (table_with (0 ∷ []) ((0 ∷ []) ∷ []) ∷ [])) ≡ zero-file
unfolding export_csv join_of kept all_points extended in_all is_row has_row same flat least_from every row_values numbers_from decimal decimal_from joined
joined-file = refl

pub joined-none : join_file ((97 ∷ []) ∷ []) (question_for 1 (table_with (0 ∷ []) [] ∷ [])) ≡ 97 ∷ 13 ∷ 10 ∷ []
unfolding export_csv join_of kept all_points extended in_all is_row has_row same flat least_from every row_values numbers_from decimal decimal_from joined
joined-none = refl

-- record 4, after a record twice: "a\r\n0\r\n0\r\nx"
pub fourth-record : gather (97 ∷ []) (97 ∷ 13 ∷ 10 ∷ 48 ∷ 13 ∷ 10 ∷ 48 ∷ 13 ∷ 10 ∷ 120 ∷ []) (10 ∷ []) ≡ refused_at 19 1 4
unfolding gather gather_from import_csv split_from is_name read_csv read_header read_rows records_from kind_of is_text columns_from sort_rows insert_row before same place distinct every is_number field_number value_from
fourth-record = refl
