-- Small files, and how they are read and written. The attributes' names are `a` and `b`.
--   ab == these names
--   empty-file == no byte: a header with one empty name
--   blank-header == the file begins with CR LF
--   header-only == a header alone, unended
--   header-ended == a header alone
--   unended == the last line may be unended
--   quotes-off == fields in quotes
--   doubled == a doubled quote is one quote: no known name
--   doubled-value == and no value
--   line-in-quotes == CR LF within quotes belongs to the field
--   comma-in-quotes == so does a comma
--   open-quote == a quote is open at the end
--   quote-inside == a quote inside a field without quotes
--   after-quote == a byte after the closing quote
--   lone-feed == a lone LF
--   lone-carriage == a lone CR
--   high_byte == a byte above 7E, also in quotes
--   open-field == the field `open`: there is no open file
--   blank-line == a blank line is a record of one empty field
--   blank-line-wide == which has too few fields here
--   shuffled == columns in another order, rows sorted, one twice
--   width-first == 18 before 19 within a record
--   value-first == record by record: 19 before a later 18
--   names-first == 16 before a later 18
--   grammar-first == 18 of the header before 16
--   twice == a name twice
--   written == what is written
use mathlib.Core.Path.{◌≡◌, refl}
use mathlib.Core.List.{List, [], ◌∷◌}
use Prim.Native.Nat.{ℕ}
use Rattle.questions.specs.Orders.{same, before}
use Rattle.questions.specs.Words.{flat}
use Rattle.fields.specs.Fields.{every, is_number, field_number, value_from, place, distinct}
use Rattle.questions.specs.Questions.{table_with}
use Rattle.fields.specs.Decimals.{decimal, decimal_from}
use Rattle.fields.specs.Writing.{joined}
use Rattle.csv_tables.specs.Records.{records_from, kind_of, is_text}
use Rattle.csv_tables.specs.Imports.{refused, imported, columns_from, insert_row, sort_rows, read_rows, read_header, read_csv}
use Rattle.csv_tables.specs.Exports.{export_csv}

abbrev ab : List (List ℕ)
ab = (97 ∷ []) ∷ (98 ∷ []) ∷ []

-- no byte: a header with one empty name
pub empty-file : read_csv ab [] ≡ refused 16 1
unfolding read_csv read_header read_rows records_from kind_of is_text columns_from sort_rows insert_row before same place distinct every is_number field_number value_from
empty-file = refl

-- the file begins with CR LF
pub blank-header : read_csv ab (13 ∷ 10 ∷ []) ≡ refused 16 1
unfolding read_csv read_header read_rows records_from kind_of is_text columns_from sort_rows insert_row before same place distinct every is_number field_number value_from
blank-header = refl

-- a header alone, unended
pub header-only : read_csv ab (98 ∷ []) ≡ imported (table_with (1 ∷ []) [])
unfolding read_csv read_header read_rows records_from kind_of is_text columns_from sort_rows insert_row before same place distinct every is_number field_number value_from
header-only = refl

-- a header alone
pub header-ended : read_csv ab (97 ∷ 44 ∷ 98 ∷ 13 ∷ 10 ∷ []) ≡ imported (table_with (0 ∷ 1 ∷ []) [])
unfolding read_csv read_header read_rows records_from kind_of is_text columns_from sort_rows insert_row before same place distinct every is_number field_number value_from
header-ended = refl

-- the last line may be unended
pub unended : read_csv ab (97 ∷ 13 ∷ 10 ∷ 55 ∷ 13 ∷ 10 ∷ 51 ∷ []) ≡ imported (table_with (0 ∷ []) ((3 ∷ []) ∷ (7 ∷ []) ∷ []))
unfolding read_csv read_header read_rows records_from kind_of is_text columns_from sort_rows insert_row before same place distinct every is_number field_number value_from
unended = refl

-- fields in quotes
pub quotes-off : read_csv ab (34 ∷ 97 ∷ 34 ∷ 13 ∷ 10 ∷ 34 ∷ 49 ∷ 50 ∷ 34 ∷ 13 ∷ 10 ∷ []) ≡ imported (table_with (0 ∷ []) ((12 ∷ []) ∷ []))
unfolding read_csv read_header read_rows records_from kind_of is_text columns_from sort_rows insert_row before same place distinct every is_number field_number value_from
quotes-off = refl

-- a doubled quote is one quote: no known name
pub doubled : read_csv ab (34 ∷ 97 ∷ 34 ∷ 34 ∷ 34 ∷ 13 ∷ 10 ∷ []) ≡ refused 16 1
unfolding read_csv read_header read_rows records_from kind_of is_text columns_from sort_rows insert_row before same place distinct every is_number field_number value_from
doubled = refl

-- and no value
pub doubled-value : read_csv ab (97 ∷ 13 ∷ 10 ∷ 34 ∷ 49 ∷ 34 ∷ 34 ∷ 50 ∷ 34 ∷ []) ≡ refused 19 2
unfolding read_csv read_header read_rows records_from kind_of is_text columns_from sort_rows insert_row before same place distinct every is_number field_number value_from
doubled-value = refl

-- CR LF within quotes belongs to the field
pub line-in-quotes : read_csv ab (97 ∷ 13 ∷ 10 ∷ 34 ∷ 49 ∷ 13 ∷ 10 ∷ 50 ∷ 34 ∷ 13 ∷ 10 ∷ []) ≡ refused 19 2
unfolding read_csv read_header read_rows records_from kind_of is_text columns_from sort_rows insert_row before same place distinct every is_number field_number value_from
line-in-quotes = refl

-- so does a comma
pub comma-in-quotes : read_csv ab (34 ∷ 97 ∷ 44 ∷ 98 ∷ 34 ∷ 13 ∷ 10 ∷ 49 ∷ 44 ∷ 50 ∷ 13 ∷ 10 ∷ []) ≡ refused 16 1
unfolding read_csv read_header read_rows records_from kind_of is_text columns_from sort_rows insert_row before same place distinct every is_number field_number value_from
comma-in-quotes = refl

-- a quote is open at the end
pub open-quote : read_csv ab (97 ∷ 13 ∷ 10 ∷ 34 ∷ 49 ∷ []) ≡ refused 18 2
unfolding read_csv read_header read_rows records_from kind_of is_text columns_from sort_rows insert_row before same place distinct every is_number field_number value_from
open-quote = refl

-- a quote inside a field without quotes
pub quote-inside : read_csv ab (97 ∷ 13 ∷ 10 ∷ 49 ∷ 34 ∷ 50 ∷ 34 ∷ 13 ∷ 10 ∷ []) ≡ refused 18 2
unfolding read_csv read_header read_rows records_from kind_of is_text columns_from sort_rows insert_row before same place distinct every is_number field_number value_from
quote-inside = refl

-- a byte after the closing quote
pub after-quote : read_csv ab (97 ∷ 13 ∷ 10 ∷ 34 ∷ 49 ∷ 34 ∷ 50 ∷ 13 ∷ 10 ∷ []) ≡ refused 18 2
unfolding read_csv read_header read_rows records_from kind_of is_text columns_from sort_rows insert_row before same place distinct every is_number field_number value_from
after-quote = refl

-- a lone LF
pub lone-feed : read_csv ab (97 ∷ 10 ∷ 49 ∷ 10 ∷ []) ≡ refused 18 1
unfolding read_csv read_header read_rows records_from kind_of is_text columns_from sort_rows insert_row before same place distinct every is_number field_number value_from
lone-feed = refl

-- a lone CR
pub lone-carriage : read_csv ab (97 ∷ 13 ∷ 49 ∷ 13 ∷ 10 ∷ []) ≡ refused 18 1
unfolding read_csv read_header read_rows records_from kind_of is_text columns_from sort_rows insert_row before same place distinct every is_number field_number value_from
lone-carriage = refl

-- a byte above 7E, also in quotes
pub high_byte : read_csv ab (97 ∷ 13 ∷ 10 ∷ 34 ∷ 127 ∷ 34 ∷ 13 ∷ 10 ∷ []) ≡ refused 18 2
unfolding read_csv read_header read_rows records_from kind_of is_text columns_from sort_rows insert_row before same place distinct every is_number field_number value_from
high_byte = refl

-- the field `open` is no value: there is no open file
pub open-field : read_csv ab (97 ∷ 13 ∷ 10 ∷ 111 ∷ 112 ∷ 101 ∷ 110 ∷ 13 ∷ 10 ∷ []) ≡ refused 19 2
unfolding read_csv read_header read_rows records_from kind_of is_text columns_from sort_rows insert_row before same place distinct every is_number field_number value_from
open-field = refl

-- a blank line is a record of one empty field
pub blank-line : read_csv ab (97 ∷ 13 ∷ 10 ∷ 13 ∷ 10 ∷ []) ≡ refused 19 2
unfolding read_csv read_header read_rows records_from kind_of is_text columns_from sort_rows insert_row before same place distinct every is_number field_number value_from
blank-line = refl

-- which has too few fields here
pub blank-line-wide : read_csv ab (97 ∷ 44 ∷ 98 ∷ 13 ∷ 10 ∷ 13 ∷ 10 ∷ []) ≡ refused 18 2
unfolding read_csv read_header read_rows records_from kind_of is_text columns_from sort_rows insert_row before same place distinct every is_number field_number value_from
blank-line-wide = refl

-- columns in another order, rows sorted, one twice
pub shuffled : read_csv ab (98 ∷ 44 ∷ 97 ∷ 13 ∷ 10 ∷ 49 ∷ 44 ∷ 57 ∷ 13 ∷ 10 ∷ 50 ∷ 44 ∷ 51 ∷ 13 ∷ 10 ∷ 49 ∷ 44 ∷ 57 ∷ 13 ∷ 10 ∷ 49 ∷ 44 ∷ 51 ∷ 13 ∷ 10 ∷ []) ≡ imported (table_with (0 ∷ 1 ∷ []) ((3 ∷ 1 ∷ []) ∷ (3 ∷ 2 ∷ []) ∷ (9 ∷ 1 ∷ []) ∷ []))
unfolding read_csv read_header read_rows records_from kind_of is_text columns_from sort_rows insert_row before same place distinct every is_number field_number value_from
shuffled = refl

-- 18 before 19 within a record
pub width-first : read_csv ab (97 ∷ 44 ∷ 98 ∷ 13 ∷ 10 ∷ 120 ∷ 13 ∷ 10 ∷ []) ≡ refused 18 2
unfolding read_csv read_header read_rows records_from kind_of is_text columns_from sort_rows insert_row before same place distinct every is_number field_number value_from
width-first = refl

-- record by record: 19 before a later 18
pub value-first : read_csv ab (97 ∷ 13 ∷ 10 ∷ 48 ∷ 49 ∷ 13 ∷ 10 ∷ 34 ∷ 13 ∷ 10 ∷ []) ≡ refused 19 2
unfolding read_csv read_header read_rows records_from kind_of is_text columns_from sort_rows insert_row before same place distinct every is_number field_number value_from
value-first = refl

-- 16 before a later 18
pub names-first : read_csv ab (99 ∷ 13 ∷ 10 ∷ 34 ∷ 13 ∷ 10 ∷ []) ≡ refused 16 1
unfolding read_csv read_header read_rows records_from kind_of is_text columns_from sort_rows insert_row before same place distinct every is_number field_number value_from
names-first = refl

-- 18 of the header before 16
pub grammar-first : read_csv ab (99 ∷ 44 ∷ 34 ∷ 13 ∷ 10 ∷ []) ≡ refused 18 1
unfolding read_csv read_header read_rows records_from kind_of is_text columns_from sort_rows insert_row before same place distinct every is_number field_number value_from
grammar-first = refl

-- a name twice
pub twice : read_csv ab (97 ∷ 44 ∷ 97 ∷ 13 ∷ 10 ∷ 49 ∷ 44 ∷ 49 ∷ 13 ∷ 10 ∷ []) ≡ refused 16 1
unfolding read_csv read_header read_rows records_from kind_of is_text columns_from sort_rows insert_row before same place distinct every is_number field_number value_from
twice = refl

-- what is written for two names and three tuples
pub written : export_csv ab ((0 ∷ 12 ∷ []) ∷ (3 ∷ 4 ∷ []) ∷ (3 ∷ 65535 ∷ []) ∷ []) ≡ (97 ∷ 44 ∷ 98 ∷ 13 ∷ 10 ∷ 48 ∷ 44 ∷ 49 ∷ 50 ∷ 13 ∷ 10 ∷ 51 ∷ 44 ∷ 52 ∷ 13 ∷ 10 ∷ 51 ∷ 44 ∷ 54 ∷ 53 ∷ 53 ∷ 51 ∷ 53 ∷ 13 ∷ 10 ∷ [])
unfolding export_csv joined flat decimal decimal_from
written = refl
