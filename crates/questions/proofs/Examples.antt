-- Cases of document 01 on the definition of a question: K7 to K9, K11, K12; of open tables, and of range tables.
use mathlib.Core.Path.{◌≡◌, refl}
use mathlib.Core.List.{List, [], ◌∷◌}
use Prim.Native.Nat.{ℕ}
use Rattle.questions.specs.Orders.{before, is_in}
use Rattle.questions.specs.Questions.{table_with, open_table, range_table, bad, got, word_in, widths_in, above_last, attributes_in, row_in, rows_in, pair_in, pairs_in, contents_in, table_in, tables_in, in_some, each_in, closed, rest_in, read_words, read_question}

pub k7 : read_question (1 ∷ 1 ∷ 1 ∷ 1 ∷ 0 ∷ 2 ∷ 1 ∷ 1 ∷ []) ≡ bad 10
unfolding read_question read_words rest_in widths_in tables_in table_in contents_in attributes_in above_last rows_in row_in word_in before
k7 = refl

pub k8 : read_question (1 ∷ 1 ∷ 1 ∷ 1 ∷ 0 ∷ 1 ∷ 2 ∷ []) ≡ bad 9
unfolding read_question read_words rest_in widths_in tables_in table_in contents_in attributes_in above_last rows_in row_in word_in before
k8 = refl

pub k9 : read_question (2 ∷ 1 ∷ 1 ∷ 1 ∷ 1 ∷ 0 ∷ 1 ∷ 0 ∷ []) ≡ bad 12
unfolding read_question read_words rest_in widths_in tables_in table_in contents_in attributes_in above_last rows_in row_in word_in before closed each_in in_some is_in
k9 = refl

-- no words; the word 13 alone; the word 12 alone; 1, 17
pub k11 : (read_question [] ≡ bad 1) × (read_question (13 ∷ []) ≡ bad 2) × (read_question (12 ∷ []) ≡ bad 3) × (read_question (1 ∷ 17 ∷ []) ≡ bad 4)
unfolding read_question read_words widths_in word_in
k11 = (refl, refl, refl, refl)

-- K6 is accepted, K6 and one word more is not
pub k12 :
    (read_question (1 ∷ 1 ∷ 1 ∷ 1 ∷ 0 ∷ 2 ∷ 0 ∷ 1 ∷ [])
    ≡ got (record { widths = 1 ∷ []; tables = table_with (0 ∷ []) ((0 ∷ []) ∷ (1 ∷ []) ∷ []) ∷ [] }) [])
    × (read_question (1 ∷ 1 ∷ 1 ∷ 1 ∷ 0 ∷ 2 ∷ 0 ∷ 1 ∷ 0 ∷ []) ≡ bad 11)
unfolding read_question read_words rest_in widths_in tables_in table_in contents_in attributes_in above_last rows_in row_in word_in before closed each_in in_some is_in
k12 = (refl, refl)

-- a value is asked before the row's order (9 before 10), words left before an attribute that is missing (11 before 12), and 17 tables get 5
order-of-questions :
    (read_question (1 ∷ 1 ∷ 1 ∷ 1 ∷ 0 ∷ 2 ∷ 1 ∷ 2 ∷ []) ≡ bad 9)
    × (read_question (2 ∷ 1 ∷ 1 ∷ 1 ∷ 1 ∷ 0 ∷ 1 ∷ 0 ∷ 0 ∷ []) ≡ bad 11)
    × (read_question (1 ∷ 1 ∷ 17 ∷ []) ≡ bad 5)
unfolding read_question read_words rest_in widths_in tables_in table_in contents_in attributes_in above_last rows_in row_in word_in before closed each_in in_some is_in
order-of-questions = (refl, refl, refl)

-- open tables: one beside a table that has its attribute is accepted, and no rows follow it; 65,534 gets 8, and what follows the mark 11; an
-- attribute that stands only in open tables gets 12
open-tables :
    (read_question (1 ∷ 1 ∷ 2 ∷ 1 ∷ 0 ∷ 65535 ∷ 1 ∷ 0 ∷ 1 ∷ 1 ∷ [])
    ≡ got (record { widths = 1 ∷ []; tables = open_table (0 ∷ []) ∷ (table_with (0 ∷ []) ((1 ∷ []) ∷ []) ∷ []) }) [])
    × (read_question (1 ∷ 1 ∷ 2 ∷ 1 ∷ 0 ∷ 65534 ∷ 1 ∷ 0 ∷ 1 ∷ 1 ∷ []) ≡ bad 8)
    × (read_question (1 ∷ 1 ∷ 1 ∷ 1 ∷ 0 ∷ 65535 ∷ 0 ∷ []) ≡ bad 11)
    × (read_question (1 ∷ 1 ∷ 1 ∷ 1 ∷ 0 ∷ 65535 ∷ []) ≡ bad 12)
    × (read_question (2 ∷ 1 ∷ 1 ∷ 2 ∷ 2 ∷ 0 ∷ 1 ∷ 65535 ∷ 1 ∷ 0 ∷ 1 ∷ 1 ∷ []) ≡ bad 12)
unfolding read_question read_words rest_in widths_in tables_in table_in contents_in attributes_in above_last rows_in row_in word_in before closed each_in in_some is_in
open-tables = (refl, refl, refl, refl, refl)

-- one attribute of width 3, and one range table of m pairs
abbrev ranged : ℕ → List ℕ → List ℕ
ranged m s = 1 ∷ 3 ∷ 1 ∷ 65535 ∷ 0 ∷ m ∷ s

-- at a pair: its lowest value is asked 3, then 9; its highest 3, then 9; then 28, also where 10 would come; then 10
order-at-pairs :
    (read_question (ranged 1 []) ≡ bad 3)
    × (read_question (ranged 1 (8 ∷ [])) ≡ bad 9)
    × (read_question (ranged 1 (5 ∷ [])) ≡ bad 3)
    × (read_question (ranged 1 (5 ∷ 8 ∷ [])) ≡ bad 9)
    × (read_question (ranged 1 (5 ∷ 4 ∷ [])) ≡ bad 28)
    × (read_question (ranged 2 (3 ∷ 5 ∷ 4 ∷ 7 ∷ [])) ≡ bad 10)
    × (read_question (ranged 2 (3 ∷ 5 ∷ 4 ∷ 2 ∷ [])) ≡ bad 28)
unfolding read_question read_words rest_in tables_in table_in contents_in pairs_in pair_in widths_in attributes_in above_last word_in
order-at-pairs = (refl, refl, refl, refl, refl, refl, refl)

-- pairs may touch, the first may begin with 0, and there may be none
touching-pairs :
    (read_question (ranged 3 (0 ∷ 0 ∷ 1 ∷ 3 ∷ 4 ∷ 5 ∷ []))
    ≡ got (record { widths = 3 ∷ []; tables = range_table 0 (record { lowest = 0; highest = 0 } ∷ record { lowest = 1; highest = 3 } ∷ record { lowest = 4; highest = 5 } ∷ []) ∷ [] }) [])
    × (read_question (ranged 0 []) ≡ got (record { widths = 3 ∷ []; tables = range_table 0 [] ∷ [] }) [])
unfolding read_question read_words rest_in tables_in table_in contents_in pairs_in pair_in widths_in attributes_in above_last word_in closed each_in in_some is_in
touching-pairs = (refl, refl)

-- the marks pass, their neighbours do not; a range table's attribute number is asked 7
range-marks :
    (read_question (1 ∷ 3 ∷ 1 ∷ 65534 ∷ []) ≡ bad 6)
    × (read_question (1 ∷ 3 ∷ 1 ∷ 65535 ∷ []) ≡ bad 3)
    × (read_question (1 ∷ 3 ∷ 1 ∷ 65535 ∷ 1 ∷ []) ≡ bad 7)
    × (read_question (ranged 65534 []) ≡ bad 8)
    × (read_question (ranged 4097 []) ≡ bad 8)
unfolding read_question read_words rest_in tables_in table_in contents_in pairs_in pair_in widths_in attributes_in above_last word_in
range-marks = (refl, refl, refl, refl, refl)

-- a range table that is not filled in is an open table: no pairs follow, and 12 does not count it; both forms read as the same table
open-ranges :
    (read_question (ranged 65535 []) ≡ bad 12)
    × (read_question (ranged 65535 (0 ∷ [])) ≡ bad 11)
    × (read_question (1 ∷ 3 ∷ 2 ∷ 1 ∷ 0 ∷ 0 ∷ 65535 ∷ 0 ∷ 65535 ∷ []) ≡ read_question (1 ∷ 3 ∷ 2 ∷ 1 ∷ 0 ∷ 0 ∷ 1 ∷ 0 ∷ 65535 ∷ []))
unfolding read_question read_words rest_in tables_in table_in contents_in pairs_in pair_in rows_in widths_in attributes_in above_last word_in closed each_in in_some is_in
open-ranges = (refl, refl, refl)
