-- The check at K1 of document 01, by computation: what its complete run leaves is accepted, and what differs from it in one place fails, as
-- request W5 says. A tuple cut short is tried with a question over two attributes, where the listing's last word is missing.
--   check_with ts bs == the check of K1 with the tuples ts and the records bs
--   instead i s     == the records of K1 with the record s as number i
--   K1Checks, k1-checks == the table
use mathlib.Core.Path.{◌≡◌, refl}
use mathlib.Core.List.{List, [], ◌∷◌, zip_with}
use Prim.Native.Nat.{ℕ}
use lib.ListN.{take, set}
use Rattle.boxes.specs.Every.{every, both}
use Rattle.boxes.specs.Intervals.{holds_from, holds_i, halves, shorter_i, resolvent_i, is_interval}
use Rattle.boxes.specs.Boxes.{count_halves, elsewhere, resolve, resolvent, box_of}
use Rattle.questions.specs.Orders.{same, before, is_in}
use Rattle.questions.specs.Questions.{word_in, widths_in, above_last, attributes_in, row_in, rows_in, contents_in, table_in, tables_in, in_some, each_in, closed, rest_in, read_words, read_question}
use Rattle.questions.specs.Directories.{rows_of}
use Rattle.questions.specs.Words.{flat}
use Rattle.tables.specs.Rows.{has_row, is_row, in_all}
use Rattle.tables.specs.Inside.{row_inside, some_inside, holds_row}
use Rattle.course.specs.Stores.{Stored, stored}
use Rattle.course.proofs.Laws.{k1-words, k1-tuples, k1-records, two-words, two-tuples, two_records}
use Rattle.search.specs.Records.{store_from, records}
use Rattle.checker.specs.Limits.{check_failed}
use Rattle.checker.specs.Checks.{ascending, gap_stands, tuple_stands, resolvent_stands, record_stands, records_stand, acceptable, accepts, check_number}

abbrev check_with : List (List ℕ) → List Stored → ℕ
check_with ts bs = check_number k1-words (flat ts) (records bs)

abbrev instead : ℕ → Stored → List Stored
instead i s = set k1-records i s

pub record K1Checks : Type 0 where
  pub accepted : check_with k1-tuples k1-records ≡ 0
  -- no tuple is listed; one too many is; one is listed twice
  pub unlisted : check_with [] k1-records ≡ check_failed
  pub too_many : check_with ((1 ∷ []) ∷ (2 ∷ []) ∷ []) k1-records ≡ check_failed
  pub twice : check_with ((1 ∷ []) ∷ (1 ∷ []) ∷ []) k1-records ≡ check_failed
  -- the upper half's witness stands first
  pub swapped : check_with k1-tuples (instead 2 (stored (2 ∷ []) 2 1 0)) ≡ check_failed
  -- a record with a row of the table that it names, one that is another box than that of its tuple, one that is another box than the resolvent
  pub with_row : check_with k1-tuples (instead 3 (stored (6 ∷ []) 0 1 0)) ≡ check_failed
  pub other-box : check_with k1-tuples (instead 0 (stored (4 ∷ []) 1 0 0)) ≡ check_failed
  pub other-resolvent : check_with k1-tuples (instead 5 (stored (3 ∷ []) 2 0 1)) ≡ check_failed
  -- the last record is not the whole space
  pub not-whole : check_with k1-tuples (take 6 k1-records) ≡ check_failed
  -- an empty record list, another kind, an origin that names no table, one that names no earlier record, an unused one other than 0
  pub no-records : check_with k1-tuples [] ≡ check_failed
  pub other-kind : check_with k1-tuples (instead 0 (stored (4 ∷ []) 3 0 0)) ≡ check_failed
  pub no_table_lem : check_with k1-tuples (instead 0 (stored (4 ∷ []) 0 2 0)) ≡ check_failed
  pub not_earlier : check_with k1-tuples (instead 0 (stored (4 ∷ []) 2 0 0)) ≡ check_failed
  pub unused-origin : check_with k1-tuples (instead 0 (stored (4 ∷ []) 0 0 1)) ≡ check_failed
  -- an interval beyond the width, and one that is not 1 beyond the attributes
  pub beyond-width : check_with k1-tuples (instead 0 (stored (8 ∷ []) 0 0 0)) ≡ check_failed
  pub not-1-beyond : check_with k1-tuples (instead 0 (stored (4 ∷ 2 ∷ []) 0 0 0)) ≡ check_failed
  -- a record cut short, and a tuple cut short
  pub short-record : check_number k1-words (flat k1-tuples) (take 104 (records k1-records)) ≡ check_failed
  pub two-accepted : check_number two-words (flat two-tuples) (records two_records) ≡ 0
  pub short-tuple : check_number two-words (take 3 (flat two-tuples)) (records two_records) ≡ check_failed

pub k1-checks : K1Checks
unfolding read_question read_words rest_in widths_in tables_in table_in contents_in attributes_in above_last rows_in row_in word_in before closed each_in in_some is_in
    flat records rows_of store_from accepts acceptable ascending every both is_interval in_all is_row has_row same records_stand record_stands gap_stands tuple_stands
    resolvent_stands holds_row some_inside row_inside holds_i holds_from box_of zip_with resolve count_halves elsewhere halves resolvent resolvent_i shorter_i
k1-checks = record {
  accepted = refl;
  unlisted = refl;
  too_many = refl;
  twice = refl;
  swapped = refl;
  with_row = refl;
  other-box = refl;
  other-resolvent = refl;
  not-whole = refl;
  no-records = refl;
  other-kind = refl;
  no_table_lem = refl;
  not_earlier = refl;
  unused-origin = refl;
  beyond-width = refl;
  not-1-beyond = refl;
  short-record = refl;
  two-accepted = refl;
  short-tuple = refl;
}
