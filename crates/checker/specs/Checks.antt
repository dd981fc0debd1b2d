-- Request W5: what is asked of a listing and of records, whoever made them. Each sentence of its list is a test here.
--   is_point ws p      == each value of p is within its width
--   leads p ts        == p is before the first of ts; ascending ts: each tuple is before the next
--   is_tuple q p       == p is within the widths and has its row in every table
--   fits_in ws b       == each interval of b is one of its attribute's width
--   lower_first b c    == where the two have the halves of one interval, b has the lower
--   gap_stands, tuple_stands, resolvent_stands == what is asked of a record of kind 0, 1 and 2
--   record_stands q ts bs i s  == what is asked of the record s, number i among the records bs, by its kind
--   records_stand i q ts bs ss == so of the records ss, whose numbers are from i on
--   ends_whole n bs    == there is a record, and the last is the whole space of n attributes
--   acceptable q ts bs == the tuples ts and the records bs are accepted
--   whole_parts n l    == the words l are whole parts of n words each; part_count n l: how many
--   read_tuples n l    == the tuples of n values that the words l are
--   read_records s     == the records that the words s are, as they stand there
--   ones_beyond n s    == a record is 1 at the attributes beyond n
--   accepts q l s     == the words of a listing and of records are accepted
--   check_of g l s, check_number w l s == 0, or the number of the question's refusal, or check_failed where a check fails
use Rattle.std.specs.Prelude.{Bool, true, ◌&&◌, ◌||◌, not, List, [], ◌∷◌, map, ℕ, suc, ◌-◌, ◌*◌, ◌^◌, eqb, ltb, leb, length, get_or, drop}
use Rattle.boxes.specs.Limits.{max_attributes}
use Rattle.boxes.specs.Every.{every, both}
use Rattle.boxes.specs.Intervals.{pick, halves, is_interval}
use Rattle.boxes.specs.Boxes.{whole_space, resolve, resolvent, box_of}
use Rattle.questions.specs.Orders.{same, before}
use Rattle.questions.specs.Questions.{Question, Got, bad, got, when, read_question}
use Rattle.questions.specs.Directories.{rows_of}
use Rattle.tables.specs.Rows.{in_all}
use Rattle.tables.specs.Inside.{holds_row}
use Rattle.course.specs.Stores.{Stored, box_at}
use Rattle.course.specs.Claims.{no_table}
use Rattle.search.specs.Limits.{record_words}
use Rattle.search.specs.Records.{store_of, cut_s}
use Rattle.search.specs.Says.{divided}
use Rattle.checker.specs.Limits.{check_failed}

-- ---- the listing

-- its values within their widths
abbrev pub is_point : List ℕ → List ℕ → Bool
is_point ws p = both (λ w a. ltb a (2 ^ w)) ws p

-- strictly ascending
abbrev pub leads : List ℕ → List (List ℕ) → Bool
leads p [] = true
leads p (r ∷ ts) = before p r

unfoldable pub ascending : List (List ℕ) → Bool
ascending [] = true
ascending (p ∷ ts) = leads p ts && ascending ts

-- each tuple with its row in every table
abbrev pub is_tuple : Question → List ℕ → Bool
is_tuple q p = is_point q.widths p && in_all q.tables p

-- ---- the records

-- every interval lies within its attribute's width
abbrev pub fits_in : List ℕ → List ℕ → Bool
fits_in ws b = both is_interval ws b

-- boxes that resolve have halves at one attribute only
abbrev pub lower_first : List ℕ → List ℕ → Bool
lower_first b c = both (λ u v. not (halves u v) || ltb u v) b c

-- kind 0: the first origin names a table, the second is 0, and the record holds no row of that table
unfoldable pub gap_stands : Question → Stored → Bool
gap_stands q s = ltb s.first (length q.tables) && (eqb s.second 0 && not (holds_row q.widths (get_or q.tables s.first no_table) s.box))

-- kind 1: the first origin names a listed tuple, the second is 0, and the record is that tuple's box
unfoldable pub tuple_stands : Question → List (List ℕ) → Stored → Bool
tuple_stands q ts s = ltb s.first (length ts) && (eqb s.second 0 && same s.box (box_of q.widths (get_or ts s.first [])))

-- kind 2: both origins name earlier records, they resolve, the lower half's first, and the record is their resolvent
unfoldable pub resolvent_stands : List Stored → ℕ → Stored → Bool
resolvent_stands bs i s =
    let b = box_at bs s.first in
    let c = box_at bs s.second in
    ltb s.first i && (ltb s.second i && (resolve b c && (lower_first b c && same s.box (resolvent b c))))

-- no other kind
unfoldable pub record_stands : Question → List (List ℕ) → List Stored → ℕ → Stored → Bool
record_stands q ts bs i s =
    pick (eqb s.kind 0) (gap_stands q s)
    (pick (eqb s.kind 1) (tuple_stands q ts s)
    (eqb s.kind 2 && resolvent_stands bs i s))

unfoldable pub records_stand : ℕ → Question → List (List ℕ) → List Stored → List Stored → Bool
records_stand i q ts bs [] = true
records_stand i q ts bs (s ∷ ss) = record_stands q ts bs i s && records_stand (suc i) q ts bs ss

-- at least one record, and the last is the whole space
abbrev pub ends_whole : ℕ → List Stored → Bool
ends_whole n bs = leb 1 (length bs) && same (box_at bs (length bs - 1)) (whole_space n)

unfoldable pub acceptable : Question → List (List ℕ) → List Stored → Bool
acceptable q ts bs =
    ascending ts && (every (is_tuple q) ts
    && (every (λ s. fits_in q.widths s.box) bs && (records_stand 0 q ts bs bs && ends_whole (length q.widths) bs)))

-- ---- in words

abbrev pub part_count : ℕ → List ℕ → ℕ
part_count n l = divided (length l) n

abbrev pub whole_parts : ℕ → List ℕ → Bool
whole_parts n l = eqb (part_count n l * n) (length l)

abbrev pub read_tuples : ℕ → List ℕ → List (List ℕ)
read_tuples n l = rows_of l 0 n (part_count n l)

abbrev pub read_records : List ℕ → List Stored
read_records s = store_of (part_count record_words s) s

-- 1 beyond n
abbrev pub ones_beyond : ℕ → Stored → Bool
ones_beyond n s = same (drop n s.box) (whole_space (max_attributes - n))

-- the listing is whole tuples, the records are whole records
unfoldable pub accepts : Question → List ℕ → List ℕ → Bool
accepts q l s =
    let n = length q.widths in
    whole_parts n l && (whole_parts record_words s && (every (ones_beyond n) (read_records s)
    && acceptable q (read_tuples n l) (map (cut_s n) (read_records s))))

-- the question first, then the checks
abbrev pub check_of : Got Question → List ℕ → List ℕ → ℕ
check_of (bad n) l s = n
check_of (got q rest) l s = when (not (accepts q l s)) check_failed

abbrev pub check_number : List ℕ → List ℕ → List ℕ → ℕ
check_number w l s = check_of (read_question w) l s
