-- What the checker's parts promise to each other: the tests as the code makes them, of any words. At the directory of an accepted question they are the tests of
-- Checks (`all_checked-is`).
--   resolves_at u v x      == at one attribute: the intervals u and v are the lower and the upper half of one, or one holds the other, and x is the resolvent's
--   resolve_each us vs xs  == so at each attribute; resolves_to us vs xs: and at one the two have halves
--   units_of ws p          == the units of values; 0 at a width above the widest
--   entry_has_row w e p     == the tuple p has its row in the table of the entry e, as the search by halves finds it
--   entries_have_rows w es ts == so of each tuple in each entry's table
--   gap_checked, tuple_checked, resolvent_checked == what is asked of a box by each kind; kind_checked: by its kind, if it has one
--   record_checked, records_checked == what is asked of a record; of the records from number i on
--   fits_whole n ws s      == a record within the widths, and 1 beyond n
--   tuples_checked w d l == all that is asked of the words of a listing; all_checked w d l rs: of them and of the records, as the code asks it
--   Sized d               == a directory with numbers within the limits, and arrays that are long enough
use Rattle.std.specs.Prelude.{◌≡◌, Bool, true, false, ◌&&◌, not, Option, Some, None, ℕ, suc, ◌≤◌, eqb, ltb, length, get_or, take}
use mathlib.Core.List.{List, [], ◌∷◌, map, zip_with}
use Rattle.boxes.specs.Limits.{max_attributes}
use Rattle.boxes.specs.Every.{every}
use Rattle.boxes.specs.Boxes.{count_halves}
use Rattle.boxes.specs.Intervals.{pick, halves, comparable_i, resolvent_i, unit_or0}
use Rattle.questions.specs.Limits.{max_tables}
use Rattle.questions.specs.Orders.{same}
use Rattle.questions.specs.Directories.{entry_at, filled_to}
use Rattle.questions.specs.declared.directory.TableEntry.{TableEntry}
use Rattle.questions.specs.declared.directory.Directory.{Directory}
use Rattle.tables.specs.Looks.{row_found}
use Rattle.tables.specs.Seeking.{seek}
use Rattle.course.specs.Stores.{Stored, box_at}
use Rattle.search.specs.Records.{cut_s}
use Rattle.checker.specs.Kinds.{kind_of}
use Rattle.checker.specs.declared.kind.Kind.{Kind}
use Rattle.checker.specs.declared.kind.Kind.TheVariants.{Gap, Tuple, Resolvent}
use Rattle.checker.specs.Checks.{is_point, ascending, fits_in, ends_whole, whole_parts, read_tuples, ones_beyond}

unfoldable pub resolves_at : ℕ → ℕ → ℕ → Bool
resolves_at u v x = eqb x (resolvent_i u v) && pick (halves u v) (ltb u v) (comparable_i u v)

unfoldable pub resolve_each : List ℕ → List ℕ → List ℕ → Bool
resolve_each [] vs xs = true
resolve_each (u ∷ us) [] xs = false
resolve_each (u ∷ us) (v ∷ vs) [] = false
resolve_each (u ∷ us) (v ∷ vs) (x ∷ xs) = resolves_at u v x && resolve_each us vs xs

abbrev pub resolves_to : List ℕ → List ℕ → List ℕ → Bool
resolves_to us vs xs = eqb (count_halves us vs) 1 && resolve_each us vs xs

abbrev pub units_of : List ℕ → List ℕ → List ℕ
units_of ws p = zip_with unit_or0 ws p

abbrev pub entry_has_row : List ℕ → TableEntry → List ℕ → Bool
entry_has_row w e p = row_found w e (filled_to max_attributes 0 p)

unfoldable pub entries_have_rows : List ℕ → List TableEntry → List (List ℕ) → Bool
entries_have_rows w [] ts = true
entries_have_rows w (e ∷ es) ts = every (entry_has_row w e) ts && entries_have_rows w es ts

abbrev pub fits_whole : ℕ → List ℕ → Stored → Bool
fits_whole n ws s = ones_beyond n s && fits_in ws (take n s.box)

abbrev pub gap_checked : List ℕ → Directory → ℕ → List ℕ → Bool
gap_checked w d t b = ltb t d.tables && not (seek w d.widths (entry_at d.entries t) b)

abbrev pub tuple_checked : List ℕ → List (List ℕ) → ℕ → List ℕ → Bool
tuple_checked ws ts x b = ltb x (length ts) && same b (units_of ws (get_or ts x []))

abbrev pub resolvent_checked : List Stored → ℕ → ℕ → List ℕ → Bool
resolvent_checked bs x y b = ltb x (length bs) && (ltb y (length bs) && resolves_to (box_at bs x) (box_at bs y) b)

abbrev pub kind_checked : List ℕ → Directory → List (List ℕ) → List Stored → List ℕ → Option Kind → Bool
kind_checked w d ts bs b (Some (Gap t)) = gap_checked w d t b
kind_checked w d ts bs b (Some (Tuple x)) = tuple_checked (take d.dimension d.widths) ts x b
kind_checked w d ts bs b (Some (Resolvent x y)) = resolvent_checked bs x y b
kind_checked w d ts bs b None = false

abbrev pub record_checked : List ℕ → Directory → List (List ℕ) → List Stored → ℕ → Stored → Bool
record_checked w d ts bs i s = kind_checked w d ts (take i bs) s.box (kind_of s)

unfoldable pub records_checked : ℕ → List ℕ → Directory → List (List ℕ) → List Stored → List Stored → Bool
records_checked i w d ts bs [] = true
records_checked i w d ts bs (s ∷ ss) = record_checked w d ts bs i s && records_checked (suc i) w d ts bs ss

abbrev pub tuples_checked : List ℕ → Directory → List ℕ → Bool
tuples_checked w d l =
    let ts = read_tuples d.dimension l in
    whole_parts d.dimension l && (ascending ts && (every (is_point (take d.dimension d.widths)) ts && entries_have_rows w (take d.tables d.entries) ts))

-- cheap questions first
abbrev pub all_checked : List ℕ → Directory → List ℕ → List Stored → Bool
all_checked w d l rs =
    let n = d.dimension in
    let bs = map (cut_s n) rs in
    ends_whole n bs && (tuples_checked w d l && (every (fits_whole n (take n d.widths)) rs && records_checked 0 w d (read_tuples n l) bs bs))

pub record Sized (d : Directory) : Type 0 where
  pub some : 1 ≤ d.dimension
  pub few : d.dimension ≤ max_attributes
  pub few-tables : d.tables ≤ max_tables
  pub widths : length (take d.dimension d.widths) ≡ d.dimension
  pub entries : length (take d.tables d.entries) ≡ d.tables
