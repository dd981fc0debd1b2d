-- The refusals of a join of files before its run.
--   refusal_number r   == the number of a refusal
--   at_none r          == a refusal at no file
--   in_file k r        == that of the file number k
--   refused_with r     == the answer to a refusal
--   answered x         == the answer of a join that is refused, or not
--   gathering_of r     == what the files are that are refused so
use Rattle.std.specs.Prelude.{None, Some, Result, Ok, Err, ℕ}
use Rattle.fields.specs.Names.{refusal_number as names_refusal}
use Rattle.csv_tables.specs.Refusals.{refusal_number as file_refusal, place_number}
use Rattle.csv_tables.specs.declared.refusal.Refused.{Refused}
use Rattle.files.specs.Gathers.{Gathered, refused_at}
use Rattle.files.specs.Says.{refusal_at}
use Rattle.files.specs.declared.join.CsvJoin.{CsvJoin}
use Rattle.files.specs.declared.refusal.JoinRefused.{JoinRefused}
use Rattle.files.specs.declared.refusal.JoinRefusal.{JoinRefusal}
use Rattle.files.specs.declared.refusal.JoinRefusal.TheVariants.{Names, Tables, End, File, Words}

abbrev pub refusal_number : JoinRefusal → ℕ
refusal_number (Names r) = names_refusal r
refusal_number Tables = 5
refusal_number End = 3
refusal_number (File r) = file_refusal r
refusal_number Words = 1

abbrev pub at_none : JoinRefusal → JoinRefused
at_none r = record { why = r; file = None; place = None }

abbrev pub in_file : ℕ → Refused → JoinRefused
in_file k r = record { why = File r.why; file = Some k; place = r.place }

abbrev pub refused_with : JoinRefused → CsvJoin
refused_with r = refusal_at (refusal_number r.why) (place_number r.file) (place_number r.place)

abbrev pub answered : Result CsvJoin JoinRefused → CsvJoin
answered (Ok j) = j
answered (Err r) = refused_with r

abbrev pub gathering_of : JoinRefused → Gathered
gathering_of r = refused_at (refusal_number r.why) (place_number r.file) (place_number r.place)
