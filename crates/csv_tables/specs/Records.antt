-- The records of a comma-separated file, by the grammar of RFC 4180, byte by byte.
--   comma, quote, carriage, feed == the bytes that part and end fields and lines
--   is_text b             == TEXTDATA of the RFC: what a field without quotes may hold
--   kind_of b             == what a byte is
--   Mode                 == where reading stands: at a field's start, in a field without quotes, in one with quotes, after a quote in such a field,
--                           after the CR that ends a record
--   Move, move m k       == what a byte of a kind does in a mode
--   Records              == the records of a file one after the other, then its end, or something outside the grammar
--   at_end m fs f         == the file ends: fs are the fields of the open record, f is what was read of the open field, its quotes taken off
--   records_from m fs f s == the records that are read from the bytes s on
--   records_of s          == the records of a file; one without bytes has one record with one empty field
--   follow s             == what follows the line's end of a record: no record where nothing follows
--   record_list rs        == records one after the other, and then the file's end
use Rattle.std.specs.Prelude.{Bool, ◌&&◌, ◌||◌, List, [], ◌∷◌, ◌++◌, ℕ, eqb, leb}
use Rattle.boxes.specs.Intervals.{pick}
use Rattle.csv_tables.specs.declared.field.Kind.{Kind}
use Rattle.csv_tables.specs.declared.field.Kind.TheVariants.{Text, Comma, Quote, Return, Feed, Other}

abbrev pub comma : ℕ
comma = 44

abbrev pub quote : ℕ
quote = 34

abbrev pub carriage : ℕ
carriage = 13

abbrev pub feed : ℕ
feed = 10

-- TEXTDATA = %x20-21 / %x23-2B / %x2D-7E
unfoldable pub is_text : ℕ → Bool
is_text b = (leb 32 b && leb b 33) || ((leb 35 b && leb b 43) || (leb 45 b && leb b 126))

unfoldable pub kind_of : ℕ → Kind
kind_of b = pick (is_text b) Text (pick (eqb b comma) Comma (pick (eqb b quote) Quote (pick (eqb b carriage) Return (pick (eqb b feed) Feed Other))))

pub data Mode : Type 0 where
  start : Mode
  plain : Mode
  quoted : Mode
  closing : Mode
  ending : Mode

-- the byte belongs to the field; it does not; it ends the field; it ends the record; it is outside the grammar
pub data Move : Type 0 where
  keep : Mode → Move
  skip : Mode → Move
  cut : Move
  line : Move
  stop : Move

-- field = (escaped / non-escaped); non-escaped = *TEXTDATA; escaped = DQUOTE *(TEXTDATA / COMMA / CR / LF / 2DQUOTE) DQUOTE
abbrev pub move : Mode → Kind → Move
move start Text = keep plain
move start Comma = cut
move start Quote = skip quoted
move start Return = skip ending
move start Feed = stop
move start Other = stop
move plain Text = keep plain
move plain Comma = cut
move plain Quote = stop
move plain Return = skip ending
move plain Feed = stop
move plain Other = stop
move quoted Text = keep quoted
move quoted Comma = keep quoted
move quoted Quote = skip closing
move quoted Return = keep quoted
move quoted Feed = keep quoted
move quoted Other = stop
move closing Text = stop
move closing Comma = cut
move closing Quote = keep quoted
move closing Return = skip ending
move closing Feed = stop
move closing Other = stop
move ending Text = stop
move ending Comma = stop
move ending Quote = stop
move ending Return = stop
move ending Feed = line
move ending Other = stop

pub data Records : Type 0 where
  ended : Records
  broken : Records
  next : List (List ℕ) → Records → Records

-- the last record may be without a line's end; no field in quotes, and no CR, may be open
abbrev pub at_end : Mode → List (List ℕ) → List ℕ → Records
at_end start fs f = next (fs ++ (f ∷ [])) ended
at_end plain fs f = next (fs ++ (f ∷ [])) ended
at_end quoted fs f = broken
at_end closing fs f = next (fs ++ (f ∷ [])) ended
at_end ending fs f = broken

unfoldable pub records_from : Mode → List (List ℕ) → List ℕ → List ℕ → Records
records_from m fs f [] = at_end m fs f
records_from m fs f (b ∷ s) =
    elim (move m (kind_of b)) [
      | keep n ↦ records_from n fs (f ++ (b ∷ [])) s
      | skip n ↦ records_from n fs f s
      | cut ↦ records_from start (fs ++ (f ∷ [])) [] s
      | line ↦ next (fs ++ (f ∷ [])) (elim s [ [] ↦ ended | c ∷ t ↦ records_from start [] [] s ])
      | stop ↦ broken
    ]

abbrev pub records_of : List ℕ → Records
records_of s = records_from start [] [] s

unfoldable pub follow : List ℕ → Records
follow [] = ended
follow (b ∷ s) = records_of (b ∷ s)

unfoldable pub record_list : List (List (List ℕ)) → Records
record_list [] = ended
record_list (fs ∷ rs) = next fs (record_list rs)
