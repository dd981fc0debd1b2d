-- What is printed for a text, byte for byte.
--   line_of fs        == a line: fields with one space between two, and the line's end
--   complete_word, stopped_word, refused_word == the words of a last line
--   tuple_line p, tuple_lines ts == a line for each tuple
--   count_fields tuples boxes resolutions, last_with n counts == the fields of three counts; the last line with a number and these
--   run_counts x, last_line x == the fields of a run's counts; its last line
--   listing names x  == the names, a line for each tuple, and the last line
--   refusal n        == all that a refusal prints
--   roomy_run q       == the run with the program's room
--   printed_run names g, printed_text e == what is printed for what the words read as; for how reading ended
--   printed s        == what is printed for a text
use Rattle.std.specs.Prelude.{List, [], ◌∷◌, ◌++◌, map, ℕ, eqb, length}
use Rattle.boxes.specs.Intervals.{pick}
use Rattle.questions.specs.Questions.{Question, Got, bad, got, read_question}
use Rattle.questions.specs.Words.{flat, words_of}
use Rattle.course.specs.Stores.{resolutions}
use Rattle.course.specs.Runs.{Run, run_of}
use Rattle.search.specs.Says.{divided}
use Rattle.fields.specs.Fields.{space, line_end}
use Rattle.fields.specs.Decimals.{decimal}
use Rattle.fields.specs.Writing.{line_by}
use Rattle.text.specs.Limits.{listing_boxes, listing_words}
use Rattle.text.specs.Texts.{Ended, read_text}

abbrev pub line_of : List (List ℕ) → List ℕ
line_of fs = line_by space (line_end ∷ []) fs

-- the bytes of `complete`
abbrev pub complete_word : List ℕ
complete_word = 99 ∷ 111 ∷ 109 ∷ 112 ∷ 108 ∷ 101 ∷ 116 ∷ 101 ∷ []

-- the bytes of `stopped`
abbrev pub stopped_word : List ℕ
stopped_word = 115 ∷ 116 ∷ 111 ∷ 112 ∷ 112 ∷ 101 ∷ 100 ∷ []

-- the bytes of `refused`
abbrev pub refused_word : List ℕ
refused_word = 114 ∷ 101 ∷ 102 ∷ 117 ∷ 115 ∷ 101 ∷ 100 ∷ []

abbrev pub tuple_line : List ℕ → List ℕ
tuple_line p = line_of (map decimal p)

abbrev pub tuple_lines : List (List ℕ) → List ℕ
tuple_lines ts = flat (map tuple_line ts)

abbrev pub count_fields : ℕ → ℕ → ℕ → List (List ℕ)
count_fields tuples boxes resolutions = decimal tuples ∷ decimal boxes ∷ decimal resolutions ∷ []

-- `complete`, tuples, boxes, resolutions; a stop prints `stopped`, the number and the three counts
abbrev pub last_with : ℕ → List (List ℕ) → List ℕ
last_with n counts = pick (eqb n 0) (line_of (complete_word ∷ counts)) (line_of (stopped_word ∷ (decimal n ∷ counts)))

abbrev pub run_counts : Run → List (List ℕ)
run_counts x = count_fields (length x.tuples) (length x.boxes) (resolutions x.boxes)

abbrev pub last_line : Run → List ℕ
last_line x = last_with x.number (run_counts x)

-- the names, a line for each tuple, and a last line
abbrev pub listing : List (List ℕ) → Run → List ℕ
listing names x = line_of names ++ tuple_lines x.tuples ++ last_line x

-- a refusal prints only `refused` and the number
abbrev pub refusal : ℕ → List ℕ
refusal n = line_of (refused_word ∷ decimal n ∷ [])

-- room for 1,000 boxes and 30,000 listing words
abbrev pub roomy_run : Question → Run
roomy_run q = run_of q (divided listing_words (length q.widths)) listing_boxes

abbrev pub printed_run : List (List ℕ) → Got Question → List ℕ
printed_run names (bad n) = refusal n
printed_run names (got q s) = listing names (roomy_run q)

abbrev pub printed_text : Ended → List ℕ
printed_text e = pick (eqb e.number 0) (printed_run e.read.names (read_question (words_of e.read.question))) (refusal e.number)

unfoldable pub printed : List ℕ → List ℕ
printed s = printed_text (read_text s)
