-- What a reader of the printed lines has of demands 2 and 3, and a caller of `run_text`.
--   names_of s          == the names at the top of a text
--   AcceptedText s q   == the text is read, and its tables are the accepted question q
--   Listed s q         == what is printed for it: the join of its tables, or its first tuples
--   RefusedText s n    == the text is refused with n, or it is read and its question is
--   Outcome s          == every text is refused or listed
--   text_run_in q l      == the run of a text's question with the listing's room
--   RanText s l l' r   == a text was accepted, and its question run: its tuples stand at the front of the listing l', as many as the counts say
--   Answering s l l' a == what an answer to a text says, by its case
--   line_fields t, last_fields s == the fields of the last line of a print; of what is printed for a text
--   CompleteText s     == the text is accepted, and all tuples of the join of its tables are printed, in order
--   Relied, Said       == the last line says `complete` only then; and it does say so where the run is not stopped
--   Quoted fs s        == the last line has the fields fs and then three counts, of which resolutions are fewer than gap boxes and listed tuples together
--   OneName            == so of a last line `complete` or `stopped` for a text with one name at the top
--   text_numbers, TextRefusals == the numbers that a text can be refused with; no other refusal comes from a text
--   NeverUnlisted      == a run that is stopped lacks a place for a box, never for a tuple
use Rattle.std.specs.Prelude.{◌≡◌, true, List, [], ◌∷◌, ◌++◌, ℕ, ◌-◌, ◌*◌, ◌≤◌, ◌<◌, length, get_or, take, Result, Ok, Err}
use Rattle.boxes.specs.Limits.{max_attributes}
use Rattle.questions.specs.Orders.{is_in}
use Rattle.questions.specs.Questions.{Question, bad, got, read_question}
use Rattle.questions.specs.Directories.{rows_of}
use Rattle.questions.specs.Words.{words_of}
use Rattle.tables.specs.Joins.{join_of}
use Rattle.course.specs.Runs.{Run, run_of}
use Rattle.search.specs.Says.{list_room}
use Rattle.fields.specs.Fields.{lines_of, fields_of}
use Rattle.fields.specs.Decimals.{decimal}
use Rattle.text.specs.Limits.{listing_boxes}
use Rattle.text.specs.Texts.{read_text}
use Rattle.text.specs.Prints.{line_of, complete_word, stopped_word, tuple_lines, count_fields, run_counts, refusal, roomy_run, printed}
use Rattle.text.specs.TextRuns.{text_run}
use Rattle.text.specs.Puts.{top_line}
use Rattle.text.specs.declared.run.TextRun.{TextRun}
use Rattle.text.specs.Refusals.{refusal_number}
use Rattle.text.specs.declared.refusal.TextRefusal.{TextRefusal}

abbrev pub names_of : List ℕ → List (List ℕ)
names_of s = (read_text s).read.names

pub record AcceptedText (s : List ℕ) (q : Question) : Type 0 where
  pub reads : (read_text s).number ≡ 0
  pub is : (read_text s).read.question ≡ q
  pub accepted : read_question (words_of q) ≡ got q []

pub record Listed (s : List ℕ) (q : Question) : Type 0 where
  pub complete : (roomy_run q).number ≡ 0 → printed s ≡ line_of (names_of s) ++ tuple_lines (join_of q) ++ line_of (complete_word ∷ run_counts (roomy_run q))
  pub stopped : ((roomy_run q).number ≡ 0 → ⊥) → printed s
      ≡ line_of (names_of s) ++ tuple_lines (take (length (roomy_run q).tuples) (join_of q)) ++ line_of (stopped_word ∷ (decimal (roomy_run q).number ∷ run_counts (roomy_run q)))

-- the number of the first question answered no: of the text, or then of its question
pub data RefusedText (s : List ℕ) (n : ℕ) : Type 0 where
  as-text : (read_text s).number ≡ n → (n ≡ 0 → ⊥) → RefusedText s n
  as-question : (read_text s).number ≡ 0 → read_question (words_of (read_text s).read.question) ≡ bad n → RefusedText s n

pub data Outcome (s : List ℕ) : Type 0 where
  refuses : (n : ℕ) → RefusedText s n → printed s ≡ refusal n → Outcome s
  lists : (q : Question) → AcceptedText s q → Listed s q → Outcome s

abbrev pub text_run_in : Question → List ℕ → Run
text_run_in q l = run_of q (list_room q l) listing_boxes

pub record RanText (s l l' : List ℕ) (r : TextRun) : Type 0 where
  pub question : Question
  pub accepted : AcceptedText s question
  pub is : r ≡ text_run question (text_run_in question l)
  pub tuples : rows_of l' 0 r.dimension r.counts.tuples ≡ (text_run_in question l).tuples
  pub within : r.counts.tuples * r.dimension ≤ length l'
  -- a tuple has as many values as there are names, the fields of the text's first line: 1 to 12
  pub dimension : r.dimension ≡ length (names_of s)
  pub names : names_of s ≡ fields_of (top_line s)
  pub some : 1 ≤ r.dimension
  pub few : r.dimension ≤ max_attributes

pub data Answering (s l l' : List ℕ) : Result TextRun TextRefusal → Type 0 where
  as-refused : {r : TextRefusal} → RefusedText s (refusal_number r) → l' ≡ l → Answering s l l' (Err r)
  as-run : {r : TextRun} → RanText s l l' r → Answering s l l' (Ok r)

-- every line has its end, so the last part of a print is empty and the last line is the one before it
abbrev pub line_fields : List ℕ → List (List ℕ)
line_fields t = fields_of (get_or (lines_of t) (length (lines_of t) - 2) [])

abbrev pub last_fields : List ℕ → List (List ℕ)
last_fields s = line_fields (printed s)

pub record CompleteText (s : List ℕ) : Type 0 where
  pub question : Question
  pub accepted : AcceptedText s question
  pub is : printed s ≡ line_of (names_of s) ++ tuple_lines (join_of question) ++ line_of (complete_word ∷ run_counts (roomy_run question))

abbrev pub Relied : Type 0
Relied = (s : List ℕ) → get_or (last_fields s) 0 [] ≡ complete_word → CompleteText s

abbrev pub Said : Type 0
Said = (s : List ℕ) (q : Question) → AcceptedText s q → (roomy_run q).number ≡ 0 → get_or (last_fields s) 0 [] ≡ complete_word

pub record Quoted (fs : List (List ℕ)) (s : List ℕ) : Type 0 where
  pub tuples : ℕ
  pub boxes : ℕ
  pub resolutions : ℕ
  pub line : last_fields s ≡ fs ++ count_fields tuples boxes resolutions
  pub fewer : resolutions < boxes - resolutions

abbrev pub OneName : Type 0
OneName = (s : List ℕ) → length (names_of s) ≡ 1
    → (get_or (last_fields s) 0 [] ≡ complete_word → Quoted (complete_word ∷ []) s)
    × (get_or (last_fields s) 0 [] ≡ stopped_word → Quoted (stopped_word ∷ decimal 14 ∷ []) s)

-- not 1, 2, 3, 6, 11 and 28: the reader writes as many words as it says, and not too many, and a text has no range tables; 13 and 14 are no refusals
abbrev pub text_numbers : List ℕ
text_numbers = 4 ∷ 5 ∷ 7 ∷ 8 ∷ 9 ∷ 10 ∷ 12 ∷ 15 ∷ 16 ∷ 17 ∷ []

abbrev pub TextRefusals : Type 0
TextRefusals = (s : List ℕ) (n : ℕ) → RefusedText s n → is_in n text_numbers ≡ true

-- the listing never stops with 13: its store is full before its listing
abbrev pub NeverUnlisted : Type 0
NeverUnlisted = (s : List ℕ) (q : Question) → AcceptedText s q → ((roomy_run q).number ≡ 0 → ⊥) → (roomy_run q).number ≡ 14
