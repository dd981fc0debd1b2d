-- What becomes of a text: it is refused, or its question is run, with room for the program's boxes and for so many words of listing.
--   Became            == a refusal's number; or the names at the top, the question and its run
--   became_run m names g, became_text m e, became m s == what becomes of what the words read as; of how reading ended; of a text: with m words of listing
--   became_number b    == the paper's number: of the refusal, or of the run
--   print_of b         == what is printed for what became of a text, with the program's words of listing
--   listed_over b l    == a listing with the run's tuples at its front; a refusal changes no word
--   counts_of x, text_run q x == the counts of a run; a run as the code answers it, with the number of its attributes
--   answer_of b        == what became of a text: its run, or the refusal's number
--   answer_number a    == the paper's number of an answer
--   RanApart w l l' n  == a run with a store of its own
--   RunTextSays s l l' a == the answer and its number, and the later content of the listing, for every text and any listing
use Rattle.std.specs.Prelude.{◌≡◌, List, ℕ, ◌*◌, eqb, length, replicate, Result, Ok, Err}
use Rattle.boxes.specs.Intervals.{pick}
use Rattle.questions.specs.Questions.{Question, Got, bad, got, read_question}
use Rattle.questions.specs.Words.{flat, words_of, over}
use Rattle.course.specs.Stores.{resolutions}
use Rattle.course.specs.Runs.{Run, run_of}
use Rattle.search.specs.Limits.{record_words}
use Rattle.search.specs.Says.{divided, RunSays}
use Rattle.search.specs.declared.run.Counts.{Counts}
use Rattle.text.specs.Limits.{listing_boxes}
use Rattle.text.specs.Texts.{Ended, read_text}
use Rattle.text.specs.Prints.{listing, refusal}
use Rattle.text.specs.declared.run.TextRun.{TextRun}
use Rattle.text.specs.Refusals.{refusal_number, by_number}
use Rattle.text.specs.declared.refusal.TextRefusal.{TextRefusal}

pub data Became : Type 0 where
  refused : ℕ → Became
  ran : List (List ℕ) → Question → Run → Became

abbrev pub became_run : ℕ → List (List ℕ) → Got Question → Became
became_run m names (bad n) = refused n
became_run m names (got q s) = ran names q (run_of q (divided m (length q.widths)) listing_boxes)

abbrev pub became_text : ℕ → Ended → Became
became_text m e = pick (eqb e.number 0) (became_run m e.read.names (read_question (words_of e.read.question))) (refused e.number)

unfoldable pub became : ℕ → List ℕ → Became
became m s = became_text m (read_text s)

abbrev pub became_number : Became → ℕ
became_number (refused n) = n
became_number (ran names q x) = x.number

abbrev pub print_of : Became → List ℕ
print_of (refused n) = refusal n
print_of (ran names q x) = listing names x

abbrev pub listed_over : Became → List ℕ → List ℕ
listed_over (refused n) l = l
listed_over (ran names q x) l = over (flat x.tuples) l

abbrev pub counts_of : Run → Counts
counts_of x = record { number = x.number; tuples = length x.tuples; boxes = length x.boxes; resolutions = resolutions x.boxes }

abbrev pub text_run : Question → Run → TextRun
text_run q x = record { dimension = length q.widths; counts = counts_of x }

abbrev pub answer_of : Became → Result TextRun ℕ
answer_of (refused n) = Err n
answer_of (ran names q x) = Ok (text_run q x)

abbrev pub answer_number : Result TextRun TextRefusal → ℕ
answer_number (Err r) = refusal_number r
answer_number (Ok r) = r.counts.number

-- a run in memory of its own: with some store, that has room for the program's boxes
pub record RanApart (w l l' : List ℕ) (n : Counts) : Type 0 where
  pub store : List ℕ
  pub run : RunSays w l l' (replicate (listing_boxes * record_words) 0) store n

pub record RunTextSays (s l l' : List ℕ) (a : Result TextRun TextRefusal) : Type 0 where
  pub answer : by_number a ≡ answer_of (became (length l) s)
  pub number : answer_number a ≡ became_number (became (length l) s)
  pub listing : l' ≡ listed_over (became (length l) s) l
