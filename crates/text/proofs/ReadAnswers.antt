-- What reading a text into words that are long enough comes to, and the check of the question that was read.
--   has_room_lem     == such words have room for every text
--   asked s      == the question that a text was read into
--   ReadTo s w k == the text was read, and the first k of the words w are its question's
--   reads-refused, reads-words == the answer of reading is not how many words there are, so its number is the refusal's; or it is
--   check-refused, check-accepted == each answer of the check
use mathlib.Core.Path.{◌≡◌, refl, sym, ap, ◌∙◌}
use mathlib.Core.Bool.{false, true≢false}
use mathlib.Core.List.{List}
use Prim.Native.Nat.{ℕ, ◌+◌, ◌≤◌}
use native.Mathlib.Omega.{arith}
use borrow.Author.Tests.{eq-eqb, eqb-false, leb-true, le-ltb}
use lib.Dec.{eqb, leb}
use lib.ListN.{length, get_or, take, drop, length-append}
use lib.Seq.{take-append_seam}
use Rattle.boxes.proofs.Tests.{by}
use Rattle.questions.specs.Questions.{Question, Got, bad, got, read_question}
use Rattle.questions.specs.Words.{words_of, over}
use Rattle.questions.specs.Says.{CheckSays}
use Rattle.questions.proofs.Laws.{refused-number, refusal-some, words_of-is}
use Rattle.fields.specs.Limits.{max_bytes}
use Rattle.text.specs.Limits.{spare_words}
use Rattle.text.specs.Texts.{words_read, read_text}
use Rattle.text.specs.Says.{lacks_room, reading_number, reading_of, ReadSays}
use Rattle.questions.specs.Refusals as of_question
use Rattle.questions.specs.declared.refusal.Refusal.{Refusal}
use Rattle.text.proofs.Steps.{question-some}
use Rattle.text.specs.TextRuns.{RunTextSays}
use Rattle.text.specs.Claims.{AcceptedText, as-text, as-question}
use Rattle.std.specs.Prelude.{Result, Ok, Err, is_ok}
use Rattle.text.specs.declared.refusal.TextRefusal.{TextRefusal}
use Rattle.text.specs.declared.refusal.TextRefusal.TheVariants.{Question as Of_question}
use Rattle.text.specs.Refusals.{refusal_number, by_number}
use Rattle.text.proofs.ReadWords.{words_read-some}
use Rattle.text.proofs.Demands.{accepted-text}
use Rattle.text.proofs.ReadWidths.{read_text-widths}
use Rattle.text.proofs.TextRuns.{refused_says}

abbrev pub asked : List ℕ → Question
asked s = (read_text s).read.question

pub record ReadTo (s w : List ℕ) (k : ℕ) : Type 0 where
  pub reads : (read_text s).number ≡ 0
  pub within : k ≤ length w
  pub words : take k w ≡ words_of (asked s)
  pub first : get_or w 0 0 ≡ length (asked s).widths

-- ---- each answer of reading

abbrev count_of : Result ℕ ℕ → ℕ
count_of (Ok k) = k
count_of (Err n) = 0

module _ {s w w' : List ℕ} {r : Result ℕ TextRefusal} (long : length w ≡ max_bytes + spare_words) (says : ReadSays s w w' r) where
  has_room_lem : lacks_room s w ≡ false
  has_room_lem =
      by (leb (length s) max_bytes)
      (λ t. rw (t, le-ltb (length w) (length s + spare_words) (omega (arith, leb-true (length s) max_bytes t))))
      (λ f. rw f)

  answer-is : by_number r ≡ reading_of (read_text s)
  answer-is = rw has_room_lem at says.answer

  words_are : w' ≡ over (words_read (read_text s).read) w
  words_are = rw has_room_lem at says.words

  number_is : reading_number r ≡ (read_text s).number
  number_is = rw has_room_lem at says.number

  pub reads-refused : {l : List ℕ} {e : TextRefusal} → r ≡ Err e → RunTextSays s l l (Err e)
  reads-refused {e = e} err =
      let same : refusal_number e ≡ (read_text s).number = ap reading_number (sym err) ∙ number_is in
      by (eqb (read_text s).number 0)
      (λ t. absurd (true≢false (sym (ap is_ok (ap by_number (sym err) ∙ rw t at answer-is)))))
      (λ f. refused_says (as-text (sym same) (λ z. eqb-false (read_text s).number 0 f (sym same ∙ z))))

  pub reads-words : {k : ℕ} → r ≡ Ok k → ReadTo s w' k
  reads-words {k} e =
      let z : (read_text s).number ≡ 0 = sym number_is ∙ ap reading_number e in
      let a : ◌≡◌ {A = Result ℕ ℕ} (Ok k) (Ok (length (words_read (read_text s).read))) = ap by_number (sym e) ∙ answer-is ∙ rw (eq-eqb (read_text s).number 0 z) in
      let xs : List ℕ = words_of (asked s) in
      let all : words_read (read_text s).read ≡ xs = words_read-some (read_text s).read (read_text-widths s z) in
      let many : k ≡ length xs = ap (λ (o : Result ℕ ℕ). count_of o) a ∙ ap length all in
      let front : w' ≡ over xs w = rw all at words_are in
      record {
        reads = z;
        within = omega (arith, many, ap length front, length-append xs (drop (length xs) w));
        words = rw (many, front) (take-append_seam xs (drop (length xs) w));
        first = rw (front, words_of-is (asked s)) refl;
      }

-- ---- each answer of the check

module _ {s w : List ℕ} {k n : ℕ} (r : ReadTo s w k) (says : CheckSays (take k w) n) where
  pub check-refused : {l : List ℕ} {no : Refusal} → n ≡ of_question.refusal_number no → RunTextSays s l l (Err (Of_question no))
  check-refused {l} {no} is = go (read_question (words_of (asked s))) refl
    where
      go : (g : Got Question) → read_question (words_of (asked s)) ≡ g → RunTextSays s l l (Err (Of_question no))
      go (bad m) e = let same : n ≡ m = says ∙ rw (r.words, e) in refused_says (as-question r.reads (e ∙ ap bad (sym same ∙ is)))
      go (got q u) e = absurd (question-some no (sym is ∙ says ∙ rw (r.words, e)))

  pub check-accepted : n ≡ 0 → AcceptedText s (asked s)
  check-accepted z = go (read_question (words_of (asked s))) refl
    where
      go : (g : Got Question) → read_question (words_of (asked s)) ≡ g → AcceptedText s (asked s)
      go (bad m) e = let same : n ≡ m = says ∙ rw (r.words, e) in absurd (omega (arith, refusal-some m (refused-number (words_of (asked s)) m e)))
      go (got q u) e = accepted-text s r.reads e
