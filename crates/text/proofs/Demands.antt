-- What a reader of the printed lines has of demands 2 and 3.
--   printed-is == what is printed, by how reading ended
--   Answered s, answered == every text is refused with a number that is at most 17, or accepted
--   accepted-printed, accepted-listed == what is printed for an accepted text
--   accepted-text == a text that is read, and whose words are accepted
--   run-left, run-points == what holds of the run of an accepted text's question with room for some tuples
--   roomy-left, roomy-points == so with the program's room
--   outcome    == every text is refused, or what is printed is the join of its tables or the first tuples of it
use mathlib.Core.Path.{◌≡◌, refl, ◌∙◌}
use mathlib.Core.Bool.{true}
use mathlib.Core.List.{List, []}
use Prim.Native.Nat.{ℕ, ◌≤◌}
use native.Mathlib.Omega.{arith}
use borrow.Author.Tests.{eqb-true, eqb-false, eq-eqb, ne_eqb}
use lib.Dec.{eqb}
use lib.ListN.{length}
use Rattle.boxes.specs.Fits.{Each, Point}
use Rattle.boxes.proofs.Tests.{by}
use Rattle.boxes.proofs.Lists.{mem-each, each_take}
use Rattle.questions.specs.Questions.{Question, Got, bad, got, read_question}
use Rattle.questions.specs.Words.{words_of}
use Rattle.questions.proofs.Laws.{refused-number, refusal-few, read_question-words_of}
use Rattle.tables.specs.Joins.{join_of}
use Rattle.tables.proofs.Laws.{joined}
use Rattle.course.specs.Runs.{run_of}
use Rattle.course.specs.Claims.{Left}
use Rattle.course.proofs.Laws.{demand-3}
use Rattle.search.specs.Says.{divided}
use Rattle.text.specs.Limits.{listing_boxes, listing_words}
use Rattle.text.specs.Texts.{read_text}
use Rattle.text.specs.Prints.{listing, refusal, roomy_run, printed_text, printed}
use Rattle.text.specs.Claims.{names_of, AcceptedText, Listed, RefusedText, as-text, as-question, Outcome}
use Rattle.text.proofs.Shapes.{read_text-shaped}
use Rattle.text.proofs.Refusals.{read_text-few}

pub printed-is : (s : List ℕ) → printed s ≡ printed_text (read_text s)
unfolding printed
printed-is s = refl

-- ---- refused or accepted

-- words that are accepted are read as the question that they are the words of
pub accepted-text : (s : List ℕ) {p : Question} {u : List ℕ} → (read_text s).number ≡ 0 → read_question (words_of (read_text s).read.question) ≡ got p u
    → AcceptedText s (read_text s).read.question
accepted-text s z e =
    let same = read_question-words_of (read_text s).read.question (read_text-shaped s) e in
    record { reads = z; is = refl; accepted = e ∙ rw (same.0, same.1) }

pub data Answered (s : List ℕ) : Type 0 where
  refusing : (n : ℕ) → n ≤ 28 → RefusedText s n → printed s ≡ refusal n → Answered s
  accepting : (q : Question) → AcceptedText s q → Answered s

pub accepted-printed : (s : List ℕ) (q : Question) → AcceptedText s q → printed s ≡ listing (names_of s) (roomy_run q)
accepted-printed s q a = printed-is s ∙ rw (a.reads, a.is, a.accepted)

pub answered : (s : List ℕ) → Answered s
answered s =
    by (eqb (read_text s).number 0)
    (λ t. by-words t (read_question (words_of q)) refl)
    (λ f. refusing (read_text s).number (omega (arith, read_text-few s)) (as-text refl (eqb-false (read_text s).number 0 f)) (printed-is s ∙ rw f))
  where
    q : Question
    q = (read_text s).read.question

    by-words : eqb (read_text s).number 0 ≡ true → (g : Got Question) → read_question (words_of q) ≡ g → Answered s
    by-words t (bad n) e = refusing n (refusal-few n (refused-number (words_of q) n e)) (as-question (eqb-true (read_text s).number 0 t) e) (printed-is s ∙ rw (t, e))
    by-words t (got p u) e = accepting q (accepted-text s (eqb-true (read_text s).number 0 t) e)

-- ---- an accepted text

module _ (q : Question) (e : read_question (words_of q) ≡ got q []) where
  -- with room for m tuples
  run-left : (m : ℕ) → Left q (run_of q m listing_boxes)
  run-left m = (demand-3 (words_of q) q e).1 m listing_boxes

  -- its tuples lie within the widths
  pub run-points : (m : ℕ) → Each (Point q.widths) (run_of q m listing_boxes).tuples
  run-points m = rw (run-left m).first-tuples (each_take (length (run_of q m listing_boxes).tuples) (mem-each (join_of q) (λ p i. ((joined q).of-join p i).0)))

  -- with the program's room
  pub roomy-left : Left q (roomy_run q)
  roomy-left = run-left (divided listing_words (length q.widths))

  pub roomy-points : Each (Point q.widths) (roomy_run q).tuples
  roomy-points = run-points (divided listing_words (length q.widths))

pub accepted-listed : (s : List ℕ) (q : Question) → AcceptedText s q → Listed s q
accepted-listed s q a =
    let x = roomy-left q a.accepted in
    record {
      complete = λ e. accepted-printed s q a ∙ rw (x.complete e, eq-eqb (roomy_run q).number 0 e);
      stopped = λ n. accepted-printed s q a ∙ rw (← x.first-tuples, ne_eqb (roomy_run q).number 0 n);
    }

pub outcome : (s : List ℕ) → Outcome s
outcome s = by_answer (answered s)
  where
    by_answer : Answered s → Outcome s
    by_answer (refusing n few why is) = Outcome.refuses n why is
    by_answer (accepting q a) = Outcome.lists q a (accepted-listed s q a)
