-- What becomes of a text, by whether it is refused or accepted, and what an answer to it says.
--   became-is       == by how reading ended
--   refused-became, accepted-became == a refusal; a run
--   printed-became  == what is printed for a text, by what became of it
--   refused_says    == of a refused text: the answer is the refusal, and the listing stays
--   counts-are      == a run has one result
--   ran_says        == of an accepted text: the answer is the run, and the listing has its tuples
--   text-widths, text-even == an accepted text has as many widths as names, and its tuples as many values
--   ran-text        == these tuples, and their values, as many as there are names
--   run-answers     == what an answer to a text says, by its case
use mathlib.Core.Path.{◌≡◌, refl, sym, ap, ◌∙◌, subst}
use mathlib.Core.Bool.{true≢false}
use mathlib.Core.List.{List, []}
use Prim.Native.Nat.{ℕ}
use native.Mathlib.Omega.{arith}
use borrow.Author.Tests.{ne_eqb}
use lib.ListN.{length, drop, length-append}
use Rattle.boxes.specs.Fits.{Each}
use Rattle.boxes.proofs.Lists.{each-imp, each2-length}
use Rattle.questions.specs.Questions.{Question}
use Rattle.questions.specs.Words.{flat}
use Rattle.questions.proofs.Laws.{rows_of-flat, length-flat}
use Rattle.course.specs.Runs.{Run, run_of}
use Rattle.search.specs.Says.{divided, list_room, Counted}
use Rattle.search.specs.declared.run.Counts.{Counts}
use Rattle.text.specs.Limits.{listing_boxes, listing_words}
use Rattle.text.specs.Texts.{read_text}
use Rattle.text.specs.Prints.{printed}
use Rattle.text.specs.TextRuns.{Became, refused, ran, became_text, became, became_number, print_of, listed_over, counts_of, text_run, answer_of, RunTextSays}
use Rattle.text.specs.Claims.{names_of, AcceptedText, RefusedText, as-text, as-question, text_run_in, RanText, Answering, as-refused, as-run}
use Rattle.text.specs.declared.run.TextRun.{TextRun}
use Rattle.std.specs.Prelude.{Result, Ok, Err, is_ok}
use Rattle.text.specs.declared.refusal.TextRefusal.{TextRefusal}
use Rattle.text.specs.Refusals.{refusal_number, by_number}
use Rattle.text.proofs.ReadNames.{read_text-top, read_names}
use Rattle.text.proofs.ReadWidths.{read_text-arities}
use Rattle.text.proofs.Demands.{Answered, refusing, accepting, answered, accepted-printed, run-points}

became-is : (m : ℕ) (s : List ℕ) → became m s ≡ became_text m (read_text s)
unfolding became
became-is m s = refl

pub refused-became : (m : ℕ) {s : List ℕ} {n : ℕ} → RefusedText s n → became m s ≡ refused n
refused-became m {s} {n} (as-text e f) = became-is m s ∙ rw (e, ne_eqb n 0 f)
refused-became m {s} (as-question e r) = became-is m s ∙ rw (e, r)

pub accepted-became : (m : ℕ) {s : List ℕ} {q : Question} → AcceptedText s q → became m s ≡ ran (names_of s) q (run_of q (divided m (length q.widths)) listing_boxes)
accepted-became m {s} a = became-is m s ∙ rw (a.reads, a.is, a.accepted)

-- ---- what is printed

pub printed-became : (s : List ℕ) → printed s ≡ print_of (became listing_words s)
printed-became s = by-text (answered s)
  where
    by-text : Answered s → printed s ≡ print_of (became listing_words s)
    by-text (refusing n few why is) = is ∙ sym (ap print_of (refused-became listing_words why))
    by-text (accepting q a) = accepted-printed s q a ∙ sym (ap print_of (accepted-became listing_words a))

-- ---- the tuples of an accepted text

module _ {s : List ℕ} {q : Question} (a : AcceptedText s q) where
  text-widths : length q.widths ≡ length (names_of s)
  text-widths = ap (λ (p : Question). length p.widths) (sym a.is) ∙ (read_text-arities s a.reads).named

  pub text-even : (m : ℕ) → Each (λ p. length p ≡ length (names_of s)) (run_of q m listing_boxes).tuples
  text-even m = each-imp (λ p h. sym (each2-length h) ∙ text-widths) (run-points q a.accepted m)

-- ---- what the code answers

abbrev number_of : Result TextRun ℕ → ℕ
number_of (Ok r) = 0
number_of (Err n) = n

abbrev run_or : TextRun → Result TextRun ℕ → TextRun
run_or r (Ok t) = t
run_or r (Err n) = r

pub refused_says : {s l : List ℕ} {r : TextRefusal} → RefusedText s (refusal_number r) → RunTextSays s l l (Err r)
refused_says {s} {l} h =
    let e = refused-became (length l) h in
    record { answer = sym (ap answer_of e); number = sym (ap became_number e); listing = sym (ap (λ (b : Became). listed_over b l) e) }

pub counts-are : {x : Run} {c : Counts} → Counted x c → c ≡ counts_of x
counts-are h = rw (← h.number, ← h.tuples, ← h.boxes, ← h.resolutions)

pub ran_says : {s l l' : List ℕ} {q : Question} {r : TextRun} → AcceptedText s q → r.dimension ≡ length q.widths → Counted (text_run_in q l) r.counts
    → l' ≡ listed_over (ran (names_of s) q (text_run_in q l)) l → RunTextSays s l l' (Ok r)
ran_says {s} {l} {q = q} {r = r} a n h there =
    let e = accepted-became (length l) a in
    let made : ℕ → Counts → TextRun = λ d c. record { dimension = d; counts = c } in
    let is : r ≡ text_run q (text_run_in q l) = ap (λ (d : ℕ). made d r.counts) n ∙ ap (made (length q.widths)) (counts-are h) in
    record { answer = ap Ok is ∙ sym (ap answer_of e); number = h.number ∙ sym (ap became_number e); listing = there ∙ sym (ap (λ (b : Became). listed_over b l) e) }

-- ---- what an answer says

refused-answer : {s l l' : List ℕ} {n : ℕ} (a : Result TextRun TextRefusal) → by_number a ≡ Err n → ((r : TextRefusal) → refusal_number r ≡ n → Answering s l l' (Err r)) → Answering s l l' a
refused-answer {n = n} (Err r) e f = f r (ap (λ (o : Result TextRun ℕ). number_of o) e)
refused-answer (Ok r) e f = absurd (true≢false (ap is_ok e))

run-answer : {s l l' : List ℕ} {t : TextRun} (a : Result TextRun TextRefusal) → by_number a ≡ Ok t → ((r : TextRun) → r ≡ t → Answering s l l' (Ok r)) → Answering s l l' a
run-answer {t = t} (Ok r) e f = f r (ap (λ (o : Result TextRun ℕ). run_or r o) e)
run-answer (Err r) e f = absurd (true≢false (sym (ap is_ok e)))

module _ {s l l' : List ℕ} {q : Question} {r : TextRun} (a : AcceptedText s q) (is : r ≡ text_run q (text_run_in q l)) (there : l' ≡ listed_over (ran (names_of s) q (text_run_in q l)) l) where
  ran-text : RanText s l l' r
  ran-text =
      let ts : List (List ℕ) = (text_run_in q l).tuples in
      let top = read_text-top s a.reads in
      let dim : r.dimension ≡ length (names_of s) = ap (λ (x : TextRun). x.dimension) is ∙ text-widths a in
      let even : Each (λ p. length p ≡ length q.widths) ts = each-imp (λ p h. h ∙ sym (text-widths a)) (text-even a (list_room q l)) in
      record {
        question = q;
        accepted = a;
        is = is;
        tuples = rw (is, there) (rows_of-flat even [] (drop (length (flat ts)) l));
        within = rw (is, there) (omega (arith, length-append (flat ts) (drop (length (flat ts)) l), length-flat even));
        dimension = dim;
        names = read_names s a.reads;
        some = omega (arith, top.some);
        few = omega (arith, top.few);
      }

pub run-answers : {s l l' : List ℕ} {a : Result TextRun TextRefusal} → RunTextSays s l l' a → Answering s l l' a
run-answers {s} {l} {l'} {a} says = by-text (answered s)
  where
    by-text : Answered s → Answering s l l' a
    by-text (refusing n few why is) =
        let e = refused-became (length l) why in
        refused-answer a (says.answer ∙ ap answer_of e) (λ r m. as-refused (subst (RefusedText s) (sym m) why) (says.listing ∙ ap (λ (b : Became). listed_over b l) e))
    by-text (accepting q h) =
        let e = accepted-became (length l) h in
        run-answer a (says.answer ∙ ap answer_of e) (λ r m. as-run (ran-text h m (says.listing ∙ ap (λ (b : Became). listed_over b l) e)))
