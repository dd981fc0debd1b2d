-- `text::run::run_text` meets its contract: what was read is refused, or checked and refused, or run.
-- Assumes nothing.
use mathlib.Core.Path.{◌≡◌, sym, ap, ◌∙◌}
use Rattle.std.specs.Prelude.{Result}
use Rattle.questions.specs.Refusals.{checked_number}
use Rattle.questions.specs.declared.refusal.Refusal.{Refusal}
use mathlib.Core.List.{[]}
use Prim.Native.Nat.{ℕ, ◌+◌, ◌*◌}
use lib.ListN.{take, length-replicate}
use lib.Seq.{length-take-le}
use Rattle.questions.specs.Questions.{got, read_question}
use Rattle.search.specs.Limits.{record_words}
use Rattle.fields.specs.Limits.{max_bytes}
use Rattle.text.specs.Limits.{spare_words, listing_boxes}
use Rattle.questions.proofs.Laws.{passed_up}
use Rattle.text.proofs.ReadAnswers.{asked, ReadTo, reads-refused, reads-words, check-refused, check-accepted}
use Rattle.text.proofs.TextRuns.{ran_says}
use Rattle.text.proofs.RunAnswers.{program-leaves}
use Rattle.text.proofs.run.run_text.Goals as goal
use Rattle.text.proofs.run.run_text.Goals.{In_ok-count}

-- the text was read into the words
read-to : (c : In_ok-count) → ReadTo c.args.text.now c.read_text.new.words c.in_ok-count.count
read-to c = reads-words (length-replicate {A = ℕ} (max_bytes + spare_words) 0) c.read_text.ensures c.in_ok-count.was

pub returns-in_err-count : goal.returns-in_err-count
returns-in_err-count c =
    rw (passed_up _ _ c.from_residual.ensures.1) (reads-refused (length-replicate {A = ℕ} (max_bytes + spare_words) 0) c.read_text.ensures c.in_err-count.was)

pub slice_bounds-words-end : goal.slice_bounds-words-end
slice_bounds-words-end c = (read-to (goal.at.slice_bounds-words-end c).In_ok-count).within

pub slice_bounds-question-end : goal.slice_bounds-question-end
slice_bounds-question-end c = sym (length-take-le c.in_ok-count.count c.read_text.new.words (read-to (goal.at.slice_bounds-question-end c).In_ok-count).within)

pub returns-in_err-check_question : goal.returns-in_err-check_question
returns-in_err-check_question c =
    rw (passed_up _ _ c.from_residual-in_err-check_question.ensures.1)
    (check-refused (read-to (goal.at.returns-in_err-check_question c).In_ok-count) c.check_question.ensures (ap (λ (r : Result (Unit {0}) Refusal). checked_number r) c.in_err-check_question.was))

pub returns : goal.returns
returns c =
    let run = c.run_apart-counts in
    let r = read-to (goal.at.returns c).In_ok-count in
    let a = check-accepted r c.check_question.ensures (ap (λ (r : Result (Unit {0}) Refusal). checked_number r) c.in_ok-check_question.was) in
    let read : read_question (take c.in_ok-count.count c.read_text.new.words) ≡ got (asked c.args.text.now) [] = rw r.words a.accepted in
    let left = program-leaves _ c.args.listing.now run.new.listing _ run.ensures.store read (length-replicate {A = ℕ} (listing_boxes * record_words) 0) run.ensures.run in
    ran_says a (c.from-dimension.ensures ∙ r.first) left.counts left.listing
