-- `text::listing::list_text` meets its contract: the text is read and run with the program's listing, and the answer is printed.
-- Assumes nothing.
use Prim.Native.Nat.{ℕ}
use lib.ListN.{length-replicate}
use Rattle.text.specs.Limits.{listing_words}
use Rattle.text.specs.Puts.{answer_bytes}
use Rattle.text.proofs.Answers.{prints-says}
use Rattle.text.proofs.TextRuns.{run-answers}
use Rattle.text.proofs.RunAnswers.{answer-asks, answer-printed}
use Rattle.text.proofs.listing.list_text.Goals as goal

pub print_whole-requires : goal.print_whole-requires
print_whole-requires c = let asks = answer-asks (run-answers c.run_text-answer.ensures) in record { at = λ a. asks }

pub returns : goal.returns
returns c =
    let run = c.run_text-answer in
    prints-says (answer-printed (length-replicate {A = ℕ} listing_words 0) (run-answers run.ensures))
    (c.print_whole.ensures (answer_bytes c.args.text.now run.new.listing run.result) (λ o o' r p. p))
