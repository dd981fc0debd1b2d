-- `copies::copy::lift_copy` meets its contract: the text is read and run, and its copy is printed with the marks of the hidden attributes.
-- Assumes nothing.
use mathlib.Core.Path.{◌≡◌, ap, ◌∙◌}
use mathlib.Core.Bool.{Bool}
use mathlib.Core.List.{List}
use Prim.Native.Nat.{ℕ}
use native.Mathlib.Omega.{arith}
use lib.ListN.{length-replicate}
use Rattle.fields.specs.Puts.{PrintsWith}
use Rattle.text.specs.Limits.{listing_words}
use Rattle.text.proofs.Laws.{run-answers}
use Rattle.copies.specs.Copies.{copied}
use Rattle.copies.specs.Puts.{copy_bytes}
use Rattle.copies.proofs.Shown.{copy-asks, copy-bytes}
use Rattle.copies.proofs.NoLonger.{copied-short}
use Rattle.copies.proofs.Copying.{copy-count, says-lacking, says-written}
use Rattle.copies.proofs.copy.lift_copy.Goals as goal
use Rattle.copies.proofs.copy.lift_copy.Goals.{After-print_whole-count}

-- what was printed is the copy
prints : (c : After-print_whole-count) → let s = c.args in PrintsWith (copied s.hidden.now s.text.now) s.out.now c.print_whole-count.new.out c.print_whole-count.result
prints c =
    let s = c.args in
    let run = c.run_text-answer in
    let marks = c.marks_of-marks in
    let is : copy_bytes marks.result s.text.now run.new.listing run.result ≡ copied s.hidden.now s.text.now =
    ap (λ (m : List Bool). copy_bytes m s.text.now run.new.listing run.result) marks.ensures ∙ copy-bytes s.hidden.now (length-replicate {A = ℕ} listing_words 0) (run-answers run.ensures) in
    let print = c.print_whole-count.ensures (copy_bytes marks.result s.text.now run.new.listing run.result) (λ o o' r p. p) in
    rw is at print

pub print_whole-count-requires : goal.print_whole-count-requires
print_whole-count-requires c = let asks = copy-asks (run-answers c.run_text-answer.ensures) in record { at = λ a. asks }

pub overflow_cast-bytes : goal.overflow_cast-bytes
overflow_cast-bytes c =
    let s = c.args in
    omega (arith, copy-count s.text.now s.hidden.now (prints (goal.at.overflow_cast-bytes c).After-print_whole-count), copied-short s.hidden.now s.text.now)

pub returns-then-out-count : goal.returns-then-out-count
returns-then-out-count c =
    says-lacking c.args.text.now c.args.hidden.now (prints (goal.at.returns-then-out-count c).After-print_whole-count) (omega (arith, c.if-out-count.true))

pub returns : goal.returns
returns c = says-written c.args.text.now c.args.hidden.now (prints (goal.at.returns c).After-print_whole-count) (omega (arith, c.if-out-count.false))
