-- `text::reader::take_row` meets its contract: an empty line, the line `open` of a table without rows, a line that is refused, or a row, which is counted
-- and written.
-- Assumes nothing.
use mathlib.Core.Path.{◌≡◌, refl, sym, ap, ap₂, ◌∙◌}
use mathlib.Core.Bool.{Bool, true, false, ◌&&◌, and-false}
use borrow.Author.Tests.{eq-eqb, ne_eqb}
use native.Mathlib.Omega.{arith}
use lib.Dec.{eqb}
use lib.ListN.{length-take}
use lib.Pointwise.{pointwise}
use Rattle.questions.specs.Orders.{same}
use Rattle.fields.proofs.Laws.{same-pointwise, length-fields_of}
use Rattle.text.specs.Texts.{open_word}
use Rattle.text.proofs.RowLines.{leaves}
use Rattle.text.proofs.EmptyLines.{row-begun}
use Rattle.text.proofs.Steps.{paste-front}
use Rattle.text.proofs.OpenLines.{open-taken}
use Rattle.text.proofs.TakenNumbers.{numbers-taken, numbers-other, numbers-wrong, row-refused, row_room, row-long, row-taken}
use Rattle.text.proofs.reader.take_row.Goals as goal
use Rattle.text.proofs.reader.take_row.Goals.{else-progress-eq0-via-then-progress-eq0+else-eq, else-progress-eq0-via-else-progress-eq0, then-numbers-arity-via-then-numbers-arity, then-numbers-arity-via-else-numbers-arity+then-not-numbers}

pub returns-then-line-eq0 : goal.returns-then-line-eq0
returns-then-line-eq0 c = row-begun c.if-line-eq0.true c.begin_table.ensures

pub returns-then-eq : goal.returns-then-eq
returns-then-eq c =
    let s = c.args in
    let is : same s.line.now open_word ≡ true = sym (same-pointwise s.line.now open_word) ∙ ap (pointwise eqb s.line.now) (sym c.as_slice.ensures) ∙ sym c.eq.ensures ∙ c.if-eq.true in
    open-taken s.line.now c.if-line-eq0.false (ap₂ ◌&&◌ (eq-eqb s.progress.rows 0 c.if-progress-eq0.true) is) c.leave_open.ensures.is c.leave_open.ensures.words_after

pub returns-then-numbers-arity : goal.returns-then-numbers-arity
returns-then-numbers-arity c =
    let s = c.args in
    let said = c.read_numbers-numbers.ensures in
    let stay : leaves s.progress s.line.now ≡ false =
    elim c.else-progress-eq0.branch [
      | else-progress-eq0-via-then-progress-eq0+else-eq w ↦
          ap (λ (b : Bool). eqb s.progress.rows 0 && b) (sym (same-pointwise s.line.now open_word) ∙ ap (pointwise eqb s.line.now) (sym w.as_slice.ensures) ∙ sym w.eq.ensures ∙ w.if-eq.false) ∙ and-false (eqb s.progress.rows 0)
      | else-progress-eq0-via-else-progress-eq0 w ↦ ap (λ (b : Bool). b && same s.line.now open_word) (ne_eqb s.progress.rows 0 w.if-progress-eq0.false)
    ] in
    row-refused s.line.now s.words.now s.progress c.if-line-eq0.false stay
    (elim c.then-numbers-arity.branch [
      | then-numbers-arity-via-then-numbers-arity w ↦ numbers-other s.progress.arity s.line.now said w.if-numbers-arity.true
      | then-numbers-arity-via-else-numbers-arity+then-not-numbers w ↦ numbers-wrong s.progress.arity s.line.now said w.if-not-numbers.true
    ])
    refl

pub put_words-requires : goal.put_words-requires
put_words-requires c =
    let s = c.args in
    let numbers = c.read_numbers-numbers in
    let taken = numbers-taken s.progress.arity s.line.now numbers.ensures c.if-numbers-arity.false c.if-not-numbers.false in
    let room = row_room s.line.now s.words.now s.progress c.requires taken (length-fields_of s.line.now) in
    omega (arith, length-take s.progress.arity numbers.result.values, room)

pub shape_of-words : goal.shape_of-words
shape_of-words c =
    let s = c.args in
    let numbers = c.read_numbers-numbers in
    let taken = numbers-taken s.progress.arity s.line.now numbers.ensures c.if-numbers-arity.false c.if-not-numbers.false in
    row-long s.line.now s.words.now s.progress c.requires taken (length-fields_of s.line.now) c.put_words.new.words (c.put_words.ensures ∙ paste-front _ _ numbers.result.values s.progress.arity (omega (arith, c.requires.arity)))

pub returns : goal.returns
returns c =
    let s = c.args in
    let numbers = c.read_numbers-numbers in
    let taken = numbers-taken s.progress.arity s.line.now numbers.ensures c.if-numbers-arity.false c.if-not-numbers.false in
    row-taken s.line.now s.words.now s.progress c.requires taken (length-fields_of s.line.now) c.put_words.new.words (c.put_words.ensures ∙ paste-front _ _ numbers.result.values s.progress.arity (omega (arith, c.requires.arity)))
    c.if-line-eq0.false
