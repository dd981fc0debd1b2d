-- `text::reader::take_widths` meets its contract: the line is refused, or the number of attributes, the widths and no table are written.
-- Assumes nothing.
use mathlib.Core.Path.{refl, sym, ◌∙◌}
use native.Mathlib.Omega.{arith}
use lib.ListN.{set, length-set, length-take}
use Rattle.fields.proofs.Laws.{length-fields_of}
use Rattle.text.proofs.Steps.{refused-as, paste-front}
use Rattle.text.proofs.TakenNumbers.{widths-refused, widths-long, widths-taken}
use Rattle.text.proofs.reader.take_widths.Goals as goal

pub returns-in_err-values : goal.returns-in_err-values
returns-in_err-values c =
    let s = c.args in
    let told = c.in_err-values.ensures in
    widths-refused s.line.now s.words.now s.progress (sym c.take_numbers.ensures ∙ told.ok_part) (refused-as _ c.from_residual.ensures.1 told.value told.ok_part)

pub put_words-requires : goal.put_words-requires
put_words-requires c =
    omega (arith, length-take c.args.progress.dimension c.in_ok-values.values, c.requires.counted, length-set c.args.words.now 0 c.args.progress.dimension)

pub shape_of-words : goal.shape_of-words
shape_of-words c =
    let s = c.args in
    widths-long s.line.now s.words.now s.progress c.requires (sym c.take_numbers.ensures ∙ c.in_ok-values.ensures.ok_part) (length-fields_of s.line.now) c.put_words.new.words (c.put_words.ensures ∙ paste-front (set s.words.now 0 s.progress.dimension) 1 c.in_ok-values.values s.progress.dimension (omega (arith, c.requires.few)))

pub returns : goal.returns
returns c =
    let s = c.args in
    rw c.new.ensures (
    widths-taken s.line.now s.words.now s.progress c.requires (sym c.take_numbers.ensures ∙ c.in_ok-values.ensures.ok_part) (length-fields_of s.line.now) c.put_words.new.words (c.put_words.ensures ∙ paste-front (set s.words.now 0 s.progress.dimension) 1 c.in_ok-values.values s.progress.dimension (omega (arith, c.requires.few))) refl)
