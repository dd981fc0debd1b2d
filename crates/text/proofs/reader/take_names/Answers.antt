-- `text::reader::take_names` meets its contract: the line is refused, or the table is counted, and its attributes and no row are written.
-- Assumes nothing.
use mathlib.Core.Path.{◌≡◌, refl, sym, ◌∙◌}
use Prim.Native.Nat.{◌+◌, ◌≤◌}
use native.Mathlib.Omega.{arith}
use lib.ListN.{length, set, length-set, length-take}
use lib.Seq.{paste}
use Rattle.boxes.specs.Limits.{max_attributes}
use Rattle.fields.proofs.Laws.{length-fields_of}
use Rattle.questions.proofs.Laws.{passed_up}
use Rattle.text.proofs.Steps.{refused-as, paste-front}
use Rattle.text.proofs.TakenNames.{names-are, names-refused, names-unknown, names-room, names-long, names-taken}
use Rattle.text.proofs.reader.take_names.Goals as goal
use Rattle.text.proofs.reader.take_names.Goals.{In_ok-arity, After-put_words}

-- the words have room for the line's
room : (c : In_ok-arity) → c.args.progress.words + c.in_ok-arity.arity + 2 ≤ length c.args.words.now
room c =
    let s = c.args in
    names-room s.top.now s.line.now s.words.now s.progress (sym c.count_names.ensures ∙ c.in_ok-arity.was) c.requires.safe (length-fields_of s.line.now)

-- what is written of the places
written : (c : After-put_words)
    → c.put_words.new.words ≡ paste (set (set c.args.words.now (c.args.progress.dimension + 1) (c.args.progress.tables + 1)) c.args.progress.words c.in_ok-arity.arity) (c.args.progress.words + 1) c.in_ok-places.places c.in_ok-arity.arity
written c =
    let s = c.args in
    let names = names-are s.top.now s.line.now s.words.now s.progress (sym c.count_names.ensures ∙ c.in_ok-arity.was) in
    let few : c.in_ok-arity.arity ≤ max_attributes = omega (arith, names.few, names.count, c.requires.safe.few) in
    c.put_words.ensures ∙ paste-front _ _ c.in_ok-places.places c.in_ok-arity.arity (omega (arith, few))

still-long : (c : After-put_words) → length c.put_words.new.words ≡ length c.args.words.now
still-long c =
    let s = c.args in
    names-long s.top.now s.line.now s.words.now s.progress (sym c.count_names.ensures ∙ c.in_ok-arity.was) (sym c.take_places.ensures ∙ c.in_ok-places.ensures.ok_part)
    c.requires.safe (length-fields_of s.line.now) c.requires.top_len_bound c.put_words.new.words (written c)

pub returns-in_err-arity : goal.returns-in_err-arity
returns-in_err-arity c =
    let s = c.args in
    names-refused s.top.now s.line.now s.words.now s.progress c.in_err-arity.field-0.0 (sym c.count_names.ensures ∙ c.in_err-arity.was) (passed_up _ _ c.from_residual.ensures.1)

pub returns-in_err-places : goal.returns-in_err-places
returns-in_err-places c =
    let s = c.args in
    let told = c.in_err-places.ensures in
    names-unknown s.top.now s.line.now s.words.now s.progress (sym c.count_names.ensures ∙ c.in_ok-arity.was) (sym c.take_places.ensures ∙ told.ok_part)
    (refused-as _ c.from_residual-in_err-places.ensures.1 told.value told.ok_part)

pub put_words-requires : goal.put_words-requires
put_words-requires c =
    simp length-set (omega (arith, length-take c.in_ok-arity.arity c.in_ok-places.places, room (goal.at.put_words-requires c).In_ok-arity))

pub bounds-words-counter : goal.bounds-words-counter
bounds-words-counter c = omega (arith, room (goal.at.bounds-words-counter c).In_ok-arity, still-long (goal.at.bounds-words-counter c).After-put_words)

pub shape_of-words : goal.shape_of-words
shape_of-words c =
    length-set c.put_words.new.words (c.args.progress.words + 1 + c.in_ok-arity.arity) 0 ∙ still-long (goal.at.shape_of-words c).After-put_words

pub returns : goal.returns
returns c =
    let s = c.args in
    names-taken s.top.now s.line.now s.words.now s.progress (sym c.count_names.ensures ∙ c.in_ok-arity.was) (sym c.take_places.ensures ∙ c.in_ok-places.ensures.ok_part)
    c.requires.safe (length-fields_of s.line.now) c.requires.top_len_bound c.put_words.new.words (written (goal.at.returns c).After-put_words) refl
