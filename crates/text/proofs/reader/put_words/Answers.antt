-- `text::reader::put_words` meets its contract. The loop's invariant: the first i values are copied.
-- Assumes nothing.
use mathlib.Core.Path.{◌≡◌, refl, ap, ◌∙◌}
use Prim.Native.Nat.{◌+◌, zero-le}
use native.Mathlib.Omega.{arith}
use lib.ListN.{length}
use lib.Seq.{paste, paste-zero, length-paste}
use Rattle.boxes.proofs.Lists.{copy-turn}
use Rattle.text.proofs.reader.put_words.Goals as goal
use Rattle.text.proofs.reader.put_words.Goals.{At-loop-i}

still-long : (c : At-loop-i) → length c.loop-i.words ≡ length c.args.words.now
still-long c =
    ap length c.loop-i.invariant.1
    ∙ length-paste c.args.words.now c.args.at c.args.values.now c.loop-i.i (omega arith) (omega arith)

pub loop-i-init : goal.loop-i-init
loop-i-init c = (zero-le, paste-zero c.args.words.now c.args.at c.args.values.now)

pub bounds-words-at : goal.bounds-words-at
bounds-words-at c = omega (arith, still-long (goal.at.bounds-words-at c).At-loop-i)

pub loop-i-preserved : goal.loop-i-preserved
loop-i-preserved c = (
  omega arith,
  copy-turn c.args.words.now c.args.values.now c.args.at c.loop-i.i (c.args.at + c.loop-i.i) _ refl
      (omega arith) (omega arith) c.loop-i.invariant.1 refl,
)

pub shape_of-words : goal.shape_of-words
shape_of-words c = still-long (goal.at.shape_of-words c).At-loop-i

pub returns : goal.returns
returns c =
    let all : c.loop-i.i ≡ length c.args.values.now = omega arith in
    c.loop-i.invariant.1 ∙ ap (paste c.args.words.now c.args.at c.args.values.now) all
