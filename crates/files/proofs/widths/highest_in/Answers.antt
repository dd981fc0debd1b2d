-- `files::widths::highest_in` meets its contract. The loop's invariant: the values passed and those of the rest of the column have the same highest as the whole.
-- Assumes nothing.
use mathlib.Core.Path.{◌≡◌, sym, ◌∙◌}
use Prim.Native.Nat.{◌+◌, ◌-◌, ◌*◌}
use native.Mathlib.Nat.{suc-mul}
use native.Mathlib.Omega.{arith}
use Rattle.files.proofs.Columns.{column-turn, column-end}
use Rattle.files.proofs.widths.highest_in.Goals as goal

pub loop-i-preserved : goal.loop-i-preserved
loop-i-preserved c =
    let w = c.args.words.now in
    let k = c.args.step in
    let i = c.loop-i.i in
    let left = c.args.count - i in
    let at = c.args.from + i * k in
    let next : at + k ≡ c.args.from + (i + 1) * k = omega (arith, suc-mul i k) in
    let rest : left - 1 ≡ c.args.count - (i + 1) = omega arith in
    let high = c.max-high.result in
    rw (sym next, sym rest) (column-turn w at k left (omega arith) c.loop-i.high high (omega arith) ∙ c.loop-i.invariant)

pub returns : goal.returns
returns c = sym (column-end c.args.words.now (c.args.from + c.loop-i.i * c.args.step) c.args.step (c.args.count - c.loop-i.i) c.loop-i.high (λ h. omega arith)) ∙ c.loop-i.invariant
