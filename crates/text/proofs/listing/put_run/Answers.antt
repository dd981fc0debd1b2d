-- `text::listing::put_run` meets its contract: the names, the tuples and the last line one after the other.
-- Assumes nothing.
use mathlib.Core.Path.{◌≡◌}
use Prim.Native.Nat.{◌*◌}
use native.Mathlib.Omega.{arith}
use Rattle.text.proofs.Answers.{run-puts}
use Rattle.text.proofs.listing.put_run.Goals as goal

pub returns : goal.returns
returns g c = λ asks line last lines ends.
    let s = c.args in
    let words : c.min.result ≡ s.run.counts.tuples * s.run.dimension = omega (arith, asks.1, c.min.ensures, c.saturating_mul-words.ensures) in
    let tuples = c.put_lines-tuples.ensures line lines in
    run-puts line s.text.now s.listing.now s.run.dimension s.run.counts.tuples asks.0 asks.1 c.put_top-line.ensures (rw words at tuples) (ends _ _ _ _ _ c.put_end.ensures)
