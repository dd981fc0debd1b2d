-- `text::listing::put_answer` meets its contract: a refusal, or what the run prints.
-- Assumes nothing.
use mathlib.Core.Path.{refl, ap, subst}
use Rattle.fields.proofs.Laws.{puts-same}
use Rattle.text.specs.Prints.{tuple_line}
use Rattle.text.specs.Puts.{last_of, answer_bytes, PutAsks}
use Rattle.text.proofs.listing.put_answer.Goals as goal

pub returns-in-Ok : goal.returns-in-Ok
returns-in-Ok c =
    let s = c.args in
    puts-same (ap (answer_bytes s.text.now s.listing.now) c.in-Ok.is) refl refl (c.put_run.ensures (subst (PutAsks s.listing.now) c.in-Ok.is c.requires) tuple_line last_of (λ o o' at r t p. p) (λ o o' at r k p. p.1))
