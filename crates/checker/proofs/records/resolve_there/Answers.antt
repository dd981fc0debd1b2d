-- `checker::records::resolve_there` meets its contract.
-- Assumes nothing.
use mathlib.Core.Path.{sym, ◌∙◌}
use borrow.Author.Tests.{eq-eqb, ne_eqb}
use Rattle.checker.specs.Parts.{resolves_at}
use Rattle.checker.proofs.records.resolve_there.Goals as goal

pub returns-then-made-resolvent : goal.returns-then-made-resolvent
unfolding resolves_at
returns-then-made-resolvent c = rw (ne_eqb _ _ (λ e. c.if-made-resolvent.true (e ∙ sym c.resolvent.ensures)))

pub returns-then-are_halves : goal.returns-then-are_halves
unfolding resolves_at
returns-then-are_halves c = rw (eq-eqb _ _ (c.if-made-resolvent.false ∙ c.resolvent.ensures), sym c.are_halves.ensures ∙ c.if-are_halves.true)

pub returns : goal.returns
unfolding resolves_at
returns c = rw (
  eq-eqb _ _ (c.if-made-resolvent.false ∙ c.resolvent.ensures),
  sym c.are_halves.ensures
      ∙ c.if-are_halves.false,
) c.comparable.ensures
