use Rattle.std.proofs.Common.{List, ℕ, ◌≡◌}
use Rattle.std.specs.Slice.Iter.{chunks_exact_rest, chunks_exact_size}
use Rattle.fields.specs.Puts.{PutsLine}
use Rattle.fields.proofs.WrittenTuples.{LinesPut}
use Rattle.fields.proofs.printer.put_lines.Given as goal

abbrev pub invariant-loop-tuple : goal.invariant-loop-tuple
invariant-loop-tuple g l =
    (chunks_exact_size l.tuple-iterator ≡ l.arity)
    × ((line : List ℕ → List ℕ) → PutsLine g.F.Fn l.put line → LinesPut line l.listing l.arity l.at l.initial.out l.out l.end (chunks_exact_rest l.tuple-iterator))
