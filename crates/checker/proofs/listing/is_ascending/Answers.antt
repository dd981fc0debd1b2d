-- `checker::listing::is_ascending` meets its contract.
-- Assumes nothing.
use Rattle.std.proofs.Common.{rules, ap, ◌∙◌, Some, ℕ}
use borrow.Author.Tests.{tests}
use Rattle.std.specs.Slice.Iter.{chunks_exact_rest, chunks_exact_size}
use Rattle.std.specs.Ordering.{nat_cmp, partial_lt}
use Rattle.std.specs.Cmp.Lexicographic.{slice_partial_cmp}
use Rattle.checker.proofs.Ascending.{ascends-is}
use Rattle.checker.proofs.listing.is_ascending.Goals as goal

pub returns : goal.returns
returns c =
    let run = c.is_sorted_by.ensures.runs in
    ascends-is c.args.n c.args.listing.now c.requires run.0 (ap chunks_exact_rest run.1 ∙ c.chunks_exact.ensures.rest) (ap chunks_exact_size run.1 ∙ c.chunks_exact.ensures.size)
    (c.chunks_exact.ensures.runs run.0 run.0.seen) c.is_sorted_by.result run.2.0
    (run.2.1 (λ x y. partial_lt (slice_partial_cmp (λ (x y : ℕ). Some (nat_cmp x y))) x.now y.now) (λ x y r f k. search (rules, tests)))
