-- `questions::reader::read_contents` meets its contract: by the mark of an open table, that of a range table, and an arity.
-- Assumes nothing.
use mathlib.Core.Path.{◌≡◌}
use Prim.Native.Nat.{◌≤◌}
use native.Mathlib.Omega.{arith}
use lib.ListN.{length, take}
use lib.Seq.{length-take-le}
use Rattle.questions.specs.Reads.{Arity}
use Rattle.questions.proofs.Arities.{arity-plain}
use Rattle.questions.proofs.ContentsReading.{said-open, pairs-refused, said-pairs, rows-first, rows-refused, said-rows}
use Rattle.questions.proofs.Reading.{passed_up}
use Rattle.questions.proofs.reader.read_contents.Goals as goal
use Rattle.questions.proofs.reader.read_contents.Goals.{Else-first-eq-RANGE_MARK}

-- an arity is at most as many numbers as the array has
few : (c : Else-first-eq-RANGE_MARK) → c.args.first ≤ length c.args.schema
few c =
    let arity : Arity c.args.first = rw (arity-plain c.args.first c.if-first-eq-RANGE_MARK.false) at c.requires.0 in
    omega (arith, arity.1)

pub returns-then-count-eq-OPEN_MARK : goal.returns-then-count-eq-OPEN_MARK
returns-then-count-eq-OPEN_MARK c = said-open _ _ _ _ _ _ c.if-count-eq-OPEN_MARK.true c.requires.2

pub returns-in_err-read_pairs : goal.returns-in_err-read_pairs
returns-in_err-read_pairs c =
    rw (passed_up _ _ c.from_residual.ensures.1) (record {
      is = pairs-refused c.args.question.now c.args.from c.args.first c.args.count c.args.widths.values c.args.schema c.if-first-eq-RANGE_MARK.true c.if-count-eq-OPEN_MARK.false c.at.ensures.value c.in_err-read_pairs.ensures.is;
      there = tt;
      few = tt;
    })

pub returns-then-first-eq-RANGE_MARK : goal.returns-then-first-eq-RANGE_MARK
returns-then-first-eq-RANGE_MARK c = said-pairs _ _ _ _ _ _ c.if-first-eq-RANGE_MARK.true c.if-count-eq-OPEN_MARK.false c.at.ensures.value c.in_ok-read_pairs.ensures c.requires.1 c.requires.2

pub read_rows-requires : goal.read_rows-requires
read_rows-requires c =
    let arity : Arity c.args.first = rw (arity-plain c.args.first c.if-first-eq-RANGE_MARK.false) at c.requires.0 in
    let few : length (take c.args.first c.args.schema) ≡ c.args.first = length-take-le c.args.first c.args.schema (omega (arith, arity.1)) in
    rw few arity

pub returns-in_err-read_rows : goal.returns-in_err-read_rows
returns-in_err-read_rows c =
    rw (passed_up _ _ c.from_residual-in_err-read_rows.ensures.1) (record {
      is = rows-refused c.args.question.now c.args.from c.args.first c.args.count c.args.widths.values c.args.schema c.if-first-eq-RANGE_MARK.false c.if-count-eq-OPEN_MARK.false (rows-first c.args.question.now c.args.from c.args.first c.args.count c.args.widths.values c.args.schema c.if-first-eq-RANGE_MARK.false c.if-count-eq-OPEN_MARK.false c.in_err-read_rows.ensures (few (goal.at.returns-in_err-read_rows c).Else-first-eq-RANGE_MARK)).is;
      there = tt;
      few = tt;
    })

pub returns : goal.returns
returns c = said-rows _ _ _ _ _ _ c.if-first-eq-RANGE_MARK.false c.if-count-eq-OPEN_MARK.false (rows-first c.args.question.now c.args.from c.args.first c.args.count c.args.widths.values c.args.schema c.if-first-eq-RANGE_MARK.false c.if-count-eq-OPEN_MARK.false c.in_ok-read_rows.ensures (few (goal.at.returns c).Else-first-eq-RANGE_MARK)) c.requires.1 c.requires.2
