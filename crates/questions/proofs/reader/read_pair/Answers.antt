-- `questions::reader::read_pair` meets its contract, question by question: 3 and 9 of the lowest value, 3 and 9 of the highest, then 28, then 10.
-- Assumes nothing.
use mathlib.Core.Path.{◌≡◌, ap, ◌∙◌}
use Prim.Native.Nat.{◌^◌}
use native.Mathlib.Omega.{arith}
use Rattle.boxes.proofs.Laws.{unit_or0-is}
use Rattle.questions.specs.Questions.{bad}
use Rattle.questions.proofs.PairReading.{pair-missing, pair-wide, pair-cut, pair-high, pair-falls, pair-late, pair_read}
use Rattle.questions.proofs.Reading.{passed_up}
use Rattle.questions.proofs.reader.read_pair.Goals as goal
use Rattle.questions.proofs.reader.read_pair.Goals.{After-unit-limit}

-- the limit is 2 to the power of the width
limit : (c : After-unit-limit) → c.unit-limit.result ≡ 2 ^ c.args.width
limit c = c.unit-limit.ensures ∙ unit_or0-is c.args.width 0 c.requires ∙ omega arith

pub returns-in_err-lowest : goal.returns-in_err-lowest
returns-in_err-lowest c =
    let missing = c.in_err-lowest.ensures in
    rw (passed_up _ _ c.from_residual.ensures.1) (record { is = ap bad missing.1 ∙ pair-missing c.args.question.now c.args.at c.args.width c.args.least missing.0; next = tt; there = tt })

pub returns-then-limit-lowest : goal.returns-then-limit-lowest
returns-then-limit-lowest c =
    let low = c.in_ok-lowest.ensures in
    let top = limit (goal.at.returns-then-limit-lowest c).After-unit-limit in
    record { is = pair-wide c.args.question.now c.args.at c.args.width c.args.least low.0 (omega (arith, low.1, top)); next = tt; there = tt }

pub returns-in_err-highest : goal.returns-in_err-highest
returns-in_err-highest c =
    let missing = c.in_err-highest.ensures in
    let low = c.in_ok-lowest.ensures in
    let top = limit (goal.at.returns-in_err-highest c).After-unit-limit in
    rw (passed_up _ _ c.from_residual-in_err-highest.ensures.1)
    (record { is = ap bad missing.1 ∙ pair-cut c.args.question.now c.args.at c.args.width c.args.least low.0 (omega (arith, low.1, top)) missing.0; next = tt; there = tt })

pub returns-then-limit-highest : goal.returns-then-limit-highest
returns-then-limit-highest c =
    let low = c.in_ok-lowest.ensures in
    let high = c.in_ok-highest.ensures in
    let top = limit (goal.at.returns-then-limit-highest c).After-unit-limit in
    record { is = pair-high c.args.question.now c.args.at c.args.width c.args.least low.0 (omega (arith, low.1, top)) high.0 (omega (arith, high.1, top)); next = tt; there = tt }

pub returns-then-highest-lowest : goal.returns-then-highest-lowest
returns-then-highest-lowest c =
    let low = c.in_ok-lowest.ensures in
    let high = c.in_ok-highest.ensures in
    let top = limit (goal.at.returns-then-highest-lowest c).After-unit-limit in
    record {
      is = pair-falls c.args.question.now c.args.at c.args.width c.args.least low.0 (omega (arith, low.1, top)) high.0 (omega (arith, high.1, top)) (omega (arith, low.1, high.1));
      next = tt;
      there = tt;
    }

pub returns-then-lowest-least : goal.returns-then-lowest-least
returns-then-lowest-least c =
    let low = c.in_ok-lowest.ensures in
    let high = c.in_ok-highest.ensures in
    let top = limit (goal.at.returns-then-lowest-least c).After-unit-limit in
    record {
      is = pair-late c.args.question.now c.args.at c.args.width c.args.least low.0 (omega (arith, low.1, top)) high.0 (omega (arith, high.1, top)) (omega (arith, low.1, high.1)) (omega (arith, low.1));
      next = tt;
      there = tt;
    }

pub returns-else-lowest-least : goal.returns-else-lowest-least
returns-else-lowest-least c =
    let low = c.in_ok-lowest.ensures in
    let high = c.in_ok-highest.ensures in
    let top = limit (goal.at.returns-else-lowest-least c).After-unit-limit in
    record {
      is = pair_read c.args.question.now c.args.at c.args.width c.args.least low.0 (omega (arith, low.1, top)) high.0 (omega (arith, high.1, top)) (omega (arith, low.1, high.1)) (omega (arith, low.1));
      next = omega (arith, high.1);
      there = omega (arith, high.0);
    }
