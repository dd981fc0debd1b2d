-- `questions::reader::read_table` meets its contract, part by part.
-- Assumes nothing.
use mathlib.Core.Path.{◌≡◌, refl, sym, ap, ◌∙◌}
use native.Mathlib.Omega.{arith}
use Rattle.questions.specs.Reads.{Arity}
use Rattle.questions.specs.Questions.{bad, rows_check}
use Rattle.questions.proofs.Arities.{arity-range, arity-within}
use Rattle.questions.proofs.Checks.{when_true, when_false}
use Rattle.questions.proofs.Contents.{rows-low}
use Rattle.questions.proofs.Entries.{entry-is}
use Rattle.questions.proofs.Reading.{passed_up}
use Rattle.questions.proofs.TableReading.{rows_at, ArityRead, AttributesRead, table-missing, table-arity, table-named, table-rows-missing, table-rows, table-contents, table_read, table-within}
use Rattle.questions.proofs.reader.read_table.Goals as goal
use Rattle.questions.proofs.reader.read_table.Goals.{After-arity_of-arity, In_ok-schema, Else-too_many}

-- the first word is an arity, or the mark of a range table
named : (c : After-arity_of-arity) → ArityRead c.args.question.now c.args.from c.args.n c.arity_of-arity.result
named c =
    let word = c.in_ok-first.ensures in
    record { there = word.0; fair = when_false 6 (sym (rw word.1 at c.no_arity.ensures) ∙ c.if-no_arity.false); is = rw word.1 at c.arity_of-arity.ensures }

-- the arity is within the limits
within : (c : After-arity_of-arity) → Arity c.arity_of-arity.result
within c =
    rw c.arity_of-arity.ensures (arity-within c.in_ok-first.first c.args.n (arity-range c.in_ok-first.first c.args.n (sym c.no_arity.ensures ∙ c.if-no_arity.false)) c.requires)

-- the attribute numbers were read
read : (c : In_ok-schema) → AttributesRead c.args.question.now c.args.from c.args.n c.arity_of-arity.result c.in_ok-schema.schema
read c =
    let word = c.in_ok-first.ensures in
    record {
      arity = record { there = word.0; fair = when_false 6 (sym (rw word.1 at c.no_arity.ensures) ∙ c.if-no_arity.false); is = rw word.1 at c.arity_of-arity.ensures };
      is = c.in_ok-schema.ensures.is;
      array = c.in_ok-schema.ensures.array;
    }

-- question 8 lets their number pass
few : (c : Else-too_many) → rows_check (rows_at c.args.question.now c.args.from c.arity_of-arity.result) ≡ 0
few c = let word = c.in_ok-count.ensures in when_false 8 (sym (rw word.1 at c.too_many.ensures) ∙ c.if-too_many.false)

pub returns-in_err-first : goal.returns-in_err-first
returns-in_err-first c =
    let missing = c.in_err-first.ensures in
    rw (passed_up _ _ c.from_residual.ensures.1)
    (record { is = ap bad missing.1 ∙ table-missing c.args.question.now c.args.widths.values c.args.from c.args.n missing.0; entry = tt; within = tt })

pub returns-then-no_arity : goal.returns-then-no_arity
returns-then-no_arity c =
    let word = c.in_ok-first.ensures in
    let wide = sym (rw word.1 at c.no_arity.ensures) ∙ c.if-no_arity.true in
    record { is = table-arity c.args.question.now c.args.widths.values c.args.from c.args.n word.0 (when_true 6 wide); entry = tt; within = tt }

pub returns-in_err-schema : goal.returns-in_err-schema
returns-in_err-schema c =
    rw (passed_up _ _ c.from_residual-in_err-schema.ensures.1)
    (record { is = table-named c.args.widths.values (named (goal.at.returns-in_err-schema c).After-arity_of-arity) c.in_err-schema.ensures.is; entry = tt; within = tt })

pub returns-in_err-count : goal.returns-in_err-count
returns-in_err-count c =
    let missing = c.in_err-count.ensures in
    rw (passed_up _ _ c.from_residual-in_err-count.ensures.1)
    (record { is = ap bad missing.1 ∙ table-rows-missing (read (goal.at.returns-in_err-count c).In_ok-schema) c.args.widths.values missing.0; entry = tt; within = tt })

pub returns-then-too_many : goal.returns-then-too_many
returns-then-too_many c =
    let word = c.in_ok-count.ensures in
    let many = sym (rw word.1 at c.too_many.ensures) ∙ c.if-too_many.true in
    record { is = table-rows (read (goal.at.returns-then-too_many c).In_ok-schema) c.args.widths.values word.0 (when_true 8 many); entry = tt; within = tt }

pub read_contents-requires : goal.read_contents-requires
read_contents-requires c =
    let fair = within (goal.at.read_contents-requires c).After-arity_of-arity in
    (rw c.arity_of-arity.ensures at fair, rows-low _ (sym c.too_many.ensures ∙ c.if-too_many.false), omega (arith, c.in_ok-count.ensures.0))

pub returns-in_err-kind : goal.returns-in_err-kind
returns-in_err-kind c =
    let first = c.in_ok-first.ensures in
    let count = c.in_ok-count.ensures in
    let refused = rw (first.1, count.1) at c.in_err-kind.ensures.is in
    rw (passed_up _ _ c.from_residual-in_err-kind.ensures.1)
    (record {
      is = table-contents (read (goal.at.returns-in_err-kind c).In_ok-schema) count.0 (few (goal.at.returns-in_err-kind c).Else-too_many) c.args.widths.values refused;
      entry = tt;
      within = tt;
    })

pub returns : goal.returns
returns c =
    let first = c.in_ok-first.ensures in
    let count = c.in_ok-count.ensures in
    let says = rw (first.1, count.1) at c.in_ok-kind.ensures in
    let rows = read (goal.at.returns c).In_ok-schema in
    let pass = few (goal.at.returns c).Else-too_many in
    let stands = table-within rows count.0 pass c.args.widths.values says (within (goal.at.returns c).After-arity_of-arity) in
    record { is = table_read rows count.0 pass c.args.widths.values says; entry = entry-is _ c.args.from _ stands refl; within = stands }
