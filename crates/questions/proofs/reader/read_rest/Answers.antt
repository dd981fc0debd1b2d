-- `questions::reader::read_rest` meets its contract, part by part.
-- Assumes nothing.
use mathlib.Core.Path.{sym, ap, ◌∙◌}
use native.Mathlib.Omega.{arith}
use lib.ListN.{take, replicate}
use Rattle.questions.specs.Limits.{max_tables}
use Rattle.questions.specs.Questions.{bad}
use Rattle.questions.specs.Directories.{directory_of}
use Rattle.questions.specs.declared.refusal.Refusal.TheVariants.{TableCount, WordsLeft, BareAttribute}
use Rattle.questions.proofs.Entries.{directory-is}
use Rattle.questions.proofs.Checks.{when_true, when_false, in-range}
use Rattle.questions.proofs.QuestionReading.{refused_says, CountRead, rest-missing, rest-count, rest-tables, rest_more, rest-bare, rest_read}
use Rattle.questions.proofs.Reading.{passed_up}
use Rattle.questions.proofs.reader.read_rest.Goals as goal
use Rattle.questions.proofs.reader.read_rest.Goals.{Else-out_of_range}

-- the number of tables is in range
fair : (c : Else-out_of_range) → CountRead c.args.question.now c.args.widths.values c.args.n
fair c =
    let word = c.in_ok-count.ensures in
    record { array = c.requires.array; there = word.0; fair = when_false 5 (sym (rw word.1 at c.out_of_range.ensures) ∙ c.if-out_of_range.false) }

pub returns-in_err-count : goal.returns-in_err-count
returns-in_err-count c =
    let missing = c.in_err-count.ensures in
    rw (passed_up _ _ c.from_residual.ensures.1) (refused_says _ _ c.in_err-count.field-0.0 (ap bad missing.1 ∙ rest-missing c.args.question.now (take c.args.n c.args.widths.values) c.args.n missing.0))

pub returns-then-out_of_range : goal.returns-then-out_of_range
returns-then-out_of_range c =
    let word = c.in_ok-count.ensures in
    let wide = sym (rw word.1 at c.out_of_range.ensures) ∙ c.if-out_of_range.true in
    refused_says _ _ TableCount (rest-count c.args.question.now (take c.args.n c.args.widths.values) c.args.n word.0 (when_true 5 wide))

pub read_tables-requires : goal.read_tables-requires
read_tables-requires c =
    let word = c.in_ok-count.ensures in
    (rw word.1 (in-range max_tables _ (sym (rw word.1 at c.out_of_range.ensures) ∙ c.if-out_of_range.false)).1, c.requires.few, ap (replicate max_tables) c.none-entries.ensures)

pub returns-in_err-end : goal.returns-in_err-end
returns-in_err-end c =
    let word = c.in_ok-count.ensures in
    rw (passed_up _ _ c.from_residual-in_err-end.ensures.1)
    (refused_says _ _ c.in_err-end.field-0.0 (rest-tables (fair (goal.at.returns-in_err-end c).Else-out_of_range) (rw word.1 at c.in_err-end.ensures.is)))

pub returns-then-end-question : goal.returns-then-end-question
returns-then-end-question c =
    let word = c.in_ok-count.ensures in
    refused_says _ _ WordsLeft (rest_more (fair (goal.at.returns-then-end-question c).Else-out_of_range) _ _ (rw word.1 at c.in_ok-end.ensures.is) (omega arith))

pub returns-then-not-cover_all : goal.returns-then-not-cover_all
returns-then-not-cover_all c =
    let word = c.in_ok-count.ensures in
    let bare = sym c.cover_all.ensures ∙ c.if-not-cover_all.true in
    refused_says _ _ BareAttribute (rest-bare (fair (goal.at.returns-then-not-cover_all c).Else-out_of_range) _ _ (rw word.1 at c.in_ok-end.ensures.is) (omega arith) (rw word.1 at bare))

pub returns : goal.returns
returns c =
    let word = c.in_ok-count.ensures in
    let says = c.in_ok-end.ensures in
    let covers = sym c.cover_all.ensures ∙ c.if-not-cover_all.false in
    let all = rest_read (fair (goal.at.returns c).Else-out_of_range) _ _ (rw word.1 at says.is) (omega arith) (rw word.1 at covers) in
    record {
      directory = directory-is _ _ c.requires.array says.array says.entries ∙ ap directory_of (rw (sym word.1) at all);
      is = rw word.1 all;
      within = says.within;
    }
