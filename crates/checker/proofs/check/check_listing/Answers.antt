-- `checker::check::check_listing` meets its contract: a refused question has its number, and at an accepted one what is
-- found is what is accepted.
-- Assumes nothing.
use Rattle.std.proofs.Common.{◌≡◌, sym, ap, ◌∙◌, false, ◌&&◌, eqb, map, arith}
use Rattle.boxes.proofs.Tests.{and_both}
use Rattle.questions.proofs.Laws.{passed_up}
use Rattle.search.specs.Limits.{record_words}
use Rattle.search.specs.Records.{stored_of}
use Rattle.checker.specs.Checks.{whole_parts, read_records}
use Rattle.checker.specs.Parts.{all_checked}
use Rattle.checker.specs.declared.refusal.CheckRefusal.TheVariants.{Question}
use Rattle.checker.proofs.Delivering.{check-delivered}
use Rattle.checker.proofs.Checking.{whole-parts, records_are}
use Rattle.checker.proofs.CodeChecks.{read_as-sized, read-refused, read-accepted, check_number-is}
use Rattle.checker.proofs.check.check_listing.Goals as goal
use Rattle.checker.proofs.check.check_listing.Goals.{After-is_empty, else-is_empty-via-then-is_empty+else-stands, else-is_empty-via-else-is_empty}

pub returns-in_err-directory : goal.returns-in_err-directory
returns-in_err-directory c =
    let w = c.args.question.now in
    let is = passed_up c.from_residual.result (Question c.in_err-directory.field-0.0) c.from_residual.ensures.1 in
    let k = read-refused w c.args.listing.now c.args.records.now c.in_err-directory.field-0.0 c.in_err-directory.ensures in
    rw is (record { value = k; delivered = check-delivered w c.args.listing.now c.args.records.now k })

pub invariant_of-certificate : goal.invariant_of-certificate
invariant_of-certificate c =
    record { sized = read_as-sized (read-accepted c.args.question.now c.in_ok-directory.directory c.in_ok-directory.ensures).1 }

-- the words are whole records
whole : (c : After-is_empty) → whole_parts record_words c.args.records.now ≡ c.is_empty.result
whole c =
    sym (whole-parts record_words c.args.records.now (omega arith)) ∙ ap (λ n. eqb n 0) (sym c.as_chunks.ensures.back_len) ∙ sym c.is_empty.ensures

-- the records, out of them
taken : (c : After-is_empty) → map stored_of c.as_chunks.result.0.now ≡ read_records c.args.records.now
taken c = ap (map stored_of) c.as_chunks.ensures.front ∙ records_are c.args.records.now

pub returns-then-stands : goal.returns-then-stands
returns-then-stands c =
    let w = c.args.question.now in
    let at = goal.at.returns-then-stands c in
    let k = check_number-is w c.args.listing.now c.args.records.now c.in_ok-directory.directory c.in_ok-directory.ensures
    (and_both (whole at.After-is_empty ∙ c.if-is_empty.true) (ap (all_checked w c.in_ok-directory.directory c.args.listing.now) (sym (taken at.After-is_empty)) ∙ sym c.stands.ensures ∙ c.if-stands.true)) in
    record { value = k; delivered = check-delivered w c.args.listing.now c.args.records.now k }

pub returns-else-is_empty : goal.returns-else-is_empty
returns-else-is_empty c =
    let w = c.args.question.now in
    let l = c.args.listing.now in
    let s = c.args.records.now in
    let d = c.in_ok-directory.directory in
    let at = (goal.at.returns-else-is_empty c).After-is_empty in
    -- words are left, or a check fails
    let fails : (whole_parts record_words s && all_checked w d l (read_records s)) ≡ false = elim c.else-is_empty.branch [
      | else-is_empty-via-then-is_empty+else-stands e ↦ rw (whole at ∙ e.if-is_empty.true) (ap (all_checked w d l) (sym (taken at)) ∙ sym e.stands.ensures ∙ e.if-stands.false)
      | else-is_empty-via-else-is_empty e ↦ rw (whole at ∙ e.if-is_empty.false)
    ] in
    let k = check_number-is w l s d c.in_ok-directory.ensures fails in
    record { value = k; delivered = check-delivered w l s k }
