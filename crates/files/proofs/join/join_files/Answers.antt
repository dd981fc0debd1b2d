-- `files::join::join_files` meets its contract.
-- Assumes nothing.
use mathlib.Core.Path.{◌≡◌, refl, sym, ap, ◌∙◌}
use mathlib.Core.List.{List, []}
use mathlib.Core.Bool.{Bool, false}
use Prim.Native.Nat.{ℕ, ◌≤◌}
use native.Mathlib.Omega.{arith}
use borrow.Author.Tests.{lt-ltb, le-ltb}
use lib.Dec.{eqb}
use lib.ListN.{length, length-replicate}
use Rattle.boxes.proofs.Tests.{or_left, or_right}
use Rattle.questions.specs.Limits.{max_tables, max_words}
use Rattle.fields.specs.Names.{top_check}
use Rattle.csv_tables.specs.declared.refusal.FileRefusal.TheVariants.{Names as FileNames}
use Rattle.files.specs.declared.refusal.JoinRefusal.TheVariants.{Names}
use Rattle.files.specs.Refusals.{at_none}
use Rattle.questions.proofs.Laws.{passed_up}
use Rattle.csv_tables.proofs.Laws.{top-pass, top-refused, refusal-some}
use Rattle.files.specs.Gathers.{gather_from, gather}
use Rattle.files.specs.Says.{refusal_at}
use Rattle.files.proofs.JoinSteps.{names-refused, count-refused, files-gathered, refusal-says, gather-made, front-ask, run-ask, ran_says, long-says}
use Rattle.files.proofs.join.join_files.Goals as goal
use Rattle.files.proofs.join.join_files.Goals.{then-is_empty-via-then-is_empty, then-is_empty-via-else-is_empty+then-ends-gt-MAX_TABLES}

-- there are 1 to 16 files, so that they are gathered
same : (l s es : List ℕ) → top_check l ≡ 0 → {b : Bool} → b ≡ eqb (length es) 0 → b ≡ false → length es ≤ max_tables → gather l s es ≡ gather_from l s 0 [] es
same l s es named e f few = files-gathered l s es named (rw (sym e ∙ f, le-ltb max_tables (length es) few) refl)

pub returns-in_err-dimension : goal.returns-in_err-dimension
returns-in_err-dimension c =
    let a = c.args in
    let why = c.in_err-dimension.field-0.0 in
    let is = top-refused a.names.now c.in_err-dimension.ensures in
    rw (passed_up c.from_residual.result (at_none (Names why)) c.from_residual.ensures.1)
    (refusal-says a.names.now a.files.now a.ends.now a.listing.now a.store.now a.scratch.now a.out.now
    (names-refused a.names.now a.files.now a.ends.now (λ e. refusal-some (FileNames why) (omega (arith, is, e)))) (ap (λ (n : ℕ). refusal_at n 0 0) (sym is)))

pub returns-then-is_empty : goal.returns-then-is_empty
returns-then-is_empty c =
    let a = c.args in
    rw c.at_none.ensures
    (refusal-says a.names.now a.files.now a.ends.now a.listing.now a.store.now a.scratch.now a.out.now
    (count-refused a.names.now a.files.now a.ends.now (top-pass a.names.now c.in_ok-dimension.ensures).0
    (elim c.then-is_empty.branch [
      | then-is_empty-via-then-is_empty w ↦ or_left _ (sym c.is_empty.ensures ∙ w.if-is_empty.true)
      | then-is_empty-via-else-is_empty+then-ends-gt-MAX_TABLES w ↦ or_right (eqb (length a.ends.now) 0) (lt-ltb max_tables (length a.ends.now) w.if-ends-gt-MAX_TABLES.true)
    ])) refl)

pub gather-requires : goal.gather-requires
gather-requires c =
    let top = top-pass c.args.names.now c.in_ok-dimension.ensures in
    record { named = top.0; dimension = top.1; few = c.if-ends-gt-MAX_TABLES.false; long = length-replicate {A = ℕ} max_words 0 }

pub returns-in_err-size : goal.returns-in_err-size
returns-in_err-size c =
    let a = c.args in
    let named = (top-pass a.names.now c.in_ok-dimension.ensures).0 in
    rw (passed_up _ _ c.from_residual-in_err-size.ensures.1)
    (refusal-says a.names.now a.files.now a.ends.now a.listing.now a.store.now a.scratch.now a.out.now
    (same a.names.now a.files.now a.ends.now named c.is_empty.ensures c.if-is_empty.false c.if-ends-gt-MAX_TABLES.false ∙ c.in_err-size.ensures) refl)

pub returns-then-size-gt-MAX_WORDS : goal.returns-then-size-gt-MAX_WORDS
returns-then-size-gt-MAX_WORDS c =
    let a = c.args in
    let top = top-pass a.names.now c.in_ok-dimension.ensures in
    rw c.at_none-then-size-gt-MAX_WORDS.ensures
    (long-says top.0 top.1 (gather-made a.names.now a.files.now a.ends.now c.in_ok-size.size c.in_ok-size.ensures)
    (same a.names.now a.files.now a.ends.now top.0 c.is_empty.ensures c.if-is_empty.false c.if-ends-gt-MAX_TABLES.false)
    (omega (arith, c.if-size-gt-MAX_WORDS.true)) a.listing.now a.store.now a.scratch.now a.out.now refl)

pub put_front-requires : goal.put_front-requires
put_front-requires c =
    let a = c.args in
    let top = top-pass a.names.now c.in_ok-dimension.ensures in
    front-ask top.0 top.1 (gather-made a.names.now a.files.now a.ends.now c.in_ok-size.size c.in_ok-size.ensures) (omega (arith, c.if-size-gt-MAX_WORDS.false)) c.if-ends-gt-MAX_TABLES.false

pub run_and_export-requires : goal.run_and_export-requires
run_and_export-requires c =
    let a = c.args in
    let top = top-pass a.names.now c.in_ok-dimension.ensures in
    run-ask top.0 top.1 (gather-made a.names.now a.files.now a.ends.now c.in_ok-size.size c.in_ok-size.ensures) (omega (arith, c.if-size-gt-MAX_WORDS.false)) c.if-ends-gt-MAX_TABLES.false c.put_front.ensures

pub returns : goal.returns
returns c =
    let a = c.args in
    let top = top-pass a.names.now c.in_ok-dimension.ensures in
    let tables = gather-made a.names.now a.files.now a.ends.now c.in_ok-size.size c.in_ok-size.ensures in
    ran_says top.0 top.1 tables (same a.names.now a.files.now a.ends.now top.0 c.is_empty.ensures c.if-is_empty.false c.if-ends-gt-MAX_TABLES.false)
    (c.run_and_export.ensures (run-ask top.0 top.1 tables (omega (arith, c.if-size-gt-MAX_WORDS.false)) c.if-ends-gt-MAX_TABLES.false c.put_front.ensures))
