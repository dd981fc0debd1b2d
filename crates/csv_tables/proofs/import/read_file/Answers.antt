-- `csv_tables::import::read_file` meets its contract.
-- Assumes nothing.
use mathlib.Core.Path.{refl, ap, ◌∙◌}
use Prim.Native.Nat.{ℕ}
use native.Mathlib.Omega.{arith}
use lib.ListN.{length-replicate}
use Rattle.questions.proofs.Laws.{passed_up}
use Rattle.csv_tables.specs.Imports.{refused}
use Rattle.csv_tables.specs.Keeping.{rows_words}
use Rattle.csv_tables.specs.Refusals.{at_none}
use Rattle.csv_tables.specs.declared.refusal.FileRefusal.TheVariants.{Names}
use Rattle.csv_tables.proofs.RefusalNumbers.{refusal-some}
use Rattle.csv_tables.proofs.TopLines.{top-pass, top-refused, import-names, import-long, import-file}
use Rattle.csv_tables.proofs.HeaderChecks.{table-read}
use Rattle.csv_tables.proofs.import.read_file.Goals as goal

pub returns-in_err-dimension : goal.returns-in_err-dimension
returns-in_err-dimension c =
    let s = c.args in
    let why = c.in_err-dimension.field-0.0 in
    let is = top-refused s.names.now c.in_err-dimension.ensures in
    rw (passed_up c.from_residual.result (at_none (Names why)) c.from_residual.ensures.1)
    (import-names s.names.now s.file.now (λ e. refusal-some (Names why) (omega (arith, is, e))) ∙ ap (λ (n : ℕ). refused n 0) is, refl)

pub returns-then-file-gt-MAX_BYTES : goal.returns-then-file-gt-MAX_BYTES
returns-then-file-gt-MAX_BYTES c =
    let s = c.args in (import-long s.names.now s.file.now (top-pass s.names.now c.in_ok-dimension.ensures).0 (omega arith), refl)

pub read_table-requires : goal.read_table-requires
read_table-requires c =
    let top = top-pass c.args.names.now c.in_ok-dimension.ensures in
    record {
      named = top.0;
      dimension = top.1;
      short = omega arith;
      rows_long = length-replicate {A = ℕ} rows_words 0;
      order-long = refl;
    }

pub returns : goal.returns
returns c =
    let s = c.args in
    table-read s.words.now c.read_table.new.words c.read_table.result (import-file s.names.now s.file.now (top-pass s.names.now c.in_ok-dimension.ensures).0 (omega arith)) c.read_table.ensures
