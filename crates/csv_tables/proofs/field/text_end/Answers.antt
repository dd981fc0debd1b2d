-- `csv_tables::field::text_end` meets its contract.
-- Assumes nothing.
use mathlib.Core.Path.{ap, ◌∙◌}
use mathlib.Core.List.{List}
use Prim.Native.Nat.{ℕ}
use native.Mathlib.Omega.{arith}
use lib.ListN.{length, drop, length-drop}
use lib.Seq.{take_all}
use Rattle.std.specs.List.{take_while}
use Rattle.csv_tables.specs.Records.{is_text}
use Rattle.csv_tables.proofs.FieldEnds.{text-ends}
use Rattle.csv_tables.proofs.field.text_end.Goals as goal

pub returns : goal.returns
returns c =
    let s = c.args.file.now in
    let a = c.args.from in
    text-ends c.requires.from_in_bounds c.requires.from_value c.text_length.result
    (c.text_length.ensures ∙ ap (λ (l : List ℕ). length (take_while is_text l)) (take_all _ (drop a s) (omega (arith, length-drop a s))))
