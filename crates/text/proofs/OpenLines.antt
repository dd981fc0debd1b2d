-- The line `open`: what became of it, right after a table's names.
--   open-taken == the last table is open, and only an empty line or the end may follow
use mathlib.Core.Path.{◌≡◌, refl, ap, ◌∙◌}
use mathlib.Core.Bool.{Bool, true, ◌||◌}
use mathlib.Core.List.{List}
use Prim.Native.Nat.{ℕ, ◌+◌}
use native.Mathlib.Omega.{arith}
use borrow.Author.Tests.{eqb-true}
use lib.Dec.{eqb}
use lib.ListN.{length, set}
use Rattle.boxes.proofs.Tests.{and_left, and_right}
use Rattle.questions.specs.Limits.{open_mark}
use Rattle.questions.specs.Orders.{same}
use Rattle.fields.specs.Fields.{fields_of}
use Rattle.fields.specs.Lines.{numbers_of}
use Rattle.text.specs.Texts.{Read, read_of, open_word, are_numbers, line_add, with_row, left_open}
use Rattle.text.specs.Progressing.{Stands, WordsBounded, waiting}
use Rattle.text.specs.Reads.{TakesSay}
use Rattle.text.specs.declared.reader.Next.TheVariants.{Empty, Names, Row}
use Rattle.text.specs.declared.reader.Progress.{Progress}
use Rattle.std.specs.Prelude.{Ok}
use Rattle.text.proofs.Nexts.{next-other}
use Rattle.text.proofs.Steps.{pick_true, take-passed}
use Rattle.text.proofs.Standing.{stands-open}
use Rattle.text.proofs.RowLines.{leaves, row-some, row_line}

open-grown : (l : List ℕ) {p : Progress} (at : ℕ) → WordsBounded p at → WordsBounded (waiting Empty p) (at + length l + 1)
open-grown l at g = record {
  few = g.few;
  arity = g.arity;
  tables = g.tables;
  begun = λ e. next-other Empty Names refl e;
  rows = omega (arith, g.rows);
  counter = g.counter;
  words = omega (arith, g.words);
}

module _ (l : List ℕ) {w : List ℕ} {p : Progress} (some : length l ≡ 0 → ⊥) (leave : leaves p l ≡ true) where
  open-stands : {top : List ℕ} → p.next ≡ Row → (r : Read) (v : List ℕ) → Stands top r p v w → Stands top (line_add r l) (waiting Empty p) v (set w p.counter open_mark)
  open-stands is r v h =
      let q = r.question in
      let line : line_add r l ≡ read_of Empty r.names q.widths (left_open q.tables) =
      row_line l is r v h some
      ∙ pick_true (read_of Empty r.names q.widths (left_open q.tables)) (read_of Row r.names q.widths (with_row q.tables (numbers_of l)))
      (and_right (eqb p.rows 0) (same l open_word) leave) in
      rw line (stands-open h is (eqb-true p.rows 0 (and_left (eqb p.rows 0) (same l open_word) leave)))

  pub open-taken : {w' : List ℕ} {q : Progress} → q ≡ waiting Empty p → w' ≡ set w p.counter open_mark → TakesSay Row l w w' p (Ok q)
  open-taken left words is top =
      rw words
      (take-passed (waiting Empty p) (ap Ok left)
      (λ r v h. row-some l is r v h some (ap (λ (b : Bool). b || are_numbers p.arity (fields_of l)) leave))
      (open-stands is) (open-grown l))
