-- A line where a row may come, by the tests that the code makes.
--   leaves p l == no row of the last table was read yet, and the line is `open`
--   row-check  == the number for the line; row-some: where it is not empty
--   row_line   == what was read with a line that is not empty
use mathlib.Core.Path.{◌≡◌, sym, ap, ap₂, ◌∙◌}
use mathlib.Core.Bool.{Bool, ◌&&◌, ◌||◌}
use mathlib.Core.List.{List}
use Prim.Native.Nat.{ℕ}
use borrow.Author.Tests.{ne_eqb}
use lib.Dec.{eqb, ltb}
use lib.ListN.{length}
use Rattle.questions.specs.Limits.{max_tables}
use Rattle.questions.specs.Orders.{same}
use Rattle.questions.specs.Questions.{Table, table_with}
use Rattle.fields.specs.Fields.{fields_of}
use Rattle.fields.specs.Names.{form}
use Rattle.text.specs.Texts.{Read, read_of, open_word, begins, are_numbers, last_table, no_rows, check_at, line_check, add_at, line_add, table_line}
use Rattle.text.specs.Progressing.{Stands}
use Rattle.text.specs.declared.reader.Next.{Next}
use Rattle.text.specs.declared.reader.Next.TheVariants.{Names, Row}
use Rattle.text.specs.declared.reader.Progress.{Progress}
use Rattle.text.proofs.ReadWords.{last_table-end}
use Rattle.text.proofs.Steps.{pick-false}

abbrev pub leaves : Progress → List ℕ → Bool
leaves p l = eqb p.rows 0 && same l open_word

module _ (l : List ℕ) {top w : List ℕ} {p : Progress} (is : p.next ≡ Row) (r : Read) (v : List ℕ) (h : Stands top r p v w) where
  pub row-check : line_check r l ≡ form (begins r.question.tables l || (leaves p l || are_numbers p.arity (fields_of l)))
  row-check =
      let ts = r.question.tables in
      let last = h.last is in
      let t : last_table ts ≡ table_with last.attributes last.rows = ap last_table last.is ∙ last_table-end last.before (table_with last.attributes last.rows) in
      ap (λ (n : Next). check_at n r l) (sym h.next ∙ is)
      ∙ ap (λ (t : Table). form (begins ts l || ((no_rows t.contents && same l open_word) || are_numbers (length t.attributes) (fields_of l)))) t
      ∙ ap₂ (λ (m k : ℕ). form (begins ts l || ((eqb m 0 && same l open_word) || are_numbers k (fields_of l)))) (sym last.counted) (sym last.arity)

  module _ (some : length l ≡ 0 → ⊥) where
    pub row-some : {b : Bool} → (leaves p l || are_numbers p.arity (fields_of l)) ≡ b → line_check r l ≡ form b
    row-some e =
        let ts = r.question.tables in
        row-check
        ∙ ap (λ (c : Bool). form ((c && ltb (length ts) max_tables) || (leaves p l || are_numbers p.arity (fields_of l)))) (ne_eqb (length l) 0 some)
        ∙ ap form e

    pub row_line : line_add r l ≡ table_line r.names r.question l
    row_line =
        let q = r.question in
        ap (λ (n : Next). add_at n r.names q l) (sym h.next ∙ is)
        ∙ pick-false (read_of Names r.names q.widths q.tables) (table_line r.names q l) (ne_eqb (length l) 0 some)
