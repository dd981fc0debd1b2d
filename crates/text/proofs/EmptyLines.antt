-- Empty lines: what became of one before a table.
--   begin-says  == an empty line before a table, wherever one may come
--   empty-says, row-begun == where only one may come, and where a row may
use mathlib.Core.Path.{◌≡◌, refl, sym, ap, ap₂, ◌∙◌}
use mathlib.Core.Bool.{Bool, true, false, ◌&&◌, ◌||◌, and-false}
use mathlib.Core.List.{List}
use Prim.Native.Nat.{ℕ, ◌+◌}
use native.Mathlib.Omega.{arith}
use borrow.Author.Tests.{eq-eqb, eqb-true, ltb-true}
use lib.Dec.{eqb, ltb}
use lib.ListN.{length}
use Rattle.boxes.proofs.Tests.{by, and_left, and_right, or-false}
use Rattle.questions.specs.Limits.{max_tables}
use Rattle.fields.specs.Fields.{fields_of}
use Rattle.fields.specs.Names.{form}
use Rattle.text.specs.Texts.{Read, read_of, is_empty, begins, check_at, line_check, add_at, line_add, table_line}
use Rattle.text.specs.Progressing.{Stands, WordsBounded, waiting}
use Rattle.text.specs.Reads.{TakeSays, TakesSay, BeginSays}
use Rattle.text.specs.declared.reader.Next.{Next}
use Rattle.text.specs.declared.reader.Next.TheVariants.{Widths, Empty, Names, Row}
use Rattle.text.specs.declared.reader.Progress.{Progress}
use Rattle.std.specs.Prelude.{Result, Ok, Err}
use Rattle.text.specs.declared.refusal.TextRefusal.{TextRefusal}
use Rattle.text.specs.declared.refusal.TextRefusal.TheVariants.{Malformed}
use Rattle.text.proofs.Nexts.{next-other}
use Rattle.text.proofs.Checks.{numbers-wrong, row-empty, open-empty}
use Rattle.text.proofs.Steps.{pick_true, pick-false, take-refused, take-passed}
use Rattle.text.proofs.Standing.{stands-begun}
use Rattle.text.proofs.RowLines.{row-check}

module _ {top l w : List ℕ} {p : Progress} {next : Next} (later : next ≡ Widths → ⊥) (is : p.next ≡ next)
    (checks : (r : Read) (v : List ℕ) → Stands top r p v w → line_check r l ≡ form (begins r.question.tables l))
    (adds : (r : Read) → r.next ≡ next → length l ≡ 0 → line_add r l ≡ read_of Names r.names r.question.widths r.question.tables) where
  begin-check : (b : Bool) → (is_empty l && ltb p.tables max_tables) ≡ b → (r : Read) (v : List ℕ) → Stands top r p v w → line_check r l ≡ form b
  begin-check b e r v h = checks r v h ∙ ap (λ (n : ℕ). form (is_empty l && ltb n max_tables)) (sym h.tables) ∙ ap form e

  module _ (fits : (is_empty l && ltb p.tables max_tables) ≡ true) where
    begin-stands : (r : Read) (v : List ℕ) → Stands top r p v w → Stands top (line_add r l) (waiting Names p) v w
    begin-stands r v h =
        let none : length l ≡ 0 = eqb-true (length l) 0 (and_left (is_empty l) (ltb p.tables max_tables) fits) in
        rw (adds r (sym h.next ∙ is) none) (stands-begun h (λ e. later (sym is ∙ e)))

    begin-grown : (at : ℕ) → WordsBounded p at → WordsBounded (waiting Names p) (at + length l + 1)
    begin-grown at g = record {
      few = g.few;
      arity = g.arity;
      tables = g.tables;
      begun = λ _. ltb-true p.tables max_tables (and_right (is_empty l) (ltb p.tables max_tables) fits);
      rows = omega (arith, g.rows);
      counter = g.counter;
      words = omega (arith, g.words);
    }

  begin-says : {s : Result Progress TextRefusal} → BeginSays l p s → TakeSays top l w w p s
  begin-says says =
      let begun : Result Progress TextRefusal = Ok (waiting Names p) in
      let stays : Result Progress TextRefusal = Err Malformed in
      by (is_empty l && ltb p.tables max_tables)
      (λ t. take-passed (waiting Names p) (says ∙ pick_true begun stays t) (begin-check true t) (begin-stands t) (begin-grown t))
      (λ f. take-refused Malformed 14 refl (says ∙ pick-false begun stays f) (begin-check false f))

-- an empty line where a row may come
module _ (l : List ℕ) (none : length l ≡ 0) where
  row-empty-check : {top w : List ℕ} {p : Progress} → p.next ≡ Row → (r : Read) (v : List ℕ) → Stands top r p v w → line_check r l ≡ form (begins r.question.tables l)
  row-empty-check {p = p} is r v h =
      let ts = r.question.tables in
      row-check l is r v h
      ∙ ap₂ (λ (b c : Bool). form (begins ts l || ((eqb p.rows 0 && b) || c))) (open-empty l none) (numbers-wrong p.arity (fields_of l) (row-empty l none))
      ∙ ap (λ (b : Bool). form (begins ts l || (b || false))) (and-false (eqb p.rows 0))
      ∙ ap form (or-false (begins ts l))

  row-adds : (r : Read) → r.next ≡ Row → line_add r l ≡ read_of Names r.names r.question.widths r.question.tables
  row-adds r e =
      let q = r.question in
      ap (λ (n : Next). add_at n r.names q l) e
      ∙ pick_true (read_of Names r.names q.widths q.tables) (table_line r.names q l) (eq-eqb (length l) 0 none)

module _ {l w : List ℕ} {p : Progress} {s : Result Progress TextRefusal} where
  pub empty-says : BeginSays l p s → TakesSay Empty l w w p s
  empty-says says is top =
      begin-says (next-other Empty Widths refl) is (λ r v h. ap (λ (n : Next). check_at n r l) (sym h.next ∙ is)) (λ r e none. ap (λ (n : Next). add_at n r.names r.question l) e) says

  pub row-begun : length l ≡ 0 → BeginSays l p s → TakesSay Row l w w p s
  row-begun none says is top = begin-says (next-other Row Widths refl) is (row-empty-check l none is) (λ r e _. row-adds l none r e) says
