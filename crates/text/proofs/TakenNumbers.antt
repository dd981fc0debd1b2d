-- Lines of numbers: what became of the widths, and of a row.
--   numbers-taken, numbers-other, numbers-wrong == a line of n numbers; it has not n; a field is none
--   widths-refused, widths-taken == the line of widths
--   row-refused, row-taken       == a row
--   row_room                     == its values have room
--   widths-long, row-long        == the words stay as many
use mathlib.Core.Path.{◌≡◌, refl, sym, ap, ap₂, ◌∙◌}
use mathlib.Core.Bool.{Bool, true, false, ◌||◌, or-true, and-false}
use mathlib.Core.List.{List, []}
use Prim.Native.Nat.{ℕ, suc, ◌+◌, ◌≤◌}
use native.Mathlib.Omega.{arith}
use borrow.Author.Tests.{eqb-true, eq-eqb, ne_eqb}
use lib.Dec.{eqb}
use Rattle.boxes.proofs.Tests.{and_left, and_right}
use lib.ListN.{length, set, length-map, length-set}
use lib.Seq.{paste, length-paste}
use Rattle.boxes.specs.Limits.{max_attributes}
use Rattle.fields.specs.Fields.{every, fields_of, is_number, field_number}
use Rattle.fields.specs.Names.{form}
use Rattle.fields.specs.Lines.{numbers_of, values, numbers_in, numbers_by, number_line}
use Rattle.fields.specs.declared.lines.ValueLine.{ValueLine}
use Rattle.fields.proofs.Laws.{given_some, given_none, length-filled, numbers_in-line}
use Rattle.text.specs.Texts.{Read, read_of, are_numbers, check_at, line_check, add_at, line_add, with_row, left_open}
use Rattle.text.specs.Progressing.{Stands, Safe, WordsBounded}
use Rattle.text.specs.Reads.{TakesSay}
use Rattle.text.specs.declared.reader.Next.{Next}
use Rattle.text.specs.declared.reader.Next.TheVariants.{Widths, Empty, Names, Row}
use Rattle.text.specs.declared.reader.Progress.{Progress}
use Rattle.std.specs.Prelude.{Result, Ok, Err, Some, None}
use Rattle.text.specs.declared.refusal.TextRefusal.{TextRefusal}
use Rattle.text.specs.declared.refusal.TextRefusal.TheVariants.{Malformed}
use Rattle.text.proofs.Nexts.{next-other}
use Rattle.text.proofs.Checks.{numbers-not-open}
use Rattle.text.proofs.Steps.{pick-false, grown-none, take-refused, take-passed}
use Rattle.text.proofs.Standing.{after_widths, after_row, stands-widths, stands-row}
use Rattle.text.proofs.RowLines.{leaves, row-some, row_line}

-- a line of n numbers, or none, by what there is to say of the line
module _ (n : ℕ) (l : List ℕ) {x : ValueLine} (is : x ≡ number_line l) where
  by-line : numbers_in n l ≡ numbers_by n x
  by-line = numbers_in-line n l ∙ ap (numbers_by n) (sym is)

  pub numbers-taken : x.count ≡ n → x.right ≡ true → numbers_in n l ≡ Some x.values
  numbers-taken count right = by-line ∙ rw (eq-eqb x.count n count, right) refl

  pub numbers-other : (x.count ≡ n → ⊥) → numbers_in n l ≡ None
  numbers-other other = by-line ∙ rw (ne_eqb x.count n other) refl

  pub numbers-wrong : x.right ≡ false → numbers_in n l ≡ None
  numbers-wrong wrong = by-line ∙ rw (wrong, and-false (eqb x.count n)) refl

module _ (l w : List ℕ) (p : Progress) where
  not-numbers : (n : ℕ) → numbers_in n l ≡ None → are_numbers n (fields_of l) ≡ false
  not-numbers n e = given_none (are_numbers n (fields_of l)) (values (numbers_of l)) e

  -- what a line of k numbers tells
  module _ (k : ℕ) {vs : List ℕ} (numbers : numbers_in k l ≡ Some vs) where
    are-numbers : are_numbers k (fields_of l) ≡ true
    are-numbers = (given_some (are_numbers k (fields_of l)) (values (numbers_of l)) vs numbers).0

    count-is : length (fields_of l) ≡ k
    count-is = eqb-true (length (fields_of l)) k (and_left (eqb (length (fields_of l)) k) (every is_number (fields_of l)) are-numbers)

    each-number : every is_number (fields_of l) ≡ true
    each-number = and_right (eqb (length (fields_of l)) k) (every is_number (fields_of l)) are-numbers

    all-numbers : length (numbers_of l) ≡ k
    all-numbers = length-map (fields_of l) field_number ∙ count-is

    -- the words written for the values of the line
    module _ (at : ℕ) (few : k ≤ max_attributes) where
      values-is : (v : List ℕ) → paste v at vs k ≡ paste v at (values (numbers_of l)) k
      values-is v = ap (λ (xs : List ℕ). paste v at xs k) (given_some (are_numbers k (fields_of l)) (values (numbers_of l)) vs numbers).1

      still-long : (v : List ℕ) → at + k ≤ length v → length (paste v at vs k) ≡ length v
      still-long v h =
          let f : length (numbers_of l) ≤ max_attributes = omega (arith, all-numbers) in
          ap length (values-is v) ∙ length-paste v at (values (numbers_of l)) k h (omega (arith, length-filled (numbers_of l) f))

  widths-check : {top : List ℕ} (b : Bool) → are_numbers p.dimension (fields_of l) ≡ b → p.next ≡ Widths → (r : Read) (v : List ℕ) → Stands top r p v w
      → line_check r l ≡ form b
  widths-check b e e' r v h =
      ap (λ (n : Next). check_at n r l) (sym h.next ∙ e') ∙ ap (λ (n : ℕ). form (are_numbers n (fields_of l))) (sym h.dimension) ∙ ap form e

  pub widths-refused : {s : Result Progress TextRefusal} → numbers_in p.dimension l ≡ None → s ≡ Err Malformed → TakesSay Widths l w w p s
  widths-refused wrong e is top = take-refused Malformed 14 refl e (widths-check false (not-numbers p.dimension wrong) is)

  module _ (safe : Safe p l w) {vs : List ℕ} (numbers : numbers_in p.dimension l ≡ Some vs) (short : length (fields_of l) ≤ suc (length l)) (put : List ℕ)
      (made : put ≡ paste (set w 0 p.dimension) 1 vs p.dimension) where
    pub widths-long : length (set put (p.dimension + 1) 0) ≡ length w
    widths-long =
        let n = p.dimension in
        length-set put (n + 1) 0
        ∙ ap length made
        ∙ still-long n numbers 1 safe.few (set w 0 n) (omega (arith, safe.counted, length-set w 0 n))
        ∙ length-set w 0 n

    widths-stand : {top : List ℕ} → p.next ≡ Widths → (r : Read) (v : List ℕ) → Stands top r p v w → Stands top (line_add r l) (after_widths p) v (set put (p.dimension + 1) 0)
    widths-stand {top} e r v h =
        let n = p.dimension in
        let written : put ≡ paste (set w 0 n) 1 (values (numbers_of l)) n = made ∙ values-is n numbers 1 safe.few (set w 0 n) in
        let line : line_add r l ≡ read_of Empty r.names (numbers_of l) [] = ap (λ (m : Next). add_at m r.names r.question l) (sym h.next ∙ e) in
        rw (line, written) (stands-widths h (numbers_of l) e (all-numbers n numbers) safe.few safe.counted)

    widths-grown : (at : ℕ) → WordsBounded p at → WordsBounded (after_widths p) (at + length l + 1)
    widths-grown at g = grown-none Empty p.dimension (p.dimension + 2) (at + length l + 1) (next-other Empty Names refl) safe.few (omega (arith, count-is p.dimension numbers))

    pub widths-taken : {s : Result Progress TextRefusal} → s ≡ Ok (after_widths p) → TakesSay Widths l w (set put (p.dimension + 1) 0) p s
    widths-taken e is top = take-passed (after_widths p) e (widths-check true (are-numbers p.dimension numbers) is) (widths-stand is) widths-grown

  -- a row, where a row comes next
  abbrev pub after_next : Next → Progress
  after_next next = record { next = next; dimension = p.dimension; tables = p.tables; words = p.words + p.arity; arity = p.arity; rows = p.rows + 1; counter = p.counter }

  pub row-refused : {s : Result Progress TextRefusal} → (length l ≡ 0 → ⊥) → leaves p l ≡ false → numbers_in p.arity l ≡ None → s ≡ Err Malformed → TakesSay Row l w w p s
  row-refused some stay wrong e is top = take-refused Malformed 14 refl e (λ r v h. row-some l is r v h some (ap₂ ◌||◌ stay (not-numbers p.arity wrong)))

  module _ (safe : Safe p l w) {vs : List ℕ} (numbers : numbers_in p.arity l ≡ Some vs) (short : length (fields_of l) ≤ suc (length l)) where
    pub row_room : p.words + p.arity ≤ length (set w p.counter (p.rows + 1))
    row_room = omega (arith, count-is p.arity numbers, safe.room, length-set w p.counter (p.rows + 1))

    module _ (put : List ℕ) (made : put ≡ paste (set w p.counter (p.rows + 1)) p.words vs p.arity) where
      pub row-long : length put ≡ length w
      row-long =
          let counted = set w p.counter (p.rows + 1) in
          ap length made ∙ still-long p.arity numbers p.words safe.arity counted row_room ∙ length-set w p.counter (p.rows + 1)

      row-stands : (length l ≡ 0 → ⊥) → {top : List ℕ} → p.next ≡ Row → (r : Read) (v : List ℕ) → Stands top r p v w → Stands top (line_add r l) (after_row p) v put
      row-stands some {top} e r v h =
          let q = r.question in
          let counted = set w p.counter (p.rows + 1) in
          let row : Read = read_of Row r.names q.widths (with_row q.tables (numbers_of l)) in
          let written : put ≡ paste counted p.words (values (numbers_of l)) p.arity = made ∙ values-is p.arity numbers p.words safe.arity counted in
          let line : line_add r l ≡ row =
          row_line l e r v h some ∙ pick-false (read_of Empty r.names q.widths (left_open q.tables)) row (numbers-not-open l (each-number p.arity numbers)) in
          rw (line, written) (stands-row h e (numbers_of l) (all-numbers p.arity numbers) safe.arity)

      row-grown : (at : ℕ) → WordsBounded p at → WordsBounded (after_row p) (at + length l + 1)
      row-grown at g = record {
        few = g.few;
        arity = g.arity;
        tables = g.tables;
        begun = λ x. next-other Row Names refl x;
        rows = omega (arith, g.rows);
        counter = omega (arith, g.counter);
        words = omega (arith, g.words, count-is p.arity numbers);
      }

      pub row-taken : (length l ≡ 0 → ⊥) → TakesSay Row l w put p (Ok (after_next p.next))
      row-taken some is top = take-passed (after_row p) (ap (λ (next : Next). Ok (after_next next)) is) (λ r v h. row-some l is r v h some (ap (λ (b : Bool). leaves p l || b) (are-numbers p.arity numbers) ∙ or-true (leaves p l))) (row-stands some is) row-grown
