-- How many words a text is read into: half as many as it has bytes, and two for each table. With at most 60,000 bytes and 16 tables these are not too many.
--   length-words_of   == the words of a question are those of its tables, its widths and two counts
--   size-row, size-open == what a table has, with one row more, and as an open table
--   Sized r m        == what was read of m bytes: its tables and its words are few enough
--   add_at-sized      == with a line more
--   lines-sized      == with all lines
--   read_text-few-words == the words of a text that was read are not too many
use mathlib.Core.Path.{◌≡◌, refl, ap, ◌∙◌}
use mathlib.Core.Bool.{true}
use mathlib.Core.List.{List, [], ◌∷◌, map}
use Prim.Native.Nat.{ℕ, suc, ◌+◌, ◌*◌, ◌≤◌, ◌<◌}
use native.Mathlib.Omega.{arith}
use borrow.Author.Tests.{eqb-true, eqb-false, ltb-true}
use lib.Dec.{eqb, ltb, leb}
use lib.ListN.{length, length-append, length-map}
use Rattle.boxes.proofs.Tests.{by, and_right}
use Rattle.boxes.proofs.Lists.{length-end}
use Rattle.questions.specs.Limits.{max_tables, max_words}
use Rattle.questions.specs.Questions.{Contents, with_rows, unfilled, with_pairs, Table, Question, table_with}
use Rattle.questions.specs.Words.{flat, contents_words, table_words, words_of}
use Rattle.questions.proofs.Laws.{flat-end, words_of-is}
use Rattle.fields.specs.Limits.{max_bytes}
use Rattle.fields.specs.Fields.{line_end, place, lines_of, fields_of, field_number}
use Rattle.fields.specs.Names.{are_names, top_check}
use Rattle.fields.specs.Lines.{numbers_of, places_of}
use Rattle.fields.proofs.Laws.{form-right, first-form, bytes_in, bytes_in-more, split-bytes, HalfFields, names-half, numbers-half}
use Rattle.text.specs.Texts.{Read, is_empty, begins, last_arity, check_at, line_check, row_added, add_at, line_add, read_lines, top_read, read_top, read_text}
use Rattle.text.specs.declared.reader.Next.{Next}
use Rattle.text.specs.declared.reader.Next.TheVariants.{Widths, Empty, Names, Row}
use Rattle.text.proofs.ReadWidths.{read_text-long}
use Rattle.text.proofs.Checks.{RowLine, begins-table, is_open, is_row, row-passed}
use Rattle.text.proofs.LastTables.{tables_size, length-on_last, size-end, on_last-size}

-- ---- words

length-words_of : (q : Question) → length (words_of q) ≡ 2 + length q.widths + tables_size q.tables
length-words_of q = ap length (words_of-is q) ∙ omega (arith, length-append q.widths (length q.tables ∷ flat (map table_words q.tables)))

size-row : (x : List ℕ) (c : Contents) → length (contents_words (row_added x c)) ≤ length (contents_words c) + length x
size-row x (with_rows rs) = omega (arith, ap length (flat-end rs x), length-append (flat rs) x)
size-row x unfilled = omega arith
size-row x (with_pairs ps) = omega arith

size-open : (c : Contents) → length (contents_words unfilled) ≤ length (contents_words c) + 0
size-open (with_rows rs) = omega arith
size-open unfilled = omega arith
size-open (with_pairs ps) = omega arith

-- ---- lines

-- each word takes two of the m bytes, but for two words of the question and two of each table
record Sized (r : Read) (m : ℕ) : Type 0 where
  pub tables : length r.question.tables ≤ max_tables
  pub begun : r.next ≡ Names → length r.question.tables < max_tables
  pub words : 2 * (length r.question.widths + tables_size r.question.tables) ≤ m + 4 * length r.question.tables

add_at-sized : (n : Next) (r : Read) (l : List ℕ) {m : ℕ} → r.next ≡ n → check_at n r l ≡ 0 → Sized r m → Sized (add_at n r.names r.question l) (suc (length l) + m)
unfolding flat
add_at-sized Widths r l is e h =
    let filled : HalfFields l = numbers-half l (and_right (eqb (length (fields_of l)) (length r.names)) _ (form-right _ e)) in
    record {
      tables = omega arith;
      begun = λ c. let z : ◌≡◌ {A = ℕ} 0 1 = cc in absurd (omega arith);
      words = omega (arith, length-map (fields_of l) field_number);
    }
add_at-sized Empty r l is e h =
    let begins-one : begins r.question.tables l ≡ true = form-right _ e in
    record {
      tables = h.tables;
      begun = λ c. ltb-true (length r.question.tables) max_tables (and_right (is_empty l) _ begins-one);
      words = omega (arith, h.words);
    }
add_at-sized Names r l is e h =
    let filled : HalfFields l = names-half l (and_right (leb (length (fields_of l)) (length r.names)) _ (first-form (are_names (length r.names) (fields_of l)) _ e)) in
    let ts : List Table = r.question.tables in
    let xs : List ℕ = places_of r.names l in
    record {
      tables = omega (arith, length-end ts (table_with xs []), h.begun is);
      begun = λ c. let z : ◌≡◌ {A = ℕ} 0 1 = cc in absurd (omega arith);
      words = omega (arith, h.words, size-end ts xs, length-end ts (table_with xs []), length-map (fields_of l) (λ f. place f r.names));
    }
add_at-sized Row r l {m} is e h = by-line (row-passed r l e)
  where
    by-line : RowLine r.question.tables l → Sized (add_at Row r.names r.question l) (suc (length l) + m)
    by-line (begins-table t b) = rw t (record {
      tables = h.tables;
      begun = λ c. ltb-true (length r.question.tables) max_tables (and_right (is_empty l) _ b);
      words = omega (arith, h.words);
    })
    by-line (is_open f o) =
        let ts : List Table = r.question.tables in
        rw (f, o) (record {
          tables = omega (arith, h.tables, length-on_last (λ c. unfilled) ts);
          begun = λ c. let z : ◌≡◌ {A = ℕ} 0 1 = cc in absurd (omega arith);
          words = omega (arith, h.words, on_last-size (λ c. unfilled) 0 ts size-open, length-on_last (λ c. unfilled) ts);
        })
    by-line (is_row f o n) =
        let ts : List Table = r.question.tables in
        let x : List ℕ = numbers_of l in
        let filled : HalfFields l = numbers-half l (and_right (eqb (length (fields_of l)) (last_arity ts)) _ n) in
        rw (f, o) (record {
          tables = omega (arith, h.tables, length-on_last (row_added x) ts);
          begun = λ c. let z : ◌≡◌ {A = ℕ} 0 1 = cc in absurd (omega arith);
          words = omega (arith, h.words, on_last-size (row_added x) (length x) ts (size-row x), length-on_last (row_added x) ts, length-map (fields_of l) field_number);
        })

sized-later : {r : Read} {m n : ℕ} → m ≤ n → Sized r m → Sized r n
sized-later k h = record { tables = h.tables; begun = h.begun; words = omega (arith, h.words) }

lines-sized : (r : Read) (ls : List (List ℕ)) {k : ℕ} → Sized r k → Sized (read_lines r ls).read (bytes_in ls + k)
unfolding read_lines
lines-sized r [] h = sized-later (omega arith) h
lines-sized r (l ∷ []) h = sized-later (omega arith) h
lines-sized r (l ∷ (m ∷ ls)) {k} h =
    by (eqb (line_check r l) 0)
    (λ t.
    let next : Sized (line_add r l) (suc (length l) + k) = add_at-sized r.next r l refl (eqb-true (line_check r l) 0 t) h in
    rw t (sized-later (omega (arith, bytes_in-more l (m ∷ ls))) (lines-sized (line_add r l) (m ∷ ls) next)))
    (λ f. rw f (sized-later (omega arith) h))

-- ---- the text

top-sized : (l : List ℕ) → Sized (top_read l) 0
unfolding flat
top-sized l = record { tables = omega arith; begun = λ c. let z : ◌≡◌ {A = ℕ} 0 1 = cc in absurd (omega arith); words = omega arith }

read_top-sized : (ls : List (List ℕ)) → (read_top ls).number ≡ 0 → Sized (read_top ls).read (bytes_in ls)
unfolding read_top
read_top-sized [] e = absurd (omega arith)
read_top-sized (l ∷ []) e = absurd (omega arith)
read_top-sized (l ∷ (m ∷ ls)) e =
    by (eqb (top_check l) 0)
    (λ t. rw t (sized-later (omega (arith, bytes_in-more l (m ∷ ls))) (lines-sized (top_read l) (m ∷ ls) (top-sized l))))
    (λ f. absurd (eqb-false (top_check l) 0 f (rw f at e)))

read_text-sized : (s : List ℕ) → (read_text s).number ≡ 0 → Sized (read_text s).read (suc (length s))
unfolding read_text
read_text-sized s e =
    by (ltb max_bytes (length s))
    (λ t. absurd (omega (arith, rw t at e)))
    (λ f. rw (f, ← split-bytes line_end s) (read_top-sized (lines_of s) (rw f at e)))

pub read_text-few-words : (s : List ℕ) → (read_text s).number ≡ 0 → length (words_of (read_text s).read.question) ≤ max_words
read_text-few-words s e =
    let h : Sized (read_text s).read (suc (length s)) = read_text-sized s e in
    omega (arith, length-words_of (read_text s).read.question, h.words, h.tables, read_text-long s e)
