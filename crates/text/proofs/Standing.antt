-- Progress and words stand for what was read, line by line.
--   after_widths p, after_names p k, after_row p == the progress after the line of widths, a line of k names, a row
--   stands-start  == after the top line
--   stands-widths == after the line of widths
--   stands-begun == after an empty line
--   stands-names  == after a table's line of names
--   stands-row, stands-open == after a row, after the line `open`
use mathlib.Core.Path.{◌≡◌, refl, sym, ap, ◌∙◌}
use mathlib.Core.List.{List, [], ◌∷◌, ◌++◌, map}
use Prim.Native.Nat.{ℕ, suc, ◌+◌, ◌≤◌, ◌<◌}
use native.Mathlib.Omega.{arith}
use lib.ListN.{length, set, take, drop, length-append, length-drop}
use lib.Seq.{append_snoc, paste}
use Rattle.boxes.specs.Limits.{max_attributes}
use Rattle.boxes.proofs.Lists.{length-end}
use Rattle.questions.specs.Limits.{open_mark}
use Rattle.questions.specs.Questions.{unfilled, Table, Question, table_with, open_table}
use Rattle.questions.specs.Words.{flat, table_words, words_of, over}
use Rattle.questions.proofs.Laws.{flat-none, words_of-is}
use Rattle.fields.specs.Fields.{fields_of}
use Rattle.fields.specs.Lines.{values}
use Rattle.fields.proofs.Laws.{over-end, over-paste, over-patch, values-front, length-filled}
use Rattle.text.specs.Texts.{Read, read_of, row_added, with_row, left_open, words_read, top_read}
use Rattle.text.specs.Progressing.{Last, Stands, start_of, waiting}
use Rattle.text.specs.declared.reader.Next.TheVariants.{Widths, Empty, Names, Row}
use Rattle.text.specs.declared.reader.Progress.{Progress}
use Rattle.text.proofs.Nexts.{next-other}
use Rattle.text.proofs.ReadWords.{question_with, up_to, length-up_to, flat-rowless, words-none, words_last, words_row, words_open, on_last-end, words_read-none, words_read-some}

abbrev pub after_widths : Progress → Progress
after_widths p = record { next = Empty; dimension = p.dimension; tables = 0; words = p.dimension + 2; arity = 0; rows = 0; counter = 0 }

abbrev pub after_names : Progress → ℕ → Progress
after_names p k = record {
  next = Row;
  dimension = p.dimension;
  tables = p.tables + 1;
  words = p.words + 1 + k + 1;
  arity = k;
  rows = 0;
  counter = p.words + 1 + k;
}

abbrev pub after_row : Progress → Progress
after_row p = record {
  next = Row;
  dimension = p.dimension;
  tables = p.tables;
  words = p.words + p.arity;
  arity = p.arity;
  rows = p.rows + 1;
  counter = p.counter;
}

-- the values of a line, written behind a front
module _ (xs v ys : List ℕ) (k : ℕ) (many : length ys ≡ k) (few : k ≤ max_attributes) where
  values-behind : {w : List ℕ} (at : ℕ) → w ≡ over xs v → length xs ≡ at → paste w at (values ys) k ≡ over (xs ++ ys) v
  values-behind at e long =
      let f : length ys ≤ max_attributes = omega arith in
      over-paste xs v (values ys) at k e long (omega (arith, length-filled ys f))
      ∙ ap (λ (zs : List ℕ). over (xs ++ zs) v) (ap (λ (j : ℕ). take j (values ys)) (sym many) ∙ values-front ys f)

module _ {top : List ℕ} {r : Read} {p : Progress} {v w : List ℕ} (h : Stands top r p v w) where
  stands-room : p.words < length w → length w ≡ length v
  stands-room k =
      omega (arith, ap length h.front, h.words, length-append (words_read r) (drop (length (words_read r)) v), length-drop (length (words_read r)) v)

  some-width : (p.next ≡ Widths → ⊥) → 1 ≤ length r.question.widths
  some-width n = omega (arith, h.measured n, h.some)

  pub stands-widths : (xs : List ℕ) → p.next ≡ Widths → length xs ≡ p.dimension → p.dimension ≤ max_attributes → p.dimension + 1 < length w
      → Stands top (read_of Empty r.names xs []) (after_widths p) v
      (set (paste (set w 0 p.dimension) 1 (values xs) p.dimension) (p.dimension + 1) 0)
  stands-widths xs is many few room =
      let n = p.dimension in
      let start : w ≡ over [] v = h.front ∙ ap (λ (zs : List ℕ). over zs v) (words_read-none r (ap (λ (q : Question). length q.widths) (h.fresh is))) in
      let long : length w ≡ length v = ap length start in
      let first = over-end [] v 0 n start refl (omega arith) in
      let next = values-behind (n ∷ []) v xs n many few 1 first refl in
      let end = over-end (n ∷ xs) v (n + 1) 0 next (omega arith) (omega arith) in
      let some : 1 ≤ length xs = omega (arith, h.some, h.dimension) in
      let all : words_read (read_of Empty r.names xs []) ≡ (n ∷ xs) ++ (0 ∷ []) =
      words_read-some (read_of Empty r.names xs []) some ∙ words-none xs ∙ ap (λ (j : ℕ). (j ∷ xs) ++ (0 ∷ [])) many in
      record {
        next = refl;
        names = h.names;
        some = h.some;
        dimension = h.dimension;
        tables = refl;
        words = omega (arith, ap length all, length-end (n ∷ xs) 0);
        front = end ∙ ap (λ (zs : List ℕ). over zs v) (sym all);
        measured = λ _. many ∙ h.dimension;
        fresh = λ e. next-other Empty Widths refl e;
        last = λ e. next-other Empty Row refl e;
      }

  pub stands-begun : (p.next ≡ Widths → ⊥) → Stands top (read_of Names r.names r.question.widths r.question.tables) (waiting Names p) v w
  stands-begun n = record {
    next = refl;
    names = h.names;
    some = h.some;
    dimension = h.dimension;
    tables = h.tables;
    words = h.words;
    front = h.front;
    measured = λ _. h.measured n;
    fresh = λ e. next-other Names Widths refl e;
    last = λ e. next-other Names Row refl e;
  }

  pub stands-names : (ps : List ℕ) (k : ℕ) → (p.next ≡ Widths → ⊥) → length ps ≡ k → k ≤ max_attributes → p.words + k + 2 ≤ length w
      → Stands top (read_of Row r.names r.question.widths (r.question.tables ++ (table_with ps [] ∷ [])))
      (after_names p k) v
      (set (paste (set (set w (p.dimension + 1) (p.tables + 1)) p.words k) (p.words + 1) (values ps) k) (p.words + 1 + k) 0)
  stands-names ps k is many few room =
      let ws = r.question.widths in
      let ts = r.question.tables in
      let f = flat (map table_words ts) in
      let t : Table = table_with ps [] in
      let n = p.dimension in
      let head : List ℕ = length ws ∷ ws in
      let before : List ℕ = head ++ (length ts ∷ f) in
      let one : List ℕ = head ++ (suc (length ts) ∷ f) in
      let base : words_read r ≡ before = words_read-some r (some-width is) ∙ words_of-is r.question in
      let here : length one ≡ p.words = omega (arith, h.words, ap length base, length-append head (length ts ∷ f), length-append head (suc (length ts) ∷ f)) in
      let long : length w ≡ length v = stands-room (omega arith) in
      let counted : set w (n + 1) (p.tables + 1) ≡ over one v =
      over-patch head f v (n + 1) (length ts) (p.tables + 1) (h.front ∙ ap (λ (zs : List ℕ). over zs v) base) (omega (arith, h.measured is, h.dimension))
      ∙ ap (λ (j : ℕ). over (head ++ (j ∷ f)) v) (omega (arith, h.tables)) in
      let first = over-end one v p.words k counted here (omega arith) in
      let next = values-behind (one ++ (k ∷ [])) v ps k many few (p.words + 1) first (omega (arith, length-end one k)) in
      let upto : (one ++ (k ∷ [])) ++ ps ≡ up_to ws ts ps = append_snoc one k ps ∙ ap (λ (j : ℕ). one ++ (j ∷ ps)) (sym many) in
      let counter : length (up_to ws ts ps) ≡ p.words + 1 + k = omega (arith, length-append one (length ps ∷ ps)) in
      let end = over-end (up_to ws ts ps) v (p.words + 1 + k) 0 (next ∙ ap (λ (zs : List ℕ). over zs v) upto) counter (omega arith) in
      let r' : Read = read_of Row r.names ws (ts ++ (t ∷ [])) in
      let all : words_read r' ≡ up_to ws ts ps ++ (0 ∷ []) =
      words_read-some r' (some-width is) ∙ words_last ws ts t refl ∙ ap (λ (zs : List ℕ). up_to ws ts ps ++ (0 ∷ zs)) flat-none in
      record {
        next = refl;
        names = h.names;
        some = h.some;
        dimension = h.dimension;
        tables = omega (arith, h.tables, length-end ts t);
        words = omega (arith, ap length all, length-end (up_to ws ts ps) 0);
        front = end ∙ ap (λ (zs : List ℕ). over zs v) (sym all);
        measured = λ _. h.measured is;
        fresh = λ e. next-other Row Widths refl e;
        last = λ _. record { before = ts; attributes = ps; rows = []; is = refl; arity = sym many; counted = refl; counter = sym counter ∙ length-up_to ws ts ps };
      }

  -- the last table's rows may come next
  module _ (is : p.next ≡ Row) where
    abbrev last : Last r.question p
    last = h.last is

    abbrev start : List ℕ
    start = up_to r.question.widths last.before last.attributes

    row-began : p.next ≡ Widths → ⊥
    row-began e = next-other Row Widths refl (sym is ∙ e)

    -- the words read, up to the last table's rows, and with another number of these
    row-base : words_read r ≡ start ++ (length last.rows ∷ flat last.rows)
    row-base =
        words_read-some r (some-width row-began)
        ∙ ap (λ (us : List Table). words_of (question_with r.question.widths us)) last.is
        ∙ words_last r.question.widths last.before (table_with last.attributes last.rows) refl

    row-counted : (k : ℕ) → set w p.counter k ≡ over (start ++ (k ∷ flat last.rows)) v
    row-counted k =
        over-patch start (flat last.rows) v p.counter (length last.rows) k (h.front ∙ ap (λ (zs : List ℕ). over zs v) row-base)
        (length-up_to r.question.widths last.before last.attributes ∙ sym last.counter)

    pub stands-row : (x : List ℕ) → length x ≡ p.arity → p.arity ≤ max_attributes
        → Stands top (read_of Row r.names r.question.widths (with_row r.question.tables x))
        (after_row p) v
        (paste (set w p.counter (p.rows + 1)) p.words (values x) p.arity)
    stands-row x many few =
        let ws = r.question.widths in
        let ts = last.before in
        let xs = last.attributes in
        let rs = last.rows in
        let f = flat rs in
        let more : List ℕ = start ++ (suc (length rs) ∷ f) in
        let here : length more ≡ p.words =
        omega (arith, h.words, ap length row-base, length-append start (length rs ∷ f), length-append start (suc (length rs) ∷ f)) in
        let counted : set w p.counter (p.rows + 1) ≡ over more v =
        row-counted (p.rows + 1) ∙ ap (λ (j : ℕ). over (start ++ (j ∷ f)) v) (omega (arith, last.counted)) in
        let end = values-behind more v x p.arity many few p.words counted here in
        let r' : Read = read_of Row r.names ws (with_row r.question.tables x) in
        let t' : Table = table_with xs (rs ++ (x ∷ [])) in
        let tables : with_row r.question.tables x ≡ ts ++ (t' ∷ []) = ap (λ (us : List Table). with_row us x) last.is ∙ on_last-end (row_added x) ts (table_with xs rs) in
        let all : words_read r' ≡ more ++ x =
        words_read-some r' (some-width row-began) ∙ ap (λ (us : List Table). words_of (question_with ws (with_row us x))) last.is ∙ words_row ws ts xs rs x in
        record {
          next = refl;
          names = h.names;
          some = h.some;
          dimension = h.dimension;
          tables = omega (arith, h.tables, ap length last.is, length-end ts (table_with xs rs), ap length tables, length-end ts t');
          words = omega (arith, ap length all, length-append more x);
          front = end ∙ ap (λ (zs : List ℕ). over zs v) (sym all);
          measured = λ _. h.measured row-began;
          fresh = λ e. next-other Row Widths refl e;
          last = λ _. record { before = ts; attributes = xs; rows = rs ++ (x ∷ []); is = tables; arity = last.arity; counted = omega (arith, last.counted, length-end rs x); counter = last.counter };
        }

    pub stands-open : p.rows ≡ 0 → Stands top (read_of Empty r.names r.question.widths (left_open r.question.tables)) (waiting Empty p) v (set w p.counter open_mark)
    stands-open none =
        let ws = r.question.widths in
        let ts = last.before in
        let xs = last.attributes in
        let rs = last.rows in
        let empty : flat rs ≡ [] = flat-rowless rs (sym last.counted ∙ none) in
        let r' : Read = read_of Empty r.names ws (left_open r.question.tables) in
        let tables : left_open r.question.tables ≡ ts ++ (open_table xs ∷ []) = ap left_open last.is ∙ on_last-end (λ c. unfilled) ts (table_with xs rs) in
        let all : words_read r' ≡ start ++ (open_mark ∷ []) =
        words_read-some r' (some-width row-began) ∙ ap (λ (us : List Table). words_of (question_with ws (left_open us))) last.is ∙ words_open ws ts xs rs in
        record {
          next = refl;
          names = h.names;
          some = h.some;
          dimension = h.dimension;
          tables = omega (arith, h.tables, ap length last.is, length-end ts (table_with xs rs), ap length tables, length-end ts (open_table xs));
          words = omega (arith, h.words, ap length row-base, ap length empty, length-append start (length rs ∷ flat rs), ap length all, length-end start open_mark);
          front = row-counted open_mark ∙ ap (λ (zs : List ℕ). over (start ++ (open_mark ∷ zs)) v) empty ∙ ap (λ (zs : List ℕ). over zs v) (sym all);
          measured = λ _. h.measured row-began;
          fresh = λ e. next-other Empty Widths refl e;
          last = λ e. next-other Empty Row refl e;
        }

pub stands-start : (top v : List ℕ) (n : ℕ) → n ≡ length (fields_of top) → 1 ≤ n → Stands top (top_read top) (start_of n) v v
stands-start top v n is some = record {
  next = refl;
  names = refl;
  some = omega arith;
  dimension = is;
  tables = refl;
  words = refl;
  front = refl;
  measured = λ n. absurd (n refl);
  fresh = λ _. refl;
  last = λ e. next-other Widths Row refl e;
}
