-- What an accepted question is, and a refused one's number.
--   accepted-good  == an accepted question is good
--   accepted-ended == no word of it is left
--   refused-number == a refusal's number is one of the refusals
--   Accepted q t   == q is good, and t is empty
--   contents_in-yields, table_in-yields, tables_in-yields, read_question-yields == what the readers give
use mathlib.Core.Path.{◌≡◌, refl, ◌∙◌}
use mathlib.Core.Bool.{true, not}
use mathlib.Core.List.{List, [], ◌∷◌, ◌++◌}
use Prim.Native.Nat.{ℕ, zero, suc, ◌+◌, ◌≤◌}
use native.Mathlib.Omega.{arith}
use lib.Dec.{eqb, ltb}
use lib.ListN.{length, get_or}
use borrow.Author.Tests.{eqb-true, eqb-false}
use Rattle.boxes.specs.Limits.{max_attributes}
use Rattle.boxes.specs.Fits.{Each, none}
use Rattle.boxes.proofs.Lists.{length-end, each-end}
use Rattle.questions.specs.Limits.{max_tables, open_mark, range_mark, max_words}
use Rattle.questions.specs.Orders.{is_in}
use Rattle.questions.specs.Good.{none, GoodContents, GoodTable, Good}
use Rattle.questions.specs.Questions.{with_rows, unfilled, with_pairs, Refusal, out_of_range, Table, Question, bad, got, arity_of, contents_in, table_in, tables_in, each_in, closed, tables_check, rest_in, read_words, read_question}
use Rattle.questions.specs.Reads.{Few}
use Rattle.questions.proofs.Arities.{arity-mark, arity-asked, arity-some}
use Rattle.questions.proofs.Checks.{in-range}
use Rattle.questions.proofs.Contents.{rows-asked}
use Rattle.questions.proofs.Pairs.{pairs_in-yields}
use Rattle.questions.proofs.Yields.{Yields, refuses, gives, yields-got, yields-bad, yields-pick, yields-then, yields-map, Check, check-when, check-map, word_in-yields}
use Rattle.questions.proofs.Readers.{widths_in-yields, attributes_in-yields, rows_in-yields}

-- ---- tables

contents_in-yields : (k m : ℕ) (ws xs s : List ℕ) → 1 ≤ length xs → length xs ≡ arity_of k → Few m → Yields (λ c t. GoodContents ws xs c) (contents_in k m ws xs s)
unfolding contents_in
contents_in-yields k m ws xs s some long few =
    yields-pick (eqb m open_mark)
    (λ e. gives unfilled s tt)
    (λ e.
    yields-pick (eqb k range_mark)
    (λ t.
    yields-then (pairs_in-yields m (get_or ws (get_or xs 0 0) 0) 0 [] s) (λ ps u pairs.
    gives (with_pairs ps) u (
      long ∙ arity-mark k (eqb-true k range_mark t),
      record {
        few = omega (arith, pairs.long, few (eqb-false m open_mark e));
        within = pairs.within none;
        apart = pairs.apart none none;
      },
    )))
    (λ f.
    yields-then (rows_in-yields m ws xs [] [] s) (λ rs t rows.
    gives (with_rows rs) t (record {
      few = omega (arith, rows.long, few (eqb-false m open_mark e));
      within = rows.within none;
      sorted = rows.sorted some none none;
    }))))

pub table_in-yields : (n : ℕ) (ws s : List ℕ) → Yields (λ q t. n ≡ length ws → GoodTable ws q) (table_in n ws s)
unfolding table_in
table_in-yields n ws s =
    yields-then (word_in-yields s (λ k. arity-asked k n)) (λ k t arity.
    yields-then (attributes_in-yields (arity_of k) n [] t) (λ xs u at.
    yields-then (word_in-yields u rows-asked) (λ m v count.
    let some : 1 ≤ length xs = omega (arith, at.0, arity-some k n arity.1) in
    yields-then (contents_in-yields k m ws xs v some (omega (arith, at.0)) count.1) (λ c rest contents.
    gives (record { attributes = xs; contents = c }) rest (λ e. record {
      some = some;
      below = rw e at (at.1 none);
      ascending = (at.2 (record { ascending = none; below = none })).ascending;
      contents = contents;
    })))))

pub tables_in-yields : (l n : ℕ) (ws : List ℕ) (ts : List Table) (s : List ℕ) → Yields (λ qs t. (length qs ≡ length ts + l) × (n ≡ length ws → Each (GoodTable ws) ts → Each (GoodTable ws) qs)) (tables_in l n ws ts s)
unfolding tables_in
tables_in-yields zero n ws ts s = gives ts s (omega arith, λ e r. r)
tables_in-yields (suc l) n ws ts s =
    yields-then (table_in-yields n ws s) (λ q t h.
    yields-map (λ qs u k. (omega (arith, k.0, length-end ts q), λ e r. k.1 e (each-end r (h e))))
    (tables_in-yields l n ws (ts ++ (q ∷ [])) t))

-- ---- the question

tables_check-check : (k : ℕ) → Check ((1 ≤ k) × (k ≤ max_tables)) (tables_check k)
unfolding is_in
tables_check-check k = check-map (in-range max_tables k) (check-when (out_of_range max_tables k) 5 refl)

-- a good question, and no word left
abbrev pub Accepted : Question → List ℕ → Type 0
Accepted q t = Good q × (t ≡ [])

closed-yields : (n : ℕ) (ws : List ℕ) (ts : List Table) (s : List ℕ) → (each_in n ts ≡ true → Good (record { widths = ws; tables = ts })) → Yields Accepted (closed n ws ts s)
unfolding closed is_in
closed-yields n ws ts s good =
    yields-pick (not (eqb (length s) 0))
    (λ e. refuses 11 refl)
    (λ e. yields-pick (each_in n ts) (λ c. gives _ [] (good c, refl)) (λ c. refuses 12 refl))

read_words-yields : (s : List ℕ) → Yields Accepted (read_words s)
unfolding read_words rest_in is_in
read_words-yields [] = refuses 1 refl
read_words-yields (n ∷ s) =
    yields-pick (out_of_range max_attributes n) (λ e. refuses 2 refl) (λ e.
    let range = in-range max_attributes n e in
    yields-then (widths_in-yields n [] s) (λ ws t ww.
    yields-then (word_in-yields t tables_check-check) (λ k u count.
    yields-then (tables_in-yields k n ws [] u) (λ ts v tt.
    let all : n ≡ length ws = omega (arith, ww.0) in
    closed-yields n ws ts v (λ c. record {
      sound = record {
        some = omega (arith, range.0);
        few = omega (arith, range.1);
        widths = ww.1 none;
        one_table = omega (arith, tt.0, count.1.0);
        few-tables = omega (arith, tt.0, count.1.1);
        each = tt.1 all none;
      };
      covered = rw all at c;
    })))))

pub read_question-yields : (s : List ℕ) → Yields Accepted (read_question s)
unfolding read_question is_in
read_question-yields s = yields-pick (ltb max_words (length s)) (λ e. refuses 1 refl) (λ e. read_words-yields s)

pub accepted-good : (s : List ℕ) (q : Question) (t : List ℕ) → read_question s ≡ got q t → Good q
accepted-good s q t e = (yields-got (read_question-yields s) e).0

pub accepted-ended : (s : List ℕ) (q : Question) (t : List ℕ) → read_question s ≡ got q t → t ≡ []
accepted-ended s q t e = (yields-got (read_question-yields s) e).1

pub refused-number : (s : List ℕ) (n : ℕ) → read_question s ≡ bad n → Refusal n
refused-number s n e = yields-bad (read_question-yields s) e
