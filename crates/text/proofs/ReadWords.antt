-- The words of what was read.
--   on_last-end, last_table-end == the last table: with something else in it, and which it is
--   question_with ws ts == the question with these widths and tables
--   up_to ws ts xs   == the words before what a last table over the attributes xs has
--   length-up_to     == how many
--   flat-rowless    == no rows have no words
--   words-none      == no table yet
--   words_last      == the words of a question, by what its last table has
--   words_row, words_open == with one row more; with an open table in place of one without rows
--   words_read-none, words_read-some == no word before the widths are read, all of them afterwards
use mathlib.Core.Path.{◌≡◌, refl, sym, ap, ap₂, ◌∙◌}
use mathlib.Core.Bool.{false}
use mathlib.Core.List.{List, [], ◌∷◌, ◌++◌, map, append_assoc, map-append}
use Prim.Native.Nat.{ℕ, suc, ◌≤◌}
use native.Mathlib.Omega.{arith}
use borrow.Author.Tests.{eq-eqb, ne_eqb}
use lib.ListN.{length, length-append}
use Rattle.boxes.proofs.Lists.{length-end}
use Rattle.questions.specs.Limits.{open_mark}
use Rattle.questions.specs.Questions.{Contents, unfilled, Table, Question, table_with, open_table, has_pairs}
use Rattle.questions.specs.Words.{flat, contents_words, table_words, words_of}
use Rattle.questions.proofs.Laws.{flat-none, flat-end, table_words-plain, words_of-is}
use Rattle.text.specs.Texts.{Read, last_table, on_last, row_added, with_row, left_open, words_read}
use Rattle.text.specs.Progressing.{rows_at}

pub on_last-end : (f : Contents → Contents) (ts : List Table) (t : Table) → on_last f (ts ++ (t ∷ [])) ≡ ts ++ (record { attributes = t.attributes; contents = f t.contents } ∷ [])
unfolding on_last
on_last-end f [] t = refl
on_last-end f (u ∷ []) t = refl
on_last-end f (u ∷ (s ∷ ts)) t = ap (λ (us : List Table). u ∷ us) (on_last-end f (s ∷ ts) t)

pub last_table-end : (ts : List Table) (t : Table) → last_table (ts ++ (t ∷ [])) ≡ t
unfolding last_table
last_table-end [] t = refl
last_table-end (u ∷ []) t = refl
last_table-end (u ∷ (s ∷ ts)) t = last_table-end (s ∷ ts) t

abbrev pub question_with : List ℕ → List Table → Question
question_with ws ts = record { widths = ws; tables = ts }

abbrev pub up_to : List ℕ → List Table → List ℕ → List ℕ
up_to ws ts xs = (length ws ∷ ws) ++ (suc (length ts) ∷ flat (map table_words ts)) ++ (length xs ∷ xs)

pub length-up_to : (ws : List ℕ) (ts : List Table) (xs : List ℕ) → length (up_to ws ts xs) ≡ rows_at ws ts xs
length-up_to ws ts xs =
    let f = flat (map table_words ts) in
    omega (
      arith,
      length-append ((length ws ∷ ws) ++ (suc (length ts) ∷ f)) (length xs ∷ xs),
      length-append (length ws ∷ ws) (suc (length ts) ∷ f),
    )

pub flat-rowless : (rs : List (List ℕ)) → length rs ≡ 0 → flat rs ≡ []
flat-rowless [] e = flat-none
flat-rowless (r ∷ rs) e = absurd (omega arith)

pub words-none : (ws : List ℕ) → words_of (question_with ws []) ≡ (length ws ∷ ws) ++ (0 ∷ [])
words-none ws = words_of-is (question_with ws []) ∙ ap (λ (l : List ℕ). (length ws ∷ ws) ++ (0 ∷ l)) flat-none

-- the last table is no range table
pub words_last : (ws : List ℕ) (ts : List Table) (t : Table) → has_pairs t.contents ≡ false
    → words_of (question_with ws (ts ++ (t ∷ []))) ≡ up_to ws ts t.attributes ++ contents_words t.contents
words_last ws ts t plain =
    let f = flat (map table_words ts) in
    let head : List ℕ = length ws ∷ ws in
    let more : List ℕ = length t.attributes ∷ t.attributes in
    let has : List ℕ = contents_words t.contents in
    words_of-is (question_with ws (ts ++ (t ∷ [])))
    ∙ ap₂ (λ (k : ℕ) (l : List ℕ). head ++ (k ∷ l)) (length-end ts t)
    (ap flat (map-append table_words ts (t ∷ [])) ∙ flat-end (map table_words ts) (table_words t) ∙ ap (λ (l : List ℕ). f ++ l) (table_words-plain t.attributes t.contents plain) ∙ sym (append_assoc f more has))
    ∙ sym (append_assoc head ((suc (length ts) ∷ f) ++ more) has)
    ∙ ap (λ (l : List ℕ). l ++ has) (sym (append_assoc head (suc (length ts) ∷ f) more))

module _ (ws : List ℕ) (ts : List Table) (xs : List ℕ) (rs : List (List ℕ)) where
  pub words_row : (x : List ℕ) → words_of (question_with ws (with_row (ts ++ (table_with xs rs ∷ [])) x)) ≡ (up_to ws ts xs ++ (suc (length rs) ∷ flat rs)) ++ x
  words_row x =
      ap (λ (us : List Table). words_of (question_with ws us)) (on_last-end (row_added x) ts (table_with xs rs))
      ∙ words_last ws ts (table_with xs (rs ++ (x ∷ []))) refl
      ∙ ap₂ (λ (k : ℕ) (l : List ℕ). up_to ws ts xs ++ (k ∷ l)) (length-end rs x) (flat-end rs x)
      ∙ sym (append_assoc (up_to ws ts xs) (suc (length rs) ∷ flat rs) x)

  pub words_open : words_of (question_with ws (left_open (ts ++ (table_with xs rs ∷ [])))) ≡ up_to ws ts xs ++ (open_mark ∷ [])
  words_open = ap (λ (us : List Table). words_of (question_with ws us)) (on_last-end (λ c. unfilled) ts (table_with xs rs)) ∙ words_last ws ts (open_table xs) refl

module _ (r : Read) where
  pub words_read-none : length r.question.widths ≡ 0 → words_read r ≡ []
  words_read-none e = rw (eq-eqb (length r.question.widths) 0 e)

  pub words_read-some : 1 ≤ length r.question.widths → words_read r ≡ words_of r.question
  words_read-some h =
      let n : length r.question.widths ≡ 0 → ⊥ = λ e. omega arith in
      rw (ne_eqb (length r.question.widths) 0 n)
