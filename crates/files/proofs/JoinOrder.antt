-- In which order a join of files is asked: what refuses its files is the first question answered no, and where all files are tables the question is asked.
--   first-assoc            == three questions
--   right_end, wrong-end, asked-table == the number for a right end and for a wrong one; the next file is asked after one that is a table
--   files-asked, files-tables-are == of files that are tables nothing is refused, and these are the tables
--   Early n, early-run, early-some == n is none of 0, 13 and 14
--   refused-asked, refused-early, check-early == what refuses a file is the first number of the files; it is none of those; nor is that of names or number of files
--   question_check n ts, run_asked names q v w o, question_asked l v w o ts == the questions after those of the files: of their question, of its run, and all of them
--   join_asked-is           == all questions
--   asked-check, asked-file, asked-question == the names or the number of files are refused; a file is; none is
use mathlib.Core.Path.{◌≡◌, refl, sym, ap, ap₂, ◌∙◌}
use mathlib.Core.Bool.{Bool, true, false, not}
use mathlib.Core.Logic.{◌⊎◌, inl, inr}
use mathlib.Core.List.{List, ◌∷◌}
use Prim.Native.Nat.{ℕ, zero, suc, ◌≤◌}
use native.Mathlib.Omega.{arith}
use borrow.Author.Tests.{ltb-false, le-ltb}
use lib.Dec.{ltb}
use lib.ListN.{length}
use Rattle.boxes.specs.Limits.{max_attributes}
use Rattle.boxes.proofs.Tests.{by, either}
use Rattle.questions.specs.Limits.{max_words, max_tables}
use Rattle.questions.specs.Orders.{is_in}
use Rattle.questions.specs.Questions.{Table, Question, Refusal, when, first_of, out_of_range, tables_check, each_in}
use Rattle.questions.specs.Words.{words_of}
use Rattle.questions.proofs.Laws.{refusal-not, first_on, first-no, first-is}
use Rattle.course.specs.Runs.{run_of}
use Rattle.search.specs.Says.{store_room, list_room}
use Rattle.fields.specs.Fields.{fields_of, distinct}
use Rattle.fields.specs.Names.{form, are_names, top_check}
use Rattle.csv_tables.specs.Imports.{imported, refused, import_csv}
use Rattle.csv_tables.proofs.Laws.{import-refusal}
use Rattle.fields.specs.Parts.{part}
use Rattle.files.specs.Gathers.{end_check, gather_check}
use Rattle.files.specs.Widths.{question_for}
use Rattle.files.specs.Says.{join_file}
use Rattle.files.specs.Parts.{file_number}
use Rattle.files.specs.Claims.{Right, import_table, tables_from, files_asked, join_asked}
use Rattle.files.proofs.FilesGathered.{FilesFrom, none, more, RefusedFrom, wrong, here, later}

-- ---- questions in order

first-assoc : (a b c : ℕ) → first_of a (first_of b c) ≡ first_of (first_of a b) c
first-assoc zero b c = refl
first-assoc (suc a) b c = refl

-- ---- file by file

module _ (s : List ℕ) where
  right_end : {a e : ℕ} → Right s a e → end_check s a e ≡ 0
  right_end {a} {e} h = rw (le-ltb (length s) e h.1, le-ltb e a h.0)

  wrong-end : (a e : ℕ) → (Right s a e → ⊥) → end_check s a e ≡ 3
  wrong-end a e h =
      by (ltb (length s) e)
      (λ t. rw t)
      (λ f. by (ltb e a) (λ t. rw (f, t)) (λ g. absurd (h (omega (arith, ltb-false e a g), omega (arith, ltb-false (length s) e f)))))

module _ (l s : List ℕ) where
  -- at a file that is a table
  asked-table : {a e : ℕ} (es : List ℕ) {t : Table} → Right s a e → import_csv l (part a e s) ≡ imported t → files_asked l s a (e ∷ es) ≡ files_asked l s e es
  unfolding files_asked
  asked-table {a} {e} es right is = first_on _ (right_end s right) ∙ first_on (files_asked l s e es) (ap file_number is)

  pub files-asked : {a : ℕ} {es : List ℕ} {ts : List Table} → FilesFrom l s a es ts → files_asked l s a es ≡ 0
  unfolding files_asked
  files-asked none = refl
  files-asked (more {es = es} right is files) = asked-table es right is ∙ files-asked files

  pub files-tables-are : {a : ℕ} {es : List ℕ} {ts : List Table} → FilesFrom l s a es ts → tables_from l s a es ≡ ts
  unfolding tables_from
  files-tables-are none = refl
  files-tables-are (more right is files) = ap₂ ◌∷◌ (ap import_table is) (files-tables-are files)

-- none of 0, 13 and 14
abbrev pub Early : ℕ → Type 0
Early n = Refusal n ⊎ (15 ≤ n)

pub early-run : {n : ℕ} → Early n → (n ≡ 0) ⊎ ((n ≡ 13) ⊎ (n ≡ 14)) → ⊥
unfolding is_in
early-run {n} (inl h) (inl z) = refusal-not n 0 h refl z
early-run {n} (inl h) (inr (inl z)) = refusal-not n 13 h refl z
early-run {n} (inl h) (inr (inr z)) = refusal-not n 14 h refl z
early-run (inr h) (inl z) = omega (arith, h, z)
early-run (inr h) (inr (inl z)) = omega (arith, h, z)
early-run (inr h) (inr (inr z)) = omega (arith, h, z)

pub early-some : {n : ℕ} → Early n → n ≡ 0 → ⊥
early-some h z = early-run h (inl z)

import-early : (l f : List ℕ) {n r : ℕ} → import_csv l f ≡ refused n r → Early n
unfolding is_in
import-early l f is = either (import-refusal l f is) (λ e. inl (rw e refl)) (λ h. inr h.0)

module _ (l s : List ℕ) {n r : ℕ} where
  pub refused-early : {a i : ℕ} {es : List ℕ} → RefusedFrom l s n r a es i → Early n
  unfolding is_in
  refused-early (wrong off e d) = inl (rw e refl)
  refused-early (here right is) = import-early l _ is
  refused-early (later right is file) = refused-early file

  pub refused-asked : {a i : ℕ} {es : List ℕ} → RefusedFrom l s n r a es i → files_asked l s a es ≡ n
  unfolding files_asked
  refused-asked (wrong {a = a} {e = e} off three d) = first-is _ (wrong-end s a e off ∙ sym three) (λ z. omega (arith, three, z))
  refused-asked (here right is) = first_on _ (right_end s right) ∙ first-is _ (ap file_number is) (early-some (import-early l _ is))
  refused-asked (later {es = es} right is file) = asked-table l s es right is ∙ refused-asked file

-- ---- the names and the number of files

form-early : (a b : Bool) → (first_of (form a) (when (not b) 16) ≡ 0 → ⊥) → Early (first_of (form a) (when (not b) 16))
form-early true true h = absurd (h refl)
form-early true false h = inr (omega arith)
form-early false b h = inr (omega arith)

count-early : (b : Bool) → (when b 5 ≡ 0 → ⊥) → Early (when b 5)
unfolding is_in
count-early true h = inl refl
count-early false h = absurd (h refl)

both-early : (a b : ℕ) → ((a ≡ 0 → ⊥) → Early a) → ((b ≡ 0 → ⊥) → Early b) → (first_of a b ≡ 0 → ⊥) → Early (first_of a b)
both-early zero b p q h = q h
both-early (suc a) b p q h = p h

pub check-early : (l es : List ℕ) → (gather_check l es ≡ 0 → ⊥) → Early (gather_check l es)
check-early l es h =
    both-early (top_check l) (tables_check (length es))
    (form-early (are_names max_attributes (fields_of l)) (distinct (fields_of l))) (count-early (out_of_range max_tables (length es))) h

-- ---- all questions

-- of the question: too many words? 1. Does each attribute stand in some table? 12
abbrev pub question_check : ℕ → List Table → ℕ
question_check n ts = first_of (when (ltb max_words (length (words_of (question_for n ts)))) 1) (when (not (each_in n ts)) 12)

-- of its run: 13 and 14; is out long enough? 13
abbrev pub run_asked : List (List ℕ) → Question → List ℕ → List ℕ → List ℕ → ℕ
run_asked names q v w o = first_of (run_of q (list_room q v) (store_room w)).number (when (ltb (length o) (length (join_file names q))) 13)

module _ (l s es v w o : List ℕ) where
  -- after those of the files
  abbrev pub question_asked : List Table → ℕ
  question_asked ts = first_of (question_check (length (fields_of l)) ts) (run_asked (fields_of l) (question_for (length (fields_of l)) ts) v w o)

  join_asked-is : join_asked l s es v w o ≡ first_of (gather_check l es) (first_of (files_asked l s 0 es) (question_asked (tables_from l s 0 es)))
  unfolding join_asked
  join_asked-is =
      let ts = tables_from l s 0 es in
      let n = length (fields_of l) in
      let q = question_for n ts in
      first-assoc (top_check l) (tables_check (length es)) _
      ∙ ap (λ (k : ℕ). first_of (gather_check l es) (first_of (files_asked l s 0 es) k))
      (first-assoc (when (ltb max_words (length (words_of q))) 1) (when (not (each_in n ts)) 12) (run_asked (fields_of l) q v w o))

  pub asked-check : (gather_check l es ≡ 0 → ⊥) → join_asked l s es v w o ≡ gather_check l es
  asked-check h = join_asked-is ∙ first-no (gather_check l es) _ h

  pub asked-file : {n r i : ℕ} → gather_check l es ≡ 0 → RefusedFrom l s n r 0 es i → join_asked l s es v w o ≡ n
  asked-file passed file =
      join_asked-is ∙ first_on _ passed ∙ first-is _ (refused-asked l s file) (early-some (refused-early l s file))

  pub asked-question : {ts : List Table} → gather_check l es ≡ 0 → FilesFrom l s 0 es ts → join_asked l s es v w o ≡ question_asked ts
  asked-question passed files = join_asked-is ∙ first_on _ passed ∙ first_on _ (files-asked l s files) ∙ ap question_asked (files-tables-are l s files)
