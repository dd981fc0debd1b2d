-- The question of gathered files: it is sound, and so it is refused only with 1, for too many words, or 12, for an attribute in no table.
--   files-good       == each table of files is good, but for its widths
--   good-over        == such a table is over the attributes
--   question-sound   == the question of such tables, with the widths that they need, is sound
--   Asked q m, question-asked == it is refused with the number m, or m is 0, and it is accepted and good: so for the number asked for
use mathlib.Core.Path.{◌≡◌, refl, sym, subst, ◌∙◌}
use mathlib.Core.Bool.{true, false}
use mathlib.Core.List.{List, []}
use Prim.Native.Nat.{ℕ, ◌≤◌}
use native.Mathlib.Omega.{arith}
use lib.Dec.{ltb}
use lib.ListN.{length}
use Rattle.boxes.specs.Limits.{max_attributes}
use Rattle.boxes.specs.Fits.{Each, none, more, Point}
use Rattle.boxes.proofs.Tests.{by}
use Rattle.boxes.proofs.Lists.{each-imp, each-mem, mem-each}
use Rattle.questions.specs.Limits.{max_tables, max_words}
use Rattle.questions.specs.Orders.{is_in}
use Rattle.questions.specs.Questions.{Table, Question, Refusal, bad, got, each_in, read_question}
use Rattle.questions.specs.Good.{widths_at, GoodContents, GoodTable, Sound, Good}
use Rattle.questions.specs.Words.{words_of}
use Rattle.questions.proofs.Laws.{sound-read, sound-good}
use Rattle.fields.specs.Fields.{fields_of}
use Rattle.csv_tables.specs.Claims.{FileGood}
use Rattle.csv_tables.proofs.Laws.{file-table, file-good}
use Rattle.files.specs.Widths.{widths_for, question_for}
use Rattle.files.specs.Parts.{TableOver}
use Rattle.files.proofs.TableWidths.{widths-length, widths-good, widths-within}
use Rattle.files.proofs.FilesGathered.{FilesFrom, none, more}
use Rattle.files.proofs.JoinOrder.{question_check}

pub files-good : (l s : List ℕ) {a : ℕ} {es : List ℕ} {ts : List Table} → FilesFrom l s a es ts → Each (FileGood (length (fields_of l))) ts
files-good l s none = none
files-good l s (more right is files) = more (file-good (file-table l _ is)) (files-good l s files)

pub good-over : {n : ℕ} {t : Table} → FileGood n t → TableOver n t
good-over g = record { below = g.below; few = g.few; rows = g.rows; contents = g.contents; even = g.even; small = g.small }

module _ {n : ℕ} {ts : List Table} (some : 1 ≤ n) (few : n ≤ max_attributes) (one_table : 1 ≤ length ts) (few-tables : length ts ≤ max_tables) (good : Each (FileGood n) ts) where
  over : Each (TableOver n) ts
  over = each-imp (λ t g. good-over g) good

  good-table : (t : Table) (g : FileGood n t) → Each (Point (widths_at (widths_for n ts) t.attributes)) g.rows → GoodTable (widths_for n ts) t
  good-table t g within = record {
    some = g.some;
    below = rw (widths-length n ts) g.below;
    ascending = g.ascending;
    contents =
        subst (GoodContents (widths_for n ts) t.attributes) (sym g.contents) (record { few = g.few-rows; within = within; sorted = g.sorted });
  }

  pub question-sound : Sound (question_for n ts)
  unfolding good-over
  question-sound = record {
    some = omega (arith, some, widths-length n ts);
    few = omega (arith, few, widths-length n ts);
    widths = widths-good n ts over;
    one_table = one_table;
    few-tables = few-tables;
    each = mem-each ts (λ t m. let g = each-mem good m in good-table t g (widths-within n ts over m (good-over g)));
  }

pub data Asked (q : Question) (m : ℕ) : Type 0 where
  refuses : Refusal m → read_question (words_of q) ≡ bad m → Asked q m
  accepts : m ≡ 0 → read_question (words_of q) ≡ got q [] → Good q → Asked q m

pub question-asked : (n : ℕ) (ts : List Table) → Sound (question_for n ts) → Asked (question_for n ts) (question_check n ts)
unfolding is_in
question-asked n ts sound =
    let all : length (widths_for n ts) ≡ n = widths-length n ts in
    by (ltb max_words (length (words_of (question_for n ts))))
    (λ t. rw t (refuses refl (sound-read sound ∙ rw t)))
    (λ f.
    by (each_in n ts)
    (λ t. let in-each : each_in (length (widths_for n ts)) ts ≡ true = rw all t in rw (f, t) (accepts refl (sound-read sound ∙ rw (f, in-each)) (sound-good sound in-each)))
    (λ g. let not-each : each_in (length (widths_for n ts)) ts ≡ false = rw all g in rw (f, g) (refuses refl (sound-read sound ∙ rw (f, not-each)))))
