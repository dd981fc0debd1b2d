-- A join whose files are all tables: its question is refused, or it runs.
--   run-numbers, own-number, counts-are == the number of a join that ran; that of its run; the run's counts
--   tables, sound, run, asked == the tables of the files; their question is sound; what its run delivers; the number asked for
--   question-refused == what a join delivers whose question is refused
--   join, all_listed, few, bytes-all == a complete run: it has the join, all of it is counted, it has few tuples, and its file's bytes are counted
--   bytes_whole, ran == bytes are counted only then; what the run delivers
--   question-ran     == what a join delivers that ran
--   run_join         == one or the other
use mathlib.Core.Path.{◌≡◌, refl, sym, ap, ◌∙◌, subst}
use mathlib.Core.Bool.{Bool, true, false}
use mathlib.Core.Logic.{◌⊎◌, inl, inr}
use mathlib.Core.List.{List}
use Prim.Native.Nat.{ℕ, zero, suc, ◌≤◌}
use native.Mathlib.Omega.{arith}
use borrow.Author.Tests.{eqb-true, ne_eqb, eq-eqb, ltb-true, ltb-false}
use lib.Dec.{eqb, ltb}
use lib.ListN.{length}
use Rattle.boxes.proofs.Tests.{by}
use Rattle.questions.specs.Questions.{Table, Question, Refusal, bad, when, first_of, read_question}
use Rattle.questions.specs.Good.{Sound, Good}
use Rattle.questions.specs.Words.{words_of}
use Rattle.questions.proofs.Laws.{when-zero, first-yes, first_on, first-is, length-rows_of}
use Rattle.course.proofs.Laws.{few-tuples}
use Rattle.tables.specs.Joins.{join_of}
use Rattle.tables.proofs.Laws.{joined, join-any}
use Rattle.search.specs.Limits.{max_boxes}
use Rattle.search.specs.Says.{store_room, list_room}
use Rattle.search.specs.Claims.{Accepts, Delivered}
use Rattle.search.specs.declared.run.Counts.{Counts}
use Rattle.search.proofs.Laws.{delivered, store_room-few}
use Rattle.fields.specs.Fields.{fields_of}
use Rattle.fields.proofs.Laws.{top_check-names}
use Rattle.files.specs.Gathers.{gather_check}
use Rattle.files.specs.Widths.{question_for}
use Rattle.files.specs.Says.{join_file, RanSays}
use Rattle.files.specs.Claims.{FilesTables, tables_from, join_asked, Joins, ran_counts, Ran, JoinDelivered}
use Rattle.files.specs.declared.join.CsvJoin.{CsvJoin}
use Rattle.files.proofs.TableWidths.{widths-length}
use Rattle.files.proofs.FilesGathered.{FilesFrom, files-count, files-tables, check-passed}
use Rattle.files.proofs.JoinOrder.{Early, early-run, early-some, question_check, run_asked, files-asked, files-tables-are, asked-question}
use Rattle.files.proofs.FileQuestions.{files-good, question-sound, Asked, refuses, accepts, question-asked}
use Rattle.files.proofs.ShortFiles.{file-some, counted-file}

-- ---- numbers

-- a run's own number, and out's 13
run-numbers : (c : ℕ) (b : Bool) → (c ≡ 0) ⊎ ((c ≡ 13) ⊎ (c ≡ 14)) → let n = first_of c (when b 13) in (n ≡ 0) ⊎ ((n ≡ 13) ⊎ (n ≡ 14))
run-numbers c true (inl z) = rw z (inr (inl refl))
run-numbers c false (inl z) = rw z (inl refl)
run-numbers c b (inr (inl z)) = rw z (inr (inl refl))
run-numbers c b (inr (inr z)) = rw z (inr (inr refl))

-- which of them it is
own-number : (c k : ℕ) (b : Bool) → k ≡ first_of c (when b 13) → (c ≡ k) ⊎ ((c ≡ 0) × (k ≡ 13))
own-number zero k true e = inr (refl, e)
own-number zero k false e = inl (sym e)
own-number (suc c) k b e = inl (sym e)

-- the counts of a run, each by itself
counts-are : (c : Counts) (j : CsvJoin) → j.tuples ≡ c.tuples → j.boxes ≡ c.boxes → j.resolutions ≡ c.resolutions → ran_counts j c.number ≡ c
counts-are c j t b r =
    let with-counts : ℕ → ℕ → ℕ → Counts = λ a d e. record { number = c.number; tuples = a; boxes = d; resolutions = e } in
    ap (λ (a : ℕ). with-counts a j.boxes j.resolutions) t ∙ ap (λ (d : ℕ). with-counts c.tuples d j.resolutions) b ∙ ap (with-counts c.tuples c.boxes) r

when-no : (b : Bool) (n : ℕ) → when b (suc n) ≡ suc n → b ≡ true
when-no true n e = refl
when-no false n e = absurd (omega arith)

module _ (l s es v : List ℕ) {v' : List ℕ} (w : List ℕ) {w' : List ℕ} (x : List ℕ) {x' : List ℕ} (o : List ℕ) {o' : List ℕ} {j : CsvJoin} {ts : List Table}
    (passed : gather_check l es ≡ 0) (files : FilesFrom l s 0 es ts) (says : RanSays (fields_of l) (question_for (length (fields_of l)) ts) v v' w w' x x' o o' j) where
  abbrev n : ℕ
  n = length (fields_of l)

  abbrev q : Question
  q = question_for n ts

  abbrev c : Counts
  c = says.result

  abbrev file : List ℕ
  file = join_file (fields_of l) q

  abbrev lacks : Bool
  lacks = ltb (length o) (length file)

  tables : FilesTables l s es ts
  tables = let p = check-passed l es passed in files-tables p.0 p.2 p.3 files

  sound : Sound q
  sound =
      let p = check-passed l es passed in
      let top = top_check-names l p.0 in
      question-sound top.some top.few (omega (arith, files-count files, p.2)) (omega (arith, files-count files, p.3)) (files-good l s files)

  run : Delivered (words_of q) v v' w w' c
  run = delivered (words_of q) v w says.run

  asked : join_asked l s es v w o ≡ first_of (question_check n ts) (run_asked (fields_of l) q v w o)
  asked = asked-question l s es v w o passed files

  kept_out : (j.number ≡ 0 → ⊥) → o' ≡ o
  kept_out h = says.out ∙ rw (ne_eqb j.number 0 h)

  -- ---- the question is refused

  module _ (refusal : Refusal (question_check n ts)) (read : read_question (words_of q) ≡ bad (question_check n ts)) where
    early : Early (question_check n ts)
    early = inl refusal

    own-refused : c.number ≡ question_check n ts
    own-refused = ap (λ (d : Counts). d.number) (run.refused (question_check n ts) read).0

    number-refused : j.number ≡ question_check n ts
    number-refused = says.number ∙ first-is (when lacks 13) own-refused (early-some early)

    scratch-kept : x' ≡ x
    scratch-kept = rw read at says.scratch

    bytes-none : j.bytes ≡ 0
    bytes-none = says.bytes ∙ rw (ne_eqb c.number 0 (λ z. early-some early (sym own-refused ∙ z)))

    early-number : Early j.number
    early-number = subst Early (sym number-refused) early

    question-refused : JoinDelivered l s es v v' w w' x x' o o' j
    question-refused =
        let left = run.refused (question_check n ts) read in
        record {
          number = number-refused ∙ sym (asked ∙ first-is _ refl (early-some early));
          kept = kept_out;
          refused = λ a b d. (
            left.1,
            left.2,
            scratch-kept,
            says.tuples ∙ ap (λ (d : Counts). d.tuples) left.0,
            says.boxes ∙ ap (λ (d : Counts). d.boxes) left.0,
            says.resolutions ∙ ap (λ (d : Counts). d.resolutions) left.0,
            bytes-none,
          );
          refused-file = λ h. absurd (h says.file);
          named-file = λ a b h z. h (files-asked l s files);
          no-file = λ z. says.place;
          ran = λ h. absurd (early-run early-number h);
          complete = λ z. absurd (early-some early-number z);
          short = λ z b. absurd (b bytes-none);
        }

  -- ---- it runs

  module _ (zero-check : question_check n ts ≡ 0) (read : Accepts (words_of q) q) (good : Good q) where
    ran-number : (j.number ≡ 0) ⊎ ((j.number ≡ 13) ⊎ (j.number ≡ 14))
    ran-number = rw says.number (run-numbers c.number lacks (own (run.number read)))
      where
        own : {A B : Type 0} → (c.number ≡ 0) ⊎ (((c.number ≡ 13) × A) ⊎ ((c.number ≡ 14) × B)) → (c.number ≡ 0) ⊎ ((c.number ≡ 13) ⊎ (c.number ≡ 14))
        own (inl z) = inl z
        own (inr (inl z)) = inr (inl z.0)
        own (inr (inr z)) = inr (inr z.0)

    number-ran : j.number ≡ join_asked l s es v w o
    number-ran = says.number ∙ ap (λ (k : ℕ). first_of k (when lacks 13)) (run.steps-number read) ∙ sym (asked ∙ first_on (run_asked (fields_of l) q v w o) zero-check)

    -- the tuples of a complete run
    module _ (whole : c.number ≡ 0) where
      join : Joins n ts (join_of q)
      join = record {
        sorted = (joined q).sorted;
        exactly = λ p. rw (widths-length n ts) at (join-any good p);
      }

      all_listed : length (join_of q) ≡ j.tuples
      all_listed = ap length (sym (run.complete read whole)) ∙ length-rows_of v' 0 (length q.widths) c.tuples ∙ sym says.tuples

      few : length (join_of q) ≤ suc max_boxes
      few = omega (arith, few-tuples q (list_room q v) (store_room w) (sym (run.steps-number read) ∙ whole), store_room-few w, ap length (run.complete read whole), ap length (run.steps-listed read))

      bytes-all : j.bytes ≡ length file
      bytes-all = says.bytes ∙ rw (eq-eqb c.number 0 whole) (counted-file (top_check-names l (check-passed l es passed).0) good few)

    -- a run that is not complete counts no bytes
    bytes_whole : (j.bytes ≡ 0 → ⊥) → c.number ≡ 0
    bytes_whole b = by (eqb c.number 0) (λ t. eqb-true c.number 0 t) (λ f. absurd (b (says.bytes ∙ rw f)))

    ran : Ran q v v' w w' j
    ran = record {
      accepted = read;
      own = c.number;
      number = own-number c.number j.number lacks says.number;
      counted = (λ whole b. omega (arith, b, bytes-all whole, file-some (fields_of l) (join_of q)), bytes_whole);
      delivered = subst (Delivered (words_of q) v v' w w') (sym (counts-are c j says.tuples says.boxes says.resolutions)) run;
    }

    question-ran : JoinDelivered l s es v v' w w' x x' o o' j
    question-ran = record {
      number = number-ran;
      kept = kept_out;
      refused = λ a b d. absurd (none a b d ran-number);
      refused-file = λ h. absurd (h says.file);
      named-file = λ a b h z. h (files-asked l s files);
      no-file = λ z. says.place;
      ran = λ h. subst (λ (us : List Table). FilesTables l s es us × Ran (question_for n us) v v' w w' j) (sym all) (tables, ran);
      complete = λ z.
          let both = first-yes c.number (when lacks 13) (sym says.number ∙ z) in
          (join_of q, subst (λ (us : List Table). Joins n us (join_of q)) (sym all) (join both.0), all_listed both.0, says.out ∙ rw (eq-eqb j.number 0 z), bytes-all both.0, ltb-false (length o) (length file) (when-zero lacks 12 both.1));
      short = λ z b.
          let whole : c.number ≡ 0 = bytes_whole b in
          let over : when lacks 13 ≡ 13 = sym (first_on (when lacks 13) whole) ∙ sym says.number ∙ z in
          (join_of q, subst (λ (us : List Table). Joins n us (join_of q)) (sym all) (join whole), all_listed whole, bytes-all whole, ltb-true (length o) (length file) (when-no lacks 12 over));
    }
      where
        all : tables_from l s 0 es ≡ ts
        all = files-tables-are l s files

        none : {k : ℕ} → (k ≡ 0 → ⊥) → (k ≡ 13 → ⊥) → (k ≡ 14 → ⊥) → (k ≡ 0) ⊎ ((k ≡ 13) ⊎ (k ≡ 14)) → ⊥
        none a b d (inl z) = a z
        none a b d (inr (inl z)) = b z
        none a b d (inr (inr z)) = d z

  pub run_join : JoinDelivered l s es v v' w w' x x' o o' j
  run_join = by-question (question-asked n ts sound)
    where
      by-question : Asked q (question_check n ts) → JoinDelivered l s es v v' w w' x x' o o' j
      by-question (refuses refusal read) = question-refused refusal read
      by-question (accepts z read good) = question-ran z read good
