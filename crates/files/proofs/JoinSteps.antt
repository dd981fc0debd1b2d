-- From the files to their question: what `join_csv` does with what was gathered.
--   names-refused, count-refused, files-gathered == a line of names that does not pass; too few or too many files; else the files are gathered
--   files-of       == gathered tables are those of the files
--   Made, gather-made == a gathering that is not refused made tables
--   refusal-says   == what is promised of a refusal
--   words_are, words_long, front-words == the words of the question, how many there are, and that they stand there once the front is written
--   over-names, count-is, size_is, shaped == the tables are over as many attributes as there are names; one for each file; the size that was counted; rows of their table's arity
--   front-ask, run-ask == what writing the front asks, and what running the question asks
--   ran_says       == what is promised of the question's run
--   too_long, long-says == the question has too many words
use mathlib.Core.Path.{◌≡◌, refl, sym, ap, ap₂, ◌∙◌, subst}
use mathlib.Core.Bool.{true, false}
use mathlib.Core.List.{List, [], ◌∷◌, ◌++◌, append_assoc}
use Prim.Native.Nat.{ℕ, ◌+◌, ◌≤◌, ◌<◌}
use native.Mathlib.Omega.{arith}
use borrow.Author.Tests.{ne_eqb}
use lib.Dec.{eqb}
use lib.ListN.{length, take, drop, length-append}
use lib.Seq.{take_at, drop_at}
use Rattle.std.specs.Prelude.{Ok}
use Rattle.boxes.specs.Intervals.{pick}
use Rattle.boxes.specs.Fits.{Each}
use Rattle.boxes.proofs.Lists.{each-imp}
use Rattle.questions.specs.Limits.{max_tables, max_words}
use Rattle.questions.specs.Questions.{Table, bad, out_of_range, tables_check, read_question}
use Rattle.questions.specs.Words.{over, words_of, Even, Shaped}
use Rattle.questions.proofs.Laws.{words_of-is, first-no, read-long}
use Rattle.search.specs.Says.{refused_with, RunSays, ScratchSays}
use Rattle.fields.specs.Fields.{fields_of}
use Rattle.fields.specs.Names.{top_check}
use Rattle.fields.proofs.Laws.{top_check-names}
use Rattle.files.specs.Gathers.{Gathered, refused_at, gathered, gather_check, gather_from, gather}
use Rattle.files.specs.Widths.{widths_for, question_for}
use Rattle.files.specs.Says.{refusal_at, RanSays, JoinWith, JoinSays}
use Rattle.files.specs.Parts.{tables_words, first_words, TableOver, FrontAsk, TablesStand, TablesPut, GatherSays}
use Rattle.files.specs.Runs.{RunAsk}
use Rattle.files.specs.declared.join.CsvJoin.{CsvJoin}
use Rattle.files.proofs.TableWidths.{widths-length}
use Rattle.files.proofs.FilesGathered.{FilesFrom, Outcome, gather-outcome, files-count}
use Rattle.files.proofs.FileQuestions.{files-good, good-over}
use Rattle.files.proofs.RunFiles.{stopped-says}

-- ---- what is asked before the files

module _ (l s es : List ℕ) where
  pub names-refused : (top_check l ≡ 0 → ⊥) → gather l s es ≡ refused_at (top_check l) 0 0
  unfolding gather
  names-refused unlike =
      let is : gather_check l es ≡ top_check l = first-no (top_check l) (tables_check (length es)) unlike in
      ap (λ (n : ℕ). pick (eqb n 0) (gather_from l s 0 [] es) (refused_at n 0 0)) is ∙ rw (ne_eqb (top_check l) 0 unlike) refl

  pub count-refused : top_check l ≡ 0 → out_of_range max_tables (length es) ≡ true → gather l s es ≡ refused_at 5 0 0
  unfolding gather
  count-refused named out = rw (named, out) refl

  pub files-gathered : top_check l ≡ 0 → out_of_range max_tables (length es) ≡ false → gather l s es ≡ gather_from l s 0 [] es
  unfolding gather
  files-gathered named inside = rw (named, inside) refl

-- ---- the tables

-- the files are all tables
files-of : {l s es : List ℕ} {ts : List Table} → gather_from l s 0 [] es ≡ gathered ts → FilesFrom l s 0 es ts
files-of {l} {s} {es} {ts} e =
    let told : Outcome l s 0 [] es (gathered ts) = subst (Outcome l s 0 [] es) e (gather-outcome l s 0 [] es) in
    subst (FilesFrom l s 0 es) (sym told.1) told.2

pub record Made (l s es : List ℕ) (n : ℕ) (w : List ℕ) (size : ℕ) : Type 0 where
  pub tables : List Table
  pub is : gather_from l s 0 [] es ≡ gathered tables
  pub put : TablesPut tables n w size

pub gather-made : (l s es : List ℕ) {n : ℕ} {w : List ℕ} (size : ℕ) → GatherSays (gather_from l s 0 [] es) n w (Ok size) → Made l s es n w size
gather-made l s es size (ts, e, put) = record { tables = ts; is = e; put = put }

-- ---- a refusal

-- what is refused is answered so
pub refusal-says : (l s es v w x o : List ℕ) {m f r : ℕ} → gather l s es ≡ refused_at m f r → {j : CsvJoin} → j ≡ refusal_at m f r → JoinSays l s es v v w w x x o o j
refusal-says l s es v w x o e {j} d = subst (λ (g : Gathered). JoinWith (fields_of l) g v v w w x x o o j) (sym e) (d, refl, refl, refl, refl)

-- ---- the question's words

module _ (n : ℕ) (ts : List Table) where
  front_long : (k : ℕ) → length (n ∷ (widths_for n ts ++ (k ∷ []))) ≡ first_words n
  front_long k = omega (arith, length-append (widths_for n ts) (k ∷ []), widths-length n ts)

  words_are : words_of (question_for n ts) ≡ (n ∷ (widths_for n ts ++ (length ts ∷ []))) ++ tables_words ts
  words_are =
      words_of-is (question_for n ts) ∙ ap (λ (m : ℕ). m ∷ (widths_for n ts ++ (length ts ∷ tables_words ts))) (widths-length n ts)
      ∙ ap (λ (q : List ℕ). n ∷ q) (sym (append_assoc (widths_for n ts) (length ts ∷ []) (tables_words ts)))

  pub words_long : length (words_of (question_for n ts)) ≡ first_words n + length (tables_words ts)
  words_long = ap length words_are ∙ length-append (n ∷ (widths_for n ts ++ (length ts ∷ []))) (tables_words ts) ∙ ap (λ (m : ℕ). m + length (tables_words ts)) (front_long (length ts))

  -- the words, once the front is written
  pub front-words : {w : List ℕ} → TablesStand n ts w → take (first_words n + length (tables_words ts)) (over (n ∷ (widths_for n ts ++ (length ts ∷ []))) w) ≡ words_of (question_for n ts)
  front-words {w} s =
      let front : List ℕ = n ∷ (widths_for n ts ++ (length ts ∷ [])) in
      let left : drop (length front) w ≡ tables_words ts ++ s.back =
      ap₂ (λ (m : ℕ) (u : List ℕ). drop m u) (front_long (length ts)) s.is ∙ drop_at s.front (tables_words ts ++ s.back) (first_words n) s.long in
      let all : over front w ≡ (front ++ tables_words ts) ++ s.back = ap (λ (u : List ℕ). front ++ u) left ∙ sym (append_assoc front (tables_words ts) s.back) in
      ap (take (first_words n + length (tables_words ts))) all
      ∙ take_at (front ++ tables_words ts) s.back (first_words n + length (tables_words ts)) (omega (arith, length-append front (tables_words ts), front_long (length ts)))
      ∙ sym words_are

module _ {l s es : List ℕ} {n : ℕ} {w : List ℕ} {size : ℕ} (named : top_check l ≡ 0) (dimension : n ≡ length (fields_of l)) (made : Made l s es n w size) where
  pub over-names : Each (TableOver n) made.tables
  over-names = rw dimension (each-imp (λ t g. good-over g) (files-good l s (files-of made.is)))

  pub count-is : length es ≡ length made.tables
  count-is = sym (files-count (files-of made.is))

  -- the question has as many words as gathering counted
  pub size-sum : size ≡ first_words n + length (tables_words made.tables)
  size-sum = made.put.size_is

  pub size_is : size ≡ length (words_of (question_for n made.tables))
  size_is = size-sum ∙ sym (words_long n made.tables)

  pub room : size ≤ max_words → first_words n + length (tables_words made.tables) ≤ max_words
  room fits = omega (arith, size-sum)

  abbrev pub front-ask : size ≤ max_words → length es ≤ max_tables → FrontAsk w n (length es)
  front-ask fits few =
      let stand = made.put.stand (room fits) in
      record {
        tables = made.tables;
        few = omega (arith, dimension, (top_check-names l named).few);
        count = count-is;
        few-tables = few;
        over = over-names;
        back = stand.back;
        stand = ap (drop (first_words n)) stand.is ∙ drop_at stand.front (tables_words made.tables ++ stand.back) (first_words n) stand.long;
        long = omega (arith, ap length stand.is, length-append stand.front (tables_words made.tables ++ stand.back), stand.long);
      }

  pub shaped : Shaped (question_for n made.tables)
  shaped = each-imp (λ t over. subst (Even (length t.attributes)) (sym over.contents) over.even) over-names

  abbrev pub run-ask : (fits : size ≤ max_words) → (few : length es ≤ max_tables) → {w' : List ℕ}
      → ((f : FrontAsk w n (length es)) → w' ≡ over (n ∷ (widths_for n f.tables ++ (length es ∷ []))) w) → RunAsk l n (take size w')
  run-ask fits few {w'} put =
      let ts = made.tables in
      let written : w' ≡ over (n ∷ (widths_for n ts ++ (length ts ∷ []))) w = put (front-ask fits few) ∙ ap (λ (k : ℕ). over (n ∷ (widths_for n ts ++ (k ∷ []))) w) count-is in
      record {
        named = named;
        dimension = dimension;
        question = question_for n ts;
        over = widths-length n ts;
        shaped = shaped;
        words = ap₂ (λ (m : ℕ) (u : List ℕ). take m u) size-sum written ∙ front-words n ts (made.put.stand (room fits));
      }

  module _ (same : gather l s es ≡ gather_from l s 0 [] es) {v v' u u' y y' o o' : List ℕ} {j : CsvJoin} where
    -- the run of the tables' question is what is promised
    pub ran_says : RanSays (fields_of l) (question_for n made.tables) v v' u u' y y' o o' j → JoinSays l s es v v' u u' y y' o o' j
    ran_says says =
        subst (λ (g : Gathered). JoinWith (fields_of l) g v v' u u' y y' o o' j) (sym (same ∙ made.is))
        (subst (λ (m : ℕ). RanSays (fields_of l) (question_for m made.tables) v v' u u' y y' o o' j) dimension says)

  -- the question has too many words
  too_long : max_words < size → read_question (words_of (question_for n made.tables)) ≡ bad 1
  too_long h = read-long (words_of (question_for n made.tables)) (omega (arith, h, size_is))

  pub long-says : gather l s es ≡ gather_from l s 0 [] es → max_words < size → (v u y o : List ℕ) {j : CsvJoin} → j ≡ refusal_at 1 0 0 → JoinSays l s es v v u u y y o o j
  long-says same h v u y o {j} d =
      let read = too_long h in
      let run : RunSays (words_of (question_for n made.tables)) v v u u (refused_with 1) = rw read (refl, refl, refl) in
      let scratch : ScratchSays (words_of (question_for n made.tables)) y y = rw read refl in
      ran_says same (stopped-says run scratch (λ e. omega (arith, e)) o d)
