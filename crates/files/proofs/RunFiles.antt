-- The run of a question's words, and the file of its join.
--   Whole n q c l  == what a complete run leaves in the listing: the tuples of the join, one after the other, n values each
--   whole_run      == a complete run of a question's words leaves that
--   stopped-says   == a run that is refused or stopped: no byte is written
--   complete-says  == a complete run: the file of the join, if it has room
use mathlib.Core.Path.{◌≡◌, refl, sym, ap, ap₂, ◌∙◌}
use mathlib.Core.List.{List, []}
use Prim.Native.Nat.{ℕ, ◌*◌, ◌≤◌}
use native.Mathlib.Omega.{arith}
use borrow.Author.Tests.{ne_eqb}
use lib.Dec.{ltb}
use lib.ListN.{length, take, drop, length-append}
use lib.Seq.{take_at}
use Rattle.boxes.specs.Fits.{Each}
use Rattle.boxes.proofs.Lists.{mem-each, each2-length}
use Rattle.questions.specs.Questions.{Question, Got, bad, got, read_question, when, first_of}
use Rattle.questions.specs.Words.{flat, over, words_of, Shaped}
use Rattle.questions.proofs.Laws.{refused-number, refusal-some, read_question-words_of, length-flat, first-no}
use Rattle.tables.specs.Joins.{join_of}
use Rattle.tables.proofs.Laws.{joined}
use Rattle.course.specs.Runs.{run_of}
use Rattle.course.proofs.Laws.{demand-3}
use Rattle.search.specs.Says.{store_room, list_room, RunWith, RunSays, ScratchSays}
use Rattle.search.specs.declared.run.Counts.{Counts}
use Rattle.fields.specs.Fields.{fields_of}
use Rattle.fields.specs.Names.{top_check}
use Rattle.csv_tables.specs.Says.{exported, export_check, export_number, ExportSays}
use Rattle.csv_tables.specs.declared.export.Export.{Export}
use Rattle.csv_tables.proofs.Laws.{export-tuples, export-passes}
use Rattle.files.specs.Says.{join_file, ran_with, RanSays}
use Rattle.files.specs.declared.join.CsvJoin.{CsvJoin}

pub record Whole (n : ℕ) (q : Question) (c : Counts) (l : List ℕ) : Type 0 where
  pub long : Each (λ p. length p ≡ n) (join_of q)
  pub front : take (c.tuples * n) l ≡ flat (join_of q)
  pub room : c.tuples * n ≤ length l

-- the words were accepted, since the number is 0
whole-for : {n : ℕ} {q : Question} → length q.widths ≡ n → Shaped q → (g : Got Question) → read_question (words_of q) ≡ g → (l : List ℕ) {l' : List ℕ} (s s' : List ℕ) {c : Counts}
    → RunWith g l l' s s' c → c.number ≡ 0 → Whole n q c l'
whole-for wide shaped (bad m) e l s s' says z = absurd (omega (arith, refusal-some m (refused-number _ m e), ap (λ (d : Counts). d.number) says.0, z))
whole-for {n} {q} wide shaped (got q' rest) e l {l'} s s' {c = c} says z =
    let same = read_question-words_of q shaped e in
    let reads : read_question (words_of q) ≡ got q [] = e ∙ ap₂ got same.0 same.1 in
    let x = run_of q (list_room q l) (store_room s) in
    let is : run_of q' (list_room q' l) (store_room s) ≡ x = ap (λ (p : Question). run_of p (list_room p l) (store_room s)) same.0 in
    let number : x.number ≡ 0 = ap (λ y. y.number) (sym is) ∙ sym says.counts.number ∙ z in
    let tuples : x.tuples ≡ join_of q = ((demand-3 (words_of q) q reads).1 (list_room q l) (store_room s)).complete number in
    let count : c.tuples ≡ length (join_of q) = says.counts.tuples ∙ ap (λ y. length y.tuples) is ∙ ap length tuples in
    let listing : l' ≡ over (flat (join_of q)) l = says.listing ∙ ap (λ y. over (flat y.tuples) l) is ∙ ap (λ ts. over (flat ts) l) tuples in
    let long : Each (λ p. length p ≡ n) (join_of q) = mem-each (join_of q) (λ p m. sym (each2-length ((joined q).of-join p m).0) ∙ wide) in
    let words : length (flat (join_of q)) ≡ c.tuples * n = length-flat long ∙ ap (λ (k : ℕ). k * n) (sym count) in
    record {
      long = long;
      front = ap (take (c.tuples * n)) listing ∙ take_at (flat (join_of q)) _ (c.tuples * n) words;
      room = omega (arith, words, ap length listing, length-append (flat (join_of q)) (drop (length (flat (join_of q))) l));
    }

pub whole_run : {n : ℕ} {q : Question} → length q.widths ≡ n → Shaped q → (l : List ℕ) {l' : List ℕ} (s s' : List ℕ) {c : Counts}
    → RunSays (words_of q) l l' s s' c → c.number ≡ 0 → Whole n q c l'
whole_run {q = q} wide shaped l s s' says z = whole-for wide shaped (read_question (words_of q)) refl l s s' says z

module _ {names : List (List ℕ)} {q : Question} {l l' s s' x x' : List ℕ} {c : Counts} (run : RunSays (words_of q) l l' s s' c) (scratch : ScratchSays (words_of q) x x') where
  pub stopped-says : (c.number ≡ 0 → ⊥) → (o : List ℕ) {j : CsvJoin} → j ≡ ran_with c c.number 0 → RanSays names q l l' s s' x x' o o j
  stopped-says unlike o e =
      let number : (ran_with c c.number 0).number ≡ first_of c.number (when (ltb (length o) (length (join_file names q))) 13) = sym (first-no c.number _ unlike) in
      rw e (record {
        result = c;
        run = run;
        scratch = scratch;
        number = number;
        tuples = refl;
        boxes = refl;
        resolutions = refl;
        bytes = rw (ne_eqb c.number 0 unlike) refl;
        out = rw (ne_eqb c.number 0 unlike) refl;
        file = refl;
        place = refl;
      })

module _ {n : List ℕ} {q : Question} {l l' s s' x x' : List ℕ} {c : Counts} (passed : top_check n ≡ 0) (run : RunSays (words_of q) l l' s s' c) (scratch : ScratchSays (words_of q) x x') where
  pub complete-says : c.number ≡ 0 → Whole (length (fields_of n)) q c l' → {o o' : List ℕ} {y : Export} → ExportSays n (take (c.tuples * length (fields_of n)) l') o o' y
      → {j : CsvJoin} → j ≡ ran_with c y.number y.count → RanSays (fields_of n) q l l' s s' x x' o o' j
  complete-says z whole {o} {o'} {y} says e =
      let ps = join_of q in
      let file : List ℕ = join_file (fields_of n) q in
      let is : exported n (flat ps) ≡ file = export-tuples n passed whole.long in
      let check : export_check n (flat ps) ≡ 0 = export-passes n passed whole.long in
      let told : ExportSays n (flat ps) o o' y = rw whole.front at says in
      let room : export_number n (flat ps) o ≡ when (ltb (length o) (length file)) 13 = rw (check, is) refl in
      let number : y.number ≡ when (ltb (length o) (length file)) 13 = told.number ∙ room in
      rw e (record {
        result = c;
        run = run;
        scratch = scratch;
        number = number ∙ rw z refl;
        tuples = refl;
        boxes = refl;
        resolutions = refl;
        bytes = told.count ∙ rw (check, is, z) refl;
        out = told.bytes ∙ rw (room, number, is) refl;
        file = refl;
        place = refl;
      })
