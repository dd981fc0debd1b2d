-- The promise of a run from C leaves nothing free: question and buffers before a call decide its number and every word of listing, store and counts after it.
-- That matters since the promise names the run's result without writing it out.
--   call-one == two calls that keep the promise, from the same question and buffers, end alike
--   call-delivered == a call that keeps it delivers what a run does: the three demands, in the words of its buffers
--   lift-call-same == two calls whose copies are the same bytes, with buffers of the same content, end alike
--   lift-call-secret, lift-call-refused == so with texts that are alike but for what is hidden; with refused texts
--   import-call-delivered == so of an import: the file's table
--   join-call-one, join-call-delivered == both of a join of files
use mathlib.Core.Path.{◌≡◌, refl, sym, ap, ◌∙◌}
use mathlib.Core.List.{List, [], ◌∷◌}
use Prim.Native.Nat.{ℕ}
use lib.ListN.{length, take}
use lib.Dec.{eqb, ltb}
use Rattle.boxes.specs.Intervals.{pick}
use Rattle.questions.specs.Questions.{Question, Got, bad, got, when, first_of, read_question}
use Rattle.questions.specs.Words.{over, words_of}
use Rattle.search.specs.Says.{RunWith}
use Rattle.search.specs.Claims.{Delivered}
use Rattle.search.specs.declared.run.Counts.{Counts}
use Rattle.search.proofs.Laws.{delivered}
use Rattle.csv_tables.specs.Imports.{import_csv}
use Rattle.csv_tables.specs.Says.{import_count, import_place, counted}
use Rattle.csv_tables.specs.Claims.{ImportDelivered}
use Rattle.csv_tables.proofs.Laws.{import-delivered}
use Rattle.fields.specs.Fields.{fields_of}
use Rattle.text.specs.Claims.{RefusedText}
use Rattle.text.proofs.Laws.{counts-are}
use Rattle.copies.specs.Copies.{copied}
use Rattle.copies.specs.Claims.{Alike}
use Rattle.std.specs.Prelude.{Result}
use Rattle.copies.specs.Says.{lift_number, lift_bytes}
use Rattle.copies.specs.declared.copy.NoRoom.{NoRoom}
use Rattle.copies.proofs.Laws.{secrecy, refused-secrecy, same-call}
use Rattle.files.specs.Gathers.{Gathered, refused_at, gathered, gather}
use Rattle.files.specs.Widths.{question_for}
use Rattle.files.specs.Says.{join_file, JoinWith}
use Rattle.files.specs.Claims.{JoinDelivered}
use Rattle.files.specs.declared.join.CsvJoin.{CsvJoin}
use Rattle.files.proofs.Laws.{join-delivered}
use Rattle.boxjoin.specs.Says.{count_words, CallSays, LiftCallSays, ImportCallSays, join_words, JoinCallSays}

-- a run has one result
run-one : (g : Got Question) (l : List ℕ) {l' l'' : List ℕ} (s : List ℕ) {s' s'' : List ℕ} {c d : Counts} → RunWith g l l' s s' c → RunWith g l l'' s s'' d
    → (c ≡ d) × (l' ≡ l'') × (s' ≡ s'')
run-one (bad n) l s a b = (a.0 ∙ sym b.0, a.1 ∙ sym b.1, a.2 ∙ sym b.2)
run-one (got q rest) l s a b = (counts-are a.counts ∙ sym (counts-are b.counts), a.listing ∙ sym b.listing, a.store ∙ sym b.store)

pub call-one : {w l l' l'' s s' s'' k k' k'' : List ℕ} {r r' : ℕ} → CallSays w l l' s s' k k' r → CallSays w l l'' s s'' k k'' r'
    → (r ≡ r') × (l' ≡ l'') × (s' ≡ s'') × (k' ≡ k'')
call-one {w} {l = l} {s = s} {k = k} a b =
    let same = run-one (read_question w) l s a.run b.run in (
      a.number ∙ ap (λ (c : Counts). c.number) same.0 ∙ sym b.number,
      same.1,
      same.2,
      a.counts ∙ ap (λ (c : Counts). over (take (length k) (count_words c)) k) same.0 ∙ sym b.counts,
    )

pub call-delivered : (w l : List ℕ) {l' : List ℕ} (s : List ℕ) {s' k k' : List ℕ} {r : ℕ} (says : CallSays w l l' s s' k k' r) → Delivered w l l' s s' says.result
call-delivered w l s says = delivered w l s says.run

lift-call-same : {s s' h h' o u u' k j j' : List ℕ} {r r' : ℕ} → copied h s ≡ copied h' s' → LiftCallSays s h o u k j r → LiftCallSays s' h' o u' k j' r'
    → (r ≡ r') × (u ≡ u') × (j ≡ j')
lift-call-same {s} {s'} {h} {h'} {o} {u} {u'} {k} e a b =
    let same = same-call h h' s s' o u u' a.result b.result e a.copy b.copy in (
      a.number ∙ ap lift_number same.0 ∙ sym b.number,
      same.1,
      a.counts ∙ ap (λ (c : Result ℕ NoRoom). over (take (length k) (lift_bytes c ∷ [])) k) same.0 ∙ sym b.counts,
    )

pub lift-call-secret : {s s' h h' o u u' k j j' : List ℕ} {r r' : ℕ} → Alike h h' s s' → LiftCallSays s h o u k j r → LiftCallSays s' h' o u' k j' r'
    → (r ≡ r') × (u ≡ u') × (j ≡ j')
lift-call-secret {s} {s'} {h} {h'} a = lift-call-same (secrecy h h' s s' a)

pub lift-call-refused : {s s' h h' o u u' k j j' : List ℕ} {r r' n n' : ℕ} → RefusedText s n → RefusedText s' n' → LiftCallSays s h o u k j r → LiftCallSays s' h' o u' k j' r'
    → (r ≡ r') × (u ≡ u') × (j ≡ j')
lift-call-refused {s} {s'} {h} {h'} {n = n} {n' = n'} why why' = lift-call-same (refused-secrecy h h' s s' n n' why why')

pub import-call-delivered : (l s w : List ℕ) {w' k k' : List ℕ} {r : ℕ} → ImportCallSays l s w w' k k' r
    → ImportDelivered l s w w' (record { number = r; count = import_count (import_csv l s); place = import_place (import_csv l s) })
import-call-delivered l s w says = import-delivered l s w (record { number = says.number; count = refl; place = refl; words = says.words })

-- two answers with the same fields
joins-alike : {i j : CsvJoin} → i.number ≡ j.number → i.tuples ≡ j.tuples → i.boxes ≡ j.boxes → i.resolutions ≡ j.resolutions → i.bytes ≡ j.bytes → i.file ≡ j.file
    → i.place ≡ j.place → i ≡ j
joins-alike {i} a b c d e f g = rw (← a, ← b, ← c, ← d, ← e, ← f, ← g)

-- a join of files has one answer
join_one : (names : List (List ℕ)) (g : Gathered) (l : List ℕ) {l' l'' : List ℕ} (s : List ℕ) {s' s'' : List ℕ} (x x' y y' o : List ℕ) {o' o'' : List ℕ} {i j : CsvJoin}
    → JoinWith names g l l' s s' x x' o o' i → JoinWith names g l l'' s s'' y y' o o'' j → (i ≡ j) × (l' ≡ l'') × (s' ≡ s'') × (o' ≡ o'')
join_one names (refused_at n f r) l s x x' y y' o a b = (a.0 ∙ sym b.0, a.1 ∙ sym b.1, a.2 ∙ sym b.2, a.4 ∙ sym b.4)
join_one names (gathered ts) l s x x' y y' o {i = i} {j = j} a b =
    let q = question_for (length names) ts in
    let same = run-one (read_question (words_of q)) l s a.run b.run in
    let counts = same.0 in
    let number : i.number ≡ j.number = a.number ∙ ap (λ (c : Counts). first_of c.number (when (ltb (length o) (length (join_file names q))) 13)) counts ∙ sym b.number in
    let bytes : i.bytes ≡ j.bytes = a.bytes ∙ ap (λ (c : Counts). pick (eqb c.number 0) (counted (length (join_file names q))) 0) counts ∙ sym b.bytes in
    let all : i ≡ j = joins-alike number (a.tuples ∙ ap (λ (c : Counts). c.tuples) counts ∙ sym b.tuples) (a.boxes ∙ ap (λ (c : Counts). c.boxes) counts ∙ sym b.boxes)
    (a.resolutions ∙ ap (λ (c : Counts). c.resolutions) counts ∙ sym b.resolutions) bytes (a.file ∙ sym b.file) (a.place ∙ sym b.place) in
    (all, same.1, same.2, a.out ∙ ap (λ (n : ℕ). pick (eqb n 0) (over (join_file names q) o) o) number ∙ sym b.out)

pub join-call-one : {n b es l l' l'' s s' s'' x x' y y' o o' o'' k k' k'' : List ℕ} {r r' : ℕ} → JoinCallSays n b es l l' s s' x x' o o' k k' r → JoinCallSays n b es l l'' s s'' y y' o o'' k k'' r'
    → (r ≡ r') × (l' ≡ l'') × (s' ≡ s'') × (o' ≡ o'') × (k' ≡ k'')
join-call-one {n} {b} {es} {l = l} {s = s} {x = x} {x' = x'} {y = y} {y' = y'} {o = o} {k = k} a c =
    let same = join_one (fields_of n) (gather n b es) l s x x' y y' o a.join c.join in (
      a.number ∙ ap (λ (j : CsvJoin). j.number) same.0 ∙ sym c.number,
      same.1,
      same.2,
      same.3,
      a.counts ∙ ap (λ (j : CsvJoin). over (take (length k) (join_words j)) k) same.0 ∙ sym c.counts,
    )

pub join-call-delivered : (n b es l : List ℕ) {l' : List ℕ} (s : List ℕ) {s' : List ℕ} (x : List ℕ) {x' : List ℕ} (o : List ℕ) {o' k k' : List ℕ} {r : ℕ}
    (says : JoinCallSays n b es l l' s s' x x' o o' k k' r) → JoinDelivered n b es l l' s s' x x' o o' says.result
join-call-delivered n b es l s x o says = join-delivered n b es l s x o says.join
