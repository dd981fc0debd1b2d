-- The last line says `complete` exactly for a complete listing.
--   names-plain == the names at the top of a text that was read have no separator
--   complete-plain, stopped-plain == nor have the words of a last line
--   counts x        == the numbers of a run's three counts
--   last_fields-of   == the fields of the last line that is printed for a text that was read
--   first-is, other_word == the first field; a word that begins otherwise is another
--   complete-line, stopped-line == the last line of an accepted text, by how its run ended
--   complete-run, stopped-run == and back, by the word of the last line
--   relied          == the last line says `complete` only if all tuples of the join are printed
--   complete-said   == it says so if the run was not stopped
use mathlib.Core.Path.{◌≡◌, refl, sym, ap, ◌∙◌}
use mathlib.Core.List.{List, [], ◌∷◌, ◌++◌, map}
use Prim.Native.Nat.{ℕ}
use native.Mathlib.Omega.{arith}
use lib.Dec.{eqb}
use lib.ListN.{length, get_or, take}
use borrow.Author.Tests.{eqb-true, eqb-false}
use Rattle.boxes.specs.Fits.{Each, more}
use Rattle.boxes.proofs.Lists.{each-imp}
use Rattle.boxes.proofs.Tests.{by}
use Rattle.questions.specs.Questions.{Question}
use Rattle.tables.specs.Joins.{join_of}
use Rattle.course.specs.Stores.{resolutions}
use Rattle.course.specs.Runs.{Run}
use Rattle.fields.specs.Fields.{every, is_name}
use Rattle.fields.specs.Decimals.{decimal}
use Rattle.fields.proofs.Laws.{Plain, every-each, letters-plain, name-letters}
use Rattle.text.specs.Texts.{read_text}
use Rattle.text.specs.Prints.{line_of, complete_word, stopped_word, tuple_lines, roomy_run, printed}
use Rattle.text.specs.Claims.{names_of, AcceptedText, Outcome, refuses, lists, line_fields, last_fields, Relied, Said}
use Rattle.text.proofs.ReadNames.{read_text-names}
use Rattle.text.proofs.Demands.{accepted-listed, outcome}
use Rattle.text.proofs.LastLines.{decimals-plain, line_fields-refusal, line_fields-listing}

pub names-plain : (s : List ℕ) → (read_text s).number ≡ 0 → Each Plain (names_of s)
names-plain s e = each-imp (λ f h. letters-plain f (name-letters f h)) (every-each is_name (names_of s) (read_text-names s e))

pub complete-plain : Plain complete_word
unfolding every
complete-plain = letters-plain complete_word refl

pub stopped-plain : Plain stopped_word
unfolding every
stopped-plain = letters-plain stopped_word refl

abbrev pub counts : Run → List ℕ
counts x = length x.tuples ∷ length x.boxes ∷ resolutions x.boxes ∷ []

-- the last line of a listing: a word, and then decimals
last_fields-of : (s : List ℕ) → (read_text s).number ≡ 0 → (ts : List (List ℕ)) {w : List ℕ} → Plain w → (vs : List ℕ)
    → printed s ≡ line_of (names_of s) ++ tuple_lines ts ++ line_of (w ∷ map decimal vs) → last_fields s ≡ w ∷ map decimal vs
last_fields-of s e ts plain vs is = ap line_fields is ∙ line_fields-listing ts (names-plain s e) (more plain (decimals-plain vs))

-- ---- the word of a last line

pub first-is : {fs gs : List (List ℕ)} {w : List ℕ} → fs ≡ w ∷ gs → get_or fs 0 [] ≡ w
first-is e = ap (λ (fs : List (List ℕ)). get_or fs 0 []) e

-- words that begin otherwise are not the same
pub other_word : {fs gs : List (List ℕ)} {w v : List ℕ} → (get_or w 0 0 ≡ get_or v 0 0 → ⊥) → fs ≡ w ∷ gs → get_or fs 0 [] ≡ v → ⊥
other_word apart e says = apart (ap (λ (l : List ℕ). get_or l 0 0) (sym (first-is e) ∙ says))

-- the lines of an accepted text, by how its run ended
module _ (s : List ℕ) (q : Question) (a : AcceptedText s q) where
  pub complete-line : (roomy_run q).number ≡ 0 → last_fields s ≡ complete_word ∷ map decimal (counts (roomy_run q))
  complete-line whole = last_fields-of s a.reads (join_of q) complete-plain (counts (roomy_run q)) ((accepted-listed s q a).complete whole)

  pub stopped-line : ((roomy_run q).number ≡ 0 → ⊥) → last_fields s ≡ stopped_word ∷ map decimal ((roomy_run q).number ∷ counts (roomy_run q))
  stopped-line stopped =
      let x = roomy_run q in
      last_fields-of s a.reads (take (length x.tuples) (join_of q)) stopped-plain (x.number ∷ counts x) ((accepted-listed s q a).stopped stopped)

-- and back: who says `complete` is complete, who says `stopped` is stopped
pub complete-run : (s : List ℕ) → Outcome s → get_or (last_fields s) 0 [] ≡ complete_word → (q : Question) × AcceptedText s q × ((roomy_run q).number ≡ 0)
complete-run s (refuses n why is) says = absurd (other_word (λ e. omega (arith, e)) (ap line_fields is ∙ line_fields-refusal n) says)
complete-run s (lists q a listed) says =
    by (eqb (roomy_run q).number 0)
    (λ t. (q, a, eqb-true (roomy_run q).number 0 t))
    (λ f. absurd (other_word (λ e. omega (arith, e)) (stopped-line s q a (eqb-false (roomy_run q).number 0 f)) says))

pub stopped-run : (s : List ℕ) → Outcome s → get_or (last_fields s) 0 [] ≡ stopped_word → (q : Question) × AcceptedText s q × ((roomy_run q).number ≡ 0 → ⊥)
stopped-run s (refuses n why is) says = absurd (other_word (λ e. omega (arith, e)) (ap line_fields is ∙ line_fields-refusal n) says)
stopped-run s (lists q a listed) says = (q, a, λ whole. other_word (λ e. omega (arith, e)) (complete-line s q a whole) says)

pub relied : Relied
relied s says =
    let r = complete-run s (outcome s) says in
    record { question = r.0; accepted = r.1; is = (accepted-listed s r.0 r.1).complete r.2 }

pub complete-said : Said
complete-said s q a whole = first-is (complete-line s q a whole)
