-- The bound over one attribute in the last line that is printed: with one name at the top, resolutions are fewer than gap boxes and listed tuples together.
--   names-attributes == one name is one attribute
--   one_name         == so of a last line `complete`, and of one `stopped`: such a run has filled the store
use mathlib.Core.Path.{◌≡◌, ap, ◌∙◌}
use mathlib.Core.List.{List, ◌∷◌, map}
use Prim.Native.Nat.{ℕ, ◌≤◌}
use native.Mathlib.Omega.{arith}
use lib.ListN.{length}
use Rattle.questions.specs.Questions.{Question}
use Rattle.questions.specs.Words.{words_of}
use Rattle.course.specs.Stores.{resolutions}
use Rattle.course.specs.Claims.{FewerResolutions}
use Rattle.course.proofs.Laws.{one-attribute}
use Rattle.search.specs.Says.{divided}
use Rattle.fields.specs.Decimals.{decimal}
use Rattle.text.specs.Limits.{listing_boxes, listing_words}
use Rattle.text.specs.Prints.{stopped_word, roomy_run}
use Rattle.text.specs.Claims.{names_of, AcceptedText, OneName}
use Rattle.text.proofs.ReadWidths.{read_text-arities}
use Rattle.text.proofs.TextNumbers.{stopped-full}
use Rattle.text.proofs.Demands.{roomy-left, outcome}
use Rattle.text.proofs.Relied.{counts, complete-line, stopped-line, complete-run, stopped-run}

names-attributes : {s : List ℕ} {q : Question} → AcceptedText s q → length (names_of s) ≡ 1 → length q.widths ≡ 1
names-attributes {s} a one = rw (← a.is) (read_text-arities s a.reads).named ∙ one

fewer : {s : List ℕ} {q : Question} → AcceptedText s q → length (names_of s) ≡ 1 → 1 ≤ length (roomy_run q).boxes → FewerResolutions (roomy_run q).boxes
fewer {q = q} a one some = one-attribute (words_of q) q a.accepted (names-attributes a one) (divided listing_words (length q.widths)) listing_boxes some

pub one_name : OneName
one_name s one = (
  λ says.
      let r = complete-run s (outcome s) says in
      let x = roomy_run r.0 in
      record {
        tuples = length x.tuples;
        boxes = length x.boxes;
        resolutions = resolutions x.boxes;
        line = complete-line s r.0 r.1 r.2;
        fewer = fewer r.1 one ((roomy-left r.0 r.1.accepted).covered r.2).0;
      },
  λ says.
      let r = stopped-run s (outcome s) says in
      let x = roomy_run r.0 in
      let full = stopped-full r.0 r.1.accepted r.2 in
      record {
        tuples = length x.tuples;
        boxes = length x.boxes;
        resolutions = resolutions x.boxes;
        line = stopped-line s r.0 r.1 r.2 ∙ ap (λ (n : ℕ). stopped_word ∷ map decimal (n ∷ counts x)) full.0;
        fewer = fewer r.1 one (omega (arith, full.1));
      },
)
