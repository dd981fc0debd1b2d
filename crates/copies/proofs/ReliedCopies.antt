-- The copy's last line says `complete` only if the whole join is in the copy.
--   hidden-plain, shown-plain, lines-plain == no field of a copy has a separator
--   refused-last, last_of, stopped-last == the last line of the copy of a refused text; of a listing; of a stopped run
--   relied-copy  == the claim
--   said_copy    == and it does say so where the run is not stopped
use mathlib.Core.Path.{◌≡◌, refl, sym, ap, ◌∙◌}
use mathlib.Core.List.{List, [], ◌∷◌, ◌++◌, map, map-map}
use Prim.Native.Nat.{ℕ, suc}
use native.Mathlib.Omega.{arith}
use borrow.Author.Tests.{eqb-true, eqb-false}
use lib.Dec.{eqb}
use lib.ListN.{length, take}
use Rattle.boxes.specs.Fits.{Each, none, more}
use Rattle.boxes.proofs.Tests.{by}
use Rattle.questions.specs.Orders.{is_in}
use Rattle.questions.specs.Questions.{Question}
use Rattle.questions.specs.Words.{flat}
use Rattle.tables.specs.Joins.{join_of}
use Rattle.fields.specs.Fields.{every}
use Rattle.fields.specs.Decimals.{decimal}
use Rattle.fields.proofs.Laws.{Plain, letters-plain, digits-plain, digits_decimal}
use Rattle.text.specs.Texts.{read_text}
use Rattle.text.specs.Prints.{line_of, complete_word, stopped_word, refused_word, roomy_run}
use Rattle.text.specs.Claims.{names_of, AcceptedText, RefusedText, Outcome, refuses, lists, line_fields}
use Rattle.text.proofs.Laws.{outcome, decimals-plain, line_fields-alone, line_fields-after, names-plain, complete-plain, stopped-plain, first-is, other_word}
use Rattle.copies.specs.Copies.{hidden_field, shown_field, shown_from, shown_lines, copied}
use Rattle.copies.specs.Claims.{CompleteCopy, ReliedCopy, SaidCopy}
use Rattle.copies.proofs.Shown.{copied-states}

hidden-plain : Plain hidden_field
hidden-plain = (more refl none, more refl none)

shown-plain : (h : List ℕ) (i : ℕ) (p : List ℕ) → Each Plain (shown_from h i p)
unfolding shown_from
shown-plain h i [] = none
shown-plain h i (v ∷ p) = more {x = shown_field (is_in i h) v} (by (is_in i h) (λ t. rw t hidden-plain) (λ f. rw f (digits-plain (decimal v) (digits_decimal v)))) (shown-plain h (suc i) p)

lines-plain : (h : List ℕ) (ts : List (List ℕ)) → Each (Each Plain) (map (shown_from h 0) ts)
lines-plain h [] = none
lines-plain h (p ∷ ts) = more (shown-plain h 0 p) (lines-plain h ts)

module _ (h s : List ℕ) where
  refused-last : {n : ℕ} → RefusedText s n → line_fields (copied h s) ≡ refused_word ∷ []
  unfolding every
  refused-last why = ap line_fields ((copied-states h s).refused why) ∙ line_fields-alone (more (letters-plain refused_word refl) none)

  -- of a listing: a word, and then the number of tuples
  last_of : (read_text s).number ≡ 0 → (ts : List (List ℕ)) (w : List ℕ) (k : ℕ) → Plain w
      → copied h s ≡ line_of (names_of s) ++ shown_lines h ts ++ line_of (w ∷ decimal k ∷ []) → line_fields (copied h s) ≡ w ∷ decimal k ∷ []
  last_of reads ts w k plain is =
      ap line_fields is
      ∙ ap (λ (ls : List (List ℕ)). line_fields (line_of (names_of s) ++ flat ls ++ line_of (w ∷ decimal k ∷ []))) (sym (map-map line_of (shown_from h 0) ts))
      ∙ line_fields-after (names-plain s reads) (lines-plain h ts) (more plain (decimals-plain (k ∷ [])))

  stopped-last : {q : Question} → AcceptedText s q → ((roomy_run q).number ≡ 0 → ⊥) → line_fields (copied h s) ≡ stopped_word ∷ decimal (length (roomy_run q).tuples) ∷ []
  stopped-last {q} a n = last_of a.reads (take (length (roomy_run q).tuples) (join_of q)) stopped_word (length (roomy_run q).tuples) stopped-plain ((copied-states h s).stopped a n)

pub relied-copy : ReliedCopy
relied-copy h s says = by-text (outcome s)
  where
    by-text : Outcome s → CompleteCopy h s
    by-text (refuses n why is) = absurd (other_word (λ e. omega (arith, e)) (refused-last h s why) says)
    by-text (lists q a listed) =
        by (eqb (roomy_run q).number 0)
        (λ t. record { question = q; accepted = a; is = (copied-states h s).complete a (eqb-true (roomy_run q).number 0 t) })
        (λ f. absurd (other_word (λ e. omega (arith, e)) (stopped-last h s a (eqb-false (roomy_run q).number 0 f)) says))

pub said_copy : SaidCopy
said_copy h s q a whole = first-is (last_of h s a.reads (join_of q) complete_word (length (join_of q)) complete-plain ((copied-states h s).complete a whole))
