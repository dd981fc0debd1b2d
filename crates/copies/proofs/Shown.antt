-- The copy of a text, by what became of it.
--   copied_is        == by what became of the text
--   refused-copied, accepted-copied == the copy of a refused text; of an accepted one
--   copied-states    == with the join's tuples, or its first ones
--   copy-bytes       == what is put for an answer is the copy of the text
--   copy-asks        == and the printer is given what it asks
use mathlib.Core.Path.{◌≡◌, refl, sym, ap, ◌∙◌}
use mathlib.Core.List.{List}
use Prim.Native.Nat.{ℕ, ◌≤◌}
use native.Mathlib.Omega.{arith}
use borrow.Author.Tests.{eq-eqb, ne_eqb}
use lib.ListN.{length}
use Rattle.boxes.specs.Limits.{max_attributes}
use Rattle.boxes.specs.Fits.{Each}
use Rattle.boxes.proofs.Lists.{each-imp}
use Rattle.questions.specs.Questions.{Question}
use Rattle.search.specs.Says.{list_room}
use Rattle.fields.specs.Fields.{fields_of}
use Rattle.text.specs.Limits.{listing_words}
use Rattle.text.specs.Prints.{line_of, roomy_run}
use Rattle.text.specs.TextRuns.{became}
use Rattle.text.specs.Puts.{top_line}
use Rattle.text.specs.Claims.{names_of, AcceptedText, RefusedText, text_run_in, Answering, as-refused, as-run}
use Rattle.text.specs.declared.run.TextRun.{TextRun}
use Rattle.std.specs.Prelude.{Result}
use Rattle.text.specs.declared.refusal.TextRefusal.{TextRefusal}
use Rattle.text.proofs.Laws.{refused-became, accepted-became, text-even, roomy-left}
use Rattle.copies.specs.Copies.{end_line, copy, refused_copy, copy_of, copied}
use Rattle.copies.specs.Puts.{marks_of, copy_bytes, CopyAsks}
use Rattle.copies.specs.Claims.{Copied}
use Rattle.copies.proofs.HiddenMarks.{shown-lines}

copied_is : (h s : List ℕ) → copied h s ≡ copy_of h (became listing_words s)
unfolding copied
copied_is h s = refl

module _ (h : List ℕ) {s : List ℕ} where
  pub refused-copied : {n : ℕ} → RefusedText s n → copied h s ≡ refused_copy
  refused-copied why = copied_is h s ∙ ap (copy_of h) (refused-became listing_words why)

  pub accepted-copied : {q : Question} → AcceptedText s q → copied h s ≡ copy h (names_of s) (roomy_run q)
  accepted-copied a = copied_is h s ∙ ap (copy_of h) (accepted-became listing_words a)

pub copied-states : (h s : List ℕ) → Copied h s
copied-states h s = record {
  refused = refused-copied h;
  complete = λ a e. let x = roomy-left _ a.accepted in accepted-copied h a ∙ rw (x.complete e, eq-eqb (roomy_run _).number 0 e);
  stopped = λ a n. let x = roomy-left _ a.accepted in accepted-copied h a ∙ rw (← x.first-tuples, ne_eqb (roomy_run _).number 0 n);
}

-- ---- what is put for an answer

pub copy-asks : {s l l' : List ℕ} {a : Result TextRun TextRefusal} → Answering s l l' a → CopyAsks l' a
copy-asks (as-refused why is) = tt
copy-asks (as-run r) = ((r.some, r.few), (r.some, r.within))

pub copy-bytes : (h : List ℕ) {s l l' : List ℕ} {a : Result TextRun TextRefusal} → length l ≡ listing_words → Answering s l l' a → copy_bytes (marks_of h) s l' a ≡ copied h s
copy-bytes h long (as-refused why is) = sym (refused-copied h why)
copy-bytes h {s} {l} long (as-run {r = r} t) =
    let q = t.question in
    let x = text_run_in q l in
    let few : Each (λ p. length p ≤ max_attributes) x.tuples = each-imp (λ p e. omega (arith, t.dimension, t.few)) (text-even t.accepted (list_room q l)) in
    let names : line_of (fields_of (top_line s)) ≡ line_of (names_of s) = ap line_of (sym t.names) in
    let end : end_line r.counts.number r.counts.tuples ≡ end_line x.number (length x.tuples) = ap (λ (y : TextRun). end_line y.counts.number y.counts.tuples) t.is in
    rw (names, t.tuples, end, shown-lines h few) (sym (accepted-copied h t.accepted ∙ rw long))
