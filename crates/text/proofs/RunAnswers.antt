-- What is printed for an answer is what is printed for the text, where the listing is as long as the program's.
--   program-store, program-leaves == the room of a store as long as the program's; the promise of `run_join_with` there
--   answer-asks    == the printer is given what it asks
--   answer-printed == and the bytes of the answer are what is printed
use mathlib.Core.Path.{◌≡◌, sym, ap, ◌∙◌}
use mathlib.Core.List.{List, []}
use Prim.Native.Nat.{ℕ, ◌*◌}
use lib.ListN.{length}
use Rattle.questions.specs.Questions.{Question, got, read_question}
use Rattle.search.specs.Limits.{record_words}
use Rattle.search.specs.Says.{store_room, Leaves, RunSays}
use Rattle.search.specs.declared.run.Counts.{Counts}
use Rattle.fields.specs.Fields.{fields_of}
use Rattle.text.specs.Limits.{listing_boxes, listing_words}
use Rattle.text.specs.Prints.{line_of, last_line, printed}
use Rattle.text.specs.TextRuns.{print_of}
use Rattle.text.specs.Puts.{last_of, top_line, answer_bytes, PutAsks}
use Rattle.text.specs.Claims.{names_of, text_run_in, Answering, as-refused, as-run}
use Rattle.text.specs.declared.run.TextRun.{TextRun}
use Rattle.std.specs.Prelude.{Result}
use Rattle.text.specs.declared.refusal.TextRefusal.{TextRefusal}
use Rattle.text.proofs.Demands.{accepted-printed}
use Rattle.text.proofs.TextRuns.{refused-became, printed-became}

program-store : (st : List ℕ) → length st ≡ listing_boxes * record_words → store_room st ≡ listing_boxes
program-store st e = rw e

pub program-leaves : {q : Question} {c : Counts} (w l l' st st' : List ℕ) → read_question w ≡ got q [] → length st ≡ listing_boxes * record_words
    → RunSays w l l' st st' c → Leaves (text_run_in q l) l l' st st' c
program-leaves w l l' st st' read store says = rw (read, program-store st store) at says

pub answer-asks : {s l l' : List ℕ} {a : Result TextRun TextRefusal} → Answering s l l' a → PutAsks l' a
answer-asks (as-refused why is) = tt
answer-asks (as-run h) = (h.some, h.within)

pub answer-printed : {s l l' : List ℕ} {a : Result TextRun TextRefusal} → length l ≡ listing_words → Answering s l l' a → answer_bytes s l' a ≡ printed s
answer-printed {s} long (as-refused why is) = sym (printed-became s ∙ ap print_of (refused-became listing_words why))
answer-printed {s} {l} {l'} long (as-run {r = r} h) =
    let x = text_run_in h.question l in
    let names : line_of (fields_of (top_line s)) ≡ line_of (names_of s) = ap line_of (sym h.names) in
    let last : last_of r.counts ≡ last_line x = ap (λ (y : TextRun). last_of y.counts) h.is in
    rw (names, h.tuples, last) (sym (accepted-printed s h.question h.accepted ∙ rw long))
