-- `copies::copy::put_copy` meets its contract: the word of a refusal, or the copy of the run.
-- Assumes nothing.
use mathlib.Core.Path.{refl, ap, ◌∙◌, subst}
use mathlib.Core.List.{[], ◌∷◌}
use Rattle.std.specs.Prelude.{Ok}
use Rattle.fields.specs.Fields.{space, line_end}
use Rattle.fields.proofs.Laws.{line-one, puts-same}
use Rattle.text.specs.Prints.{refused_word}
use Rattle.copies.specs.Puts.{marked_line, end_of, CopyAsks, copy_bytes}
use Rattle.copies.proofs.copy.put_copy.Goals as goal
use Rattle.copies.proofs.copy.put_copy.Goals.{In-Ok}

-- what is asked of an answer that was run
asks : (c : In-Ok) → CopyAsks c.args.listing.now (Ok c.in-Ok.run')
asks c = subst (CopyAsks c.args.listing.now) c.in-Ok.is c.requires

pub put_run-requires-clause-tuples : goal.put_run-requires-clause-tuples
put_run-requires-clause-tuples c = λ o at t long. rw long (asks (goal.at.put_run-requires-clause-tuples c).In-Ok).0

pub returns-in-Err : goal.returns-in-Err
returns-in-Err c =
    let s = c.args in
    puts-same (ap (copy_bytes s.marks s.text.now s.listing.now) c.in-Err.is ∙ line-one space (line_end ∷ []) refused_word) refl refl c.put_bytes.ensures

pub returns-in-Ok : goal.returns-in-Ok
returns-in-Ok c =
    let s = c.args in
    puts-same (ap (copy_bytes s.marks s.text.now s.listing.now) c.in-Ok.is) refl refl (c.put_run.ensures (asks (goal.at.returns-in-Ok c).In-Ok).1 (marked_line s.marks) end_of (λ o o' at r t p. p) (λ o o' at r k p. p.1))
