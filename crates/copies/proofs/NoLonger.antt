-- No copy is longer than what is printed for the text.
--   field-no-longer  == no field is longer than the value's digits
--   one-long, more-long == how long a line is, by its first field
--   line-no-longer   == no line is longer than the tuple's
--   lines-no-longer, end-no-longer, refused-no-longer == nor are the lines together, the last line, or a refusal
--   no_longer    == nor is the copy
--   copied-short == so none is longer than a page
use mathlib.Core.Path.{◌≡◌, ap, ◌∙◌}
use mathlib.Core.Bool.{Bool}
use mathlib.Core.List.{List, [], ◌∷◌, ◌++◌, map}
use Prim.Native.Nat.{ℕ, suc, ◌+◌, ◌≤◌}
use native.Mathlib.Omega.{arith}
use lib.Dec.{eqb}
use lib.ListN.{length, length-append}
use Rattle.boxes.proofs.Tests.{by}
use Rattle.questions.specs.Orders.{is_in}
use Rattle.questions.proofs.Laws.{flat-more}
use Rattle.course.specs.Stores.{resolutions}
use Rattle.course.specs.Runs.{Run}
use Rattle.fields.specs.Fields.{space, line_end}
use Rattle.fields.specs.Decimals.{decimal}
use Rattle.fields.proofs.Laws.{decimal-some, line-one, line-more}
use Rattle.text.specs.Limits.{page_bytes}
use Rattle.text.specs.Prints.{line_of, complete_word, stopped_word, refused_word, tuple_line, tuple_lines, last_line, refusal, roomy_run, printed}
use Rattle.text.specs.Claims.{names_of, Outcome, refuses, lists}
use Rattle.text.proofs.Laws.{outcome, accepted-printed, printed-short}
use Rattle.copies.specs.Copies.{shown_field, shown_from, shown_line, shown_lines, end_line, refused_copy, copied}
use Rattle.copies.specs.Claims.{NoLonger}
use Rattle.copies.proofs.Shown.{refused-copied, accepted-copied}

field-no-longer : (b : Bool) (v : ℕ) → length (shown_field b v) ≤ length (decimal v)
field-no-longer b v = by b (λ t. rw t (decimal-some v)) (λ f. rw f (omega arith))

-- of one field; of a first field and others
one-long : (f : List ℕ) → length (line_of (f ∷ [])) ≡ length f + 1
one-long f = ap length (line-one space (line_end ∷ []) f) ∙ length-append f (line_end ∷ [])

more-long : (f g : List ℕ) (fs : List (List ℕ)) → length (line_of (f ∷ (g ∷ fs))) ≡ length f + suc (length (line_of (g ∷ fs)))
more-long f g fs = ap length (line-more space (line_end ∷ []) f g fs) ∙ length-append f (space ∷ line_of (g ∷ fs))

line-no-longer : (h : List ℕ) (i : ℕ) (p : List ℕ) → length (line_of (shown_from h i p)) ≤ length (tuple_line p)
unfolding shown_from
line-no-longer h i [] = omega arith
line-no-longer h i (v ∷ []) = let f = field-no-longer (is_in i h) v in omega (arith, one-long (shown_field (is_in i h) v), one-long (decimal v))
line-no-longer h i (v ∷ (w ∷ p)) =
    let f = field-no-longer (is_in i h) v in
    let r = line-no-longer h (suc i) (w ∷ p) in
    omega (arith, more-long (shown_field (is_in i h) v) (shown_field (is_in (suc i) h) w) (shown_from h (suc (suc i)) p), more-long (decimal v) (decimal w) (map decimal p))

lines-no-longer : (h : List ℕ) (ts : List (List ℕ)) → length (shown_lines h ts) ≤ length (tuple_lines ts)
lines-no-longer h [] = omega arith
lines-no-longer h (p ∷ ts) =
    let r = lines-no-longer h ts in
    rw (flat-more (shown_line h p) (map (shown_line h) ts), flat-more (tuple_line p) (map tuple_line ts))
    (omega (arith, line-no-longer h 0 p, length-append (shown_line h p) (shown_lines h ts), length-append (tuple_line p) (tuple_lines ts)))

end-no-longer : (x : Run) → length (end_line x.number (length x.tuples)) ≤ length (last_line x)
end-no-longer x =
    let t : List ℕ = decimal (length x.tuples) in
    let b : List ℕ = decimal (length x.boxes) in
    let r : List ℕ = decimal (resolutions x.boxes) in
    let d : List ℕ = decimal x.number in
    by (eqb x.number 0)
    (λ e. rw e (omega (arith, more-long complete_word t [], one-long t, more-long complete_word t (b ∷ r ∷ []), more-long t b (r ∷ []))))
    (λ f. rw f (omega (arith, more-long stopped_word t [], one-long t, more-long stopped_word d (t ∷ b ∷ r ∷ []), more-long d t (b ∷ r ∷ []), more-long t b (r ∷ []))))

refused-no-longer : (n : ℕ) → length refused_copy ≤ length (refusal n)
refused-no-longer n = omega (arith, one-long refused_word, more-long refused_word (decimal n) [], one-long (decimal n))

pub no_longer : NoLonger
no_longer h s = by-text (outcome s)
  where
    by-text : Outcome s → length (copied h s) ≤ length (printed s)
    by-text (refuses n why is) = rw (refused-copied h why, is) (refused-no-longer n)
    by-text (lists q a listed) =
        let x = roomy_run q in
        rw (accepted-copied h a, accepted-printed s q a)
        (omega (
          arith,
          length-append (line_of (names_of s) ++ shown_lines h x.tuples) (end_line x.number (length x.tuples)),
          length-append (line_of (names_of s)) (shown_lines h x.tuples),
          length-append (line_of (names_of s) ++ tuple_lines x.tuples) (last_line x),
          length-append (line_of (names_of s)) (tuple_lines x.tuples),
          lines-no-longer h x.tuples,
          end-no-longer x,
        ))

pub copied-short : (h s : List ℕ) → length (copied h s) ≤ page_bytes
copied-short h s = omega (arith, no_longer h s, printed-short s)
