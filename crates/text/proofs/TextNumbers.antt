-- Which numbers a text's refusals and stops have.
--   text-refusals   == no refusal of a text is 1, 2, 3, 6, 11 or 28
--   stopped-full    == a run with the program's room that is stopped has filled the store
--   never-unlisted  == so that of an accepted text is not stopped with 13
use mathlib.Core.Path.{◌≡◌, refl}
use mathlib.Core.Bool.{true, false}
use mathlib.Core.List.{List, [], ◌∷◌, ◌++◌}
use Prim.Native.Nat.{ℕ, zero, suc, ◌/◌, ◌≤◌, ◌<◌}
use native.Mathlib.Omega.{arith}
use native.Mathlib.Nat.{div-lt_iff_lt-mul}
use borrow.Author.Tests.{eqb-true, ltb-true}
use lib.Dec.{eqb, ltb}
use lib.ListN.{length}
use Rattle.boxes.specs.Limits.{max_attributes}
use Rattle.boxes.specs.Fits.{Each}
use Rattle.boxes.proofs.Tests.{clash, either, or_cases, or_left, or_right}
use Rattle.boxes.proofs.Lists.{each-mem}
use Rattle.questions.specs.Limits.{max_words}
use Rattle.questions.specs.Orders.{is_in}
use Rattle.questions.specs.Good.{Good}
use Rattle.questions.specs.Questions.{Question, got, read_question, out_of_range, has_pairs}
use Rattle.questions.specs.Words.{words_of, content_numbers, WordsRefused, too_long, dimension-of, arity-of, pair_of, content}
use Rattle.questions.proofs.Laws.{accepted-good, words_of-refused}
use Rattle.course.specs.Runs.{Run}
use Rattle.course.specs.Claims.{Ending, complete, unlisted, unstored}
use Rattle.course.proofs.Laws.{run_of-ending}
use Rattle.search.specs.Says.{divided}
use Rattle.text.specs.Limits.{listing_boxes, listing_words}
use Rattle.text.specs.Texts.{read_text}
use Rattle.text.specs.Prints.{roomy_run}
use Rattle.text.specs.Claims.{as-text, as-question, text_numbers, TextRefusals, NeverUnlisted}
use Rattle.text.proofs.Shapes.{read_text-shaped, read_text-rangeless}
use Rattle.text.proofs.Refusals.{read_text-numbers}
use Rattle.text.proofs.FewWords.{read_text-few-words}
use Rattle.text.proofs.ReadWidths.{Arities, read_text-arities}

-- ---- refusals

is_in-before : (n : ℕ) (xs ys : List ℕ) → is_in n xs ≡ true → is_in n (xs ++ ys) ≡ true
unfolding is_in
is_in-before n [] ys e = let z : ◌≡◌ {A = ℕ} 0 1 = cc in absurd (omega arith)
is_in-before n (x ∷ xs) ys e =
    either (or_cases (eqb n x) (is_in n xs) e)
    (λ t. or_left (is_in n (xs ++ ys)) t)
    (λ t. or_right (eqb n x) (is_in-before n xs ys t))

-- a number from 1 up to a limit is in range
within : (n k : ℕ) → 1 ≤ k → k ≤ n → out_of_range n k ≡ true → ⊥
within n k some few e =
    either (or_cases (eqb k 0) (ltb n k) e)
    (λ t. omega (arith, eqb-true k 0 t))
    (λ t. omega (arith, ltb-true n k t))

content-only : {names : List (List ℕ)} (q : Question) (n : ℕ) → Arities names q → Each (λ t. has_pairs t.contents ≡ false) q.tables → (max_words < length (words_of q) → ⊥) → WordsRefused q n
    → is_in n content_numbers ≡ true
content-only q n a rangeless short (too_long h) = absurd (short h)
content-only q n a rangeless short (dimension-of o) = absurd (within max_attributes (length q.widths) a.some a.few o)
content-only q n a rangeless short (arity-of t m o) =
    let h = each-mem a.tables m in
    absurd (within (length q.widths) (length t.attributes) h.0 h.1 o)
content-only q n a rangeless short (pair_of x ps p m k l) = clash refl (each-mem rangeless m)
content-only q n a rangeless short (content e) = e

pub text-refusals : TextRefusals
unfolding is_in
text-refusals s n (as-text e f) =
    let told : ((read_text s).number ≡ 0 → ⊥) → is_in (read_text s).number text_numbers ≡ true =
    read_text-numbers (λ m. (m ≡ 0 → ⊥) → is_in m text_numbers ≡ true) (λ z. absurd (z refl)) (λ z. refl) (λ z. refl) (λ z. refl) s in
    rw e at (told (λ z. f (cc)))
text-refusals s n (as-question z e) =
    let q : Question = (read_text s).read.question in
    is_in-before n content_numbers (15 ∷ 16 ∷ 17 ∷ [])
    (content-only q n (read_text-arities s z) (read_text-rangeless s) (λ h. omega (arith, read_text-few-words s z)) (words_of-refused q (read_text-shaped s) e))

-- ---- stops

-- max_attributes attributes at most leave room for more tuples than there is for boxes
roomy-listing : (n : ℕ) → 1 ≤ n → n ≤ max_attributes → divided listing_words n ≤ listing_boxes → ⊥
roomy-listing zero some few h = omega arith
roomy-listing (suc n) some few h =
    let low : listing_words / suc n < suc listing_boxes = omega arith in
    omega (arith, (div-lt_iff_lt-mul {k = suc n} {x = listing_words} {y = suc listing_boxes} (omega arith)).0 low)

ending-stopped : {l s : ℕ} {x : Run} → (l ≤ s → ⊥) → Ending l s x → (x.number ≡ 0 → ⊥) → (x.number ≡ 14) × (length x.boxes ≡ s)
ending-stopped f (complete e) z = absurd (z e)
ending-stopped f (unlisted e t h) z = absurd (f h)
ending-stopped f (unstored e b) z = (e, b)

pub stopped-full : (q : Question) → read_question (words_of q) ≡ got q [] → ((roomy_run q).number ≡ 0 → ⊥) → ((roomy_run q).number ≡ 14) × (length (roomy_run q).boxes ≡ listing_boxes)
stopped-full q accepted stopped =
    let n : ℕ = length q.widths in
    let good : Good q = accepted-good (words_of q) q [] accepted in
    ending-stopped (roomy-listing n good.sound.some good.sound.few) (run_of-ending q (divided listing_words n) listing_boxes) stopped

pub never-unlisted : NeverUnlisted
never-unlisted s q a stopped = (stopped-full q a.accepted stopped).0
