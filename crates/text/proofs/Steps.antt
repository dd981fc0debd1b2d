-- What became of a line.
--   question-some, refusal-some == a refusal's number is not 0
--   refused-as == the refusal that `ok_or` made and a `?` passed up
--   pick_true, pick-false == a choice whose test is known
--   grown-none   == how far what has no table yet has grown
--   grown-later  == what has grown by a place has by a later one
--   take-refused == a line that is refused leaves all as it was
--   take-passed  == a line that passes
--   paste-front  == the first values of some, written as they are
use mathlib.Core.Path.{◌≡◌, sym, ap, subst, ◌∙◌}
use mathlib.Core.Bool.{Bool, true, false}
use mathlib.Core.List.{List, ◌++◌}
use Prim.Native.Nat.{ℕ, suc, ◌+◌, ◌≤◌}
use native.Mathlib.Omega.{arith}
use borrow.Author.Tests.{eq-eqb, ne_eqb}
use lib.ListN.{length, take, drop, length-take}
use lib.Seq.{paste, take_all}
use Rattle.boxes.specs.Limits.{max_attributes}
use Rattle.boxes.specs.Intervals.{pick}
use Rattle.text.specs.Texts.{Read, line_check, line_add}
use Rattle.text.specs.Progressing.{Stands, WordsBounded}
use Rattle.text.specs.Reads.{TakeSays}
use Rattle.text.specs.Refusals.{refusal_number}
use Rattle.text.specs.declared.reader.Next.{Next}
use Rattle.text.specs.declared.reader.Next.TheVariants.{Names}
use Rattle.text.specs.declared.reader.Progress.{Progress}
use Rattle.std.specs.Prelude.{Result, Ok, Err, IsErrAnd, Option, None, ok_or}
use Rattle.questions.specs.Refusals as of_question
use Rattle.questions.specs.declared.refusal.Refusal.{Refusal}
use Rattle.questions.specs.declared.refusal.Refusal.TheVariants.{WordCount, AttributeCount, MissingWord, WidthRange, TableCount, ArityRange, AttributeNumber, RowCount, HighValue, OutOfOrder, WordsLeft, BareAttribute, ReversedPair}
use Rattle.questions.proofs.Laws.{passed_up}
use Rattle.text.specs.declared.refusal.TextRefusal.{TextRefusal}
use Rattle.text.specs.declared.refusal.TextRefusal.TheVariants.{NoRoom, Malformed, TooLong, Question}
use Rattle.text.specs.declared.refusal.TextRefusal.TheVariants as of_text

pub question-some : (r : Refusal) → of_question.refusal_number r ≡ 0 → ⊥
question-some WordCount e = omega arith
question-some AttributeCount e = omega arith
question-some MissingWord e = omega arith
question-some WidthRange e = omega arith
question-some TableCount e = omega arith
question-some ArityRange e = omega arith
question-some AttributeNumber e = omega arith
question-some RowCount e = omega arith
question-some HighValue e = omega arith
question-some OutOfOrder e = omega arith
question-some WordsLeft e = omega arith
question-some BareAttribute e = omega arith
question-some ReversedPair e = omega arith

pub refusal-some : (r : TextRefusal) → refusal_number r ≡ 0 → ⊥
refusal-some NoRoom e = omega arith
refusal-some Malformed e = omega arith
refusal-some of_text.Names e = omega arith
refusal-some TooLong e = omega arith
refusal-some (Question r) e = question-some r e

abbrev err_or : {A : Type 0} → TextRefusal → Result A TextRefusal → TextRefusal
err_or d (Ok x) = d
err_or d (Err e) = e

-- the refusal that `ok_or` made
pub refused-as : {A B : Type 0} (r : Result B TextRefusal) {f e : TextRefusal} {o : Option A} → IsErrAnd r (λ x. x ≡ f) → ◌≡◌ {A = Result A TextRefusal} (Err f) (ok_or o e) → o ≡ None → r ≡ Err e
refused-as {A} r {f} {e} h made none =
    let same : ◌≡◌ {A = Result A TextRefusal} (Err f) (Err e) = made ∙ ap (λ (o : Option A). ok_or o e) none in
    passed_up r f h ∙ ap (λ (x : Result A TextRefusal). Err (err_or f x)) same

pub pick_true : {A : Type 0} {b : Bool} (x y : A) → b ≡ true → pick b x y ≡ x
pick_true x y e = ap (λ (b : Bool). pick b x y) e

pub pick-false : {A : Type 0} {b : Bool} (x y : A) → b ≡ false → pick b x y ≡ y
pick-false x y e = ap (λ (b : Bool). pick b x y) e

pub grown-none : (next : Next) (n words at : ℕ) → (next ≡ Names → ⊥) → n ≤ max_attributes → words ≤ at + 2
    → WordsBounded (record { next = next; dimension = n; tables = 0; words = words; arity = 0; rows = 0; counter = 0 }) at
grown-none next n words at other few bound = record {
  few = few;
  arity = omega arith;
  tables = omega arith;
  begun = λ e. absurd (other e);
  rows = omega arith;
  counter = omega arith;
  words = omega arith;
}

grown-later : {p : Progress} (at next : ℕ) → at ≤ next → WordsBounded p at → WordsBounded p next
grown-later at next h g =
    record { few = g.few; arity = g.arity; tables = g.tables; begun = g.begun; rows = omega (arith, g.rows); counter = g.counter; words = omega (arith, g.words) }

module _ {top l w : List ℕ} {p : Progress} where
  pub take-refused : (e : TextRefusal) (n : ℕ) → refusal_number e ≡ suc n → {s : Result Progress TextRefusal} → s ≡ Err e
      → ((r : Read) (v : List ℕ) → Stands top r p v w → line_check r l ≡ suc n) → TakeSays top l w w p s
  take-refused e n number is check = subst (λ (s : Result Progress TextRefusal). TakeSays top l w w p s) (sym is) (record {
    taken = λ r v h.
        let no : line_check r l ≡ 0 → ⊥ = λ z. omega (arith, check r v h) in
        record {
          number = number ∙ sym (check r v h);
          stands = subst (λ (x : Read). Stands top x p v w) (sym (pick-false (line_add r l) r (ne_eqb (line_check r l) 0 no))) h;
        };
    grown = λ at g. grown-later at (at + length l + 1) (omega arith) g;
  })

  pub take-passed : (p' : Progress) {w' : List ℕ} {s : Result Progress TextRefusal} → s ≡ Ok p' → ((r : Read) (v : List ℕ) → Stands top r p v w → line_check r l ≡ 0)
      → ((r : Read) (v : List ℕ) → Stands top r p v w → Stands top (line_add r l) p' v w')
      → ((at : ℕ) → WordsBounded p at → WordsBounded p' (at + length l + 1)) → TakeSays top l w w' p s
  take-passed p' {w'} e check made more = subst (λ (s : Result Progress TextRefusal). TakeSays top l w w' p s) (sym e) (record {
    taken = λ r v h. record {
      number = sym (check r v h);
      stands = subst (λ (x : Read). Stands top x p' v w') (sym (pick_true (line_add r l) r (eq-eqb (line_check r l) 0 (check r v h)))) (made r v h);
    };
    grown = more;
  })

pub paste-front : (w : List ℕ) (at : ℕ) (vs : List ℕ) (k : ℕ) → k ≤ length vs → paste w at (take k vs) (length (take k vs)) ≡ paste w at vs k
paste-front w at vs k h =
    let long : length (take k vs) ≡ k = omega (arith, length-take k vs) in
    rw long (ap (λ (xs : List ℕ). take at w ++ xs ++ drop (at + k) w) (take_all k (take k vs) (omega arith)))
