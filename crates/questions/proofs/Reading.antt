-- What the definition says of the next word, by its place in the words s.
--   word-missing, word-refused, word_read == of one word
--   word_in-passes, then_is, then-then == a word that passes its check; one reading after another; of three
--   then-refused == a reading that is refused, and so what follows it
--   passed_up    == an error that a `?` passed up as it was
use mathlib.Core.Path.{◌≡◌, refl}
use mathlib.Core.Bool.{false}
use mathlib.Core.List.{List, ◌∷◌}
use Prim.Native.Nat.{ℕ, suc, ◌+◌, ◌≤◌, ◌<◌}
use native.Mathlib.Numerals.{add-one}
use native.Mathlib.Omega.{arith}
use borrow.Author.Tests.{ne_eqb}
use lib.Dec.{eqb}
use lib.ListN.{length, get_or, drop, drop_of_length-le}
use lib.Seq.{drop-cons}
use Rattle.std.specs.Prelude.{Result, Ok, Err, IsErrAnd}
use Rattle.questions.specs.Questions.{Got, bad, got, then_g, word_in}

module _ (check : ℕ → ℕ) (s : List ℕ) (at : ℕ) where
  pub word-missing : length s ≤ at → word_in check (drop at s) ≡ bad 3
  unfolding word_in
  word-missing h = rw (drop_of_length-le s h)

  pub word-refused : at < length s → (n : ℕ) → check (get_or s at 0) ≡ suc n → word_in check (drop at s) ≡ bad (suc n)
  unfolding word_in
  word-refused h n e = let z : eqb (suc n) 0 ≡ false = ne_eqb (suc n) 0 (λ z. omega arith) in rw (drop-cons s at 0 h, e, z)

  pub word_read : at < length s → check (get_or s at 0) ≡ 0 → word_in check (drop at s) ≡ got (get_or s at 0) (drop (at + 1) s)
  unfolding word_in
  word_read h e = rw (add-one, drop-cons s at 0 h, e)

pub word_in-passes : (check : ℕ → ℕ) (w : ℕ) (s : List ℕ) → check w ≡ 0 → word_in check (w ∷ s) ≡ got w s
unfolding word_in
word_in-passes check w s e = rw e

pub then_is : {A B : Type 0} {g : Got A} {x : A} {s : List ℕ} (f : A → List ℕ → Got B) → g ≡ got x s → then_g g f ≡ f x s
then_is f e = rw e

pub then-then : {A B C : Type 0} (g : Got A) (f : A → List ℕ → Got B) (h : B → List ℕ → Got C) → then_g g (λ x s. then_g (f x s) h) ≡ then_g (then_g g f) h
then-then (bad n) f h = refl
then-then (got x s) f h = refl

pub then-refused : {A B : Type 0} {g : Got A} {n : ℕ} (f : A → List ℕ → Got B) → bad n ≡ g → bad n ≡ then_g g f
then-refused f e = rw (← e)

pub passed_up : {A E : Type 0} (r : Result A E) (e : E) → IsErrAnd r (λ x. x ≡ e) → r ≡ Err e
passed_up (Ok x) e h = absurd h
passed_up (Err r) e h = rw h
