-- Reading words that go on: where a reading does not lack a word, it is the same where more words follow, and these are left. So question 11 tells an
-- accepted question from every longer one, and question 3 from every beginning. For tables of every kind.
--   Longer t g h       == g lacks a word, or both refuse alike, or h gives what g gives and leaves the words t too
--   longer-pick, longer-then == of a choice, of one reading after another
--   word_in-longer, widths_in-longer, attributes_in-longer, row_in-longer, rows_in-longer, pair_in-longer, pairs_in-longer, contents_in-longer, table_in-longer,
--   tables_in-longer    == so of each reader
--   Alone t g h        == g lacks a word, or both refuse alike, or h has words left over, or no word t follows
--   accepted-read, accepted-few == what accepted words are read as, and that they are not too many
--   no-beginning, beginning-refused, longer-refused == no accepted question is the beginning of a longer one, and how the two are refused
use mathlib.Core.Path.{◌≡◌, refl, sym, ap, ◌∙◌}
use mathlib.Core.Bool.{Bool, true, false}
use mathlib.Core.List.{List, [], ◌∷◌, ◌++◌}
use Prim.Native.Nat.{ℕ, zero, suc, ◌≤◌}
use native.Mathlib.Omega.{arith}
use borrow.Author.Tests.{ltb-false, le-ltb, ne_eqb}
use lib.Dec.{eqb, ltb}
use lib.ListN.{length, get_or, length-append}
use Rattle.boxes.specs.Limits.{max_attributes}
use Rattle.boxes.specs.Intervals.{pick}
use Rattle.boxes.proofs.Tests.{by}
use Rattle.questions.specs.Limits.{max_words, open_mark, range_mark}
use Rattle.questions.specs.Questions.{Pair, with_rows, unfilled, with_pairs, Table, Question, Got, bad, got, then_g, number_of, out_of_range, word_in, width_check, widths_in, attribute_check, attributes_in, row_in, rows_in, value_check, highest_check, pair_in, pairs_in, arity_check, arity_of, rows_check, contents_in, table_in, tables_in, closed, tables_check, rest_in, read_words, read_question}
use Rattle.questions.specs.Beginnings.{AcceptedWords, NoBeginning, BeginningRefused, LongerRefused}
use Rattle.questions.proofs.Checks.{refusal-some}
use Rattle.questions.proofs.Accepted.{accepted-ended, refused-number}

data Longer {A : Type 0} (t : List ℕ) : Got A → Got A → Type 0 where
  short : (h : Got A) → Longer t (bad 3) h
  refuses : (n : ℕ) → Longer t (bad n) (bad n)
  gives : (x : A) (u : List ℕ) → Longer t (got x u) (got x (u ++ t))

data Alone {A : Type 0} (t : List ℕ) : Got A → Got A → Type 0 where
  short : (h : Got A) → Alone t (bad 3) h
  refuses : (n : ℕ) → Alone t (bad n) (bad n)
  more : (g : Got A) → Alone t g (bad 11)
  none : (g h : Got A) → length t ≡ 0 → Alone t g h

module _ {A : Type 0} {t : List ℕ} where
  longer-pick : (b : Bool) {g h g' h' : Got A} → Longer t g g' → Longer t h h' → Longer t (pick b g h) (pick b g' h')
  longer-pick true l m = l
  longer-pick false l m = m

  longer-then : {B : Type 0} {g h : Got A} {f : A → List ℕ → Got B} → Longer t g h → ((x : A) (u : List ℕ) → Longer t (f x u) (f x (u ++ t)))
      → Longer t (then_g g f) (then_g h f)
  longer-then {f = f} (short h) k = short (then_g h f)
  longer-then (refuses n) k = refuses n
  longer-then (gives x u) k = k x u

  alone-then : {B : Type 0} {g h : Got A} {f : A → List ℕ → Got B} → Longer t g h → ((x : A) (u : List ℕ) → Alone t (f x u) (f x (u ++ t)))
      → Alone t (then_g g f) (then_g h f)
  alone-then {f = f} (short h) k = short (then_g h f)
  alone-then (refuses n) k = refuses n
  alone-then (gives x u) k = k x u

  alone-longer : {g h : Got A} {x : A} {u : List ℕ} → Alone t g h → g ≡ got x u → 1 ≤ length t → h ≡ bad 11
  alone-longer (short h) e some = let z : ◌≡◌ {A = ℕ} 0 1 = cc in absurd (omega arith)
  alone-longer (refuses n) e some = let z : ◌≡◌ {A = ℕ} 0 1 = cc in absurd (omega arith)
  alone-longer (more g) e some = refl
  alone-longer (none g h z) e some = absurd (omega arith)

  alone-shorter : {g h : Got A} {x : A} {u : List ℕ} → Alone t g h → h ≡ got x u → 1 ≤ length t → g ≡ bad 3
  alone-shorter (short h) e some = refl
  alone-shorter (refuses n) e some = let z : ◌≡◌ {A = ℕ} 0 1 = cc in absurd (omega arith)
  alone-shorter (more g) e some = let z : ◌≡◌ {A = ℕ} 0 1 = cc in absurd (omega arith)
  alone-shorter (none g h z) e some = absurd (omega arith)

module _ (t : List ℕ) where
  word_in-longer : (check : ℕ → ℕ) (s : List ℕ) → Longer t (word_in check s) (word_in check (s ++ t))
  unfolding word_in
  word_in-longer check [] = short (word_in check t)
  word_in-longer check (w ∷ s) = longer-pick (eqb (check w) 0) (gives w s) (refuses (check w))

  widths_in-longer : (l : ℕ) (ws s : List ℕ) → Longer t (widths_in l ws s) (widths_in l ws (s ++ t))
  unfolding widths_in
  widths_in-longer zero ws s = gives ws s
  widths_in-longer (suc l) ws s = longer-then (word_in-longer width_check s) (λ w u. widths_in-longer l (ws ++ (w ∷ [])) u)

  attributes_in-longer : (l n : ℕ) (xs s : List ℕ) → Longer t (attributes_in l n xs s) (attributes_in l n xs (s ++ t))
  unfolding attributes_in
  attributes_in-longer zero n xs s = gives xs s
  attributes_in-longer (suc l) n xs s = longer-then (word_in-longer (attribute_check n xs) s) (λ a u. attributes_in-longer l n (xs ++ (a ∷ [])) u)

  row_in-longer : (ws xs above r s : List ℕ) → Longer t (row_in ws xs above r s) (row_in ws xs above r (s ++ t))
  unfolding row_in
  row_in-longer ws [] above r s = gives r s
  row_in-longer ws (a ∷ xs) above r s = longer-then (word_in-longer _ s) (λ v u. row_in-longer ws xs above (r ++ (v ∷ [])) u)

  rows_in-longer : (l : ℕ) (ws xs above : List ℕ) (rs : List (List ℕ)) (s : List ℕ) → Longer t (rows_in l ws xs above rs s) (rows_in l ws xs above rs (s ++ t))
  unfolding rows_in
  rows_in-longer zero ws xs above rs s = gives rs s
  rows_in-longer (suc l) ws xs above rs s = longer-then (row_in-longer ws xs above [] s) (λ r u. rows_in-longer l ws xs r (rs ++ (r ∷ [])) u)

  pair_in-longer : (w least : ℕ) (s : List ℕ) → Longer t (pair_in w least s) (pair_in w least (s ++ t))
  unfolding pair_in
  pair_in-longer w least s =
      longer-then (word_in-longer (value_check w) s) (λ low u.
      longer-then (word_in-longer (highest_check w least low) u) (λ high v. gives _ v))

  pairs_in-longer : (l w least : ℕ) (ps : List Pair) (s : List ℕ) → Longer t (pairs_in l w least ps s) (pairs_in l w least ps (s ++ t))
  unfolding pairs_in
  pairs_in-longer zero w least ps s = gives ps s
  pairs_in-longer (suc l) w least ps s = longer-then (pair_in-longer w least s) (λ p u. pairs_in-longer l w (suc p.highest) (ps ++ (p ∷ [])) u)

  contents_in-longer : (k m : ℕ) (ws xs s : List ℕ) → Longer t (contents_in k m ws xs s) (contents_in k m ws xs (s ++ t))
  unfolding contents_in
  contents_in-longer k m ws xs s =
      longer-pick (eqb m open_mark) (gives unfilled s)
      (longer-pick (eqb k range_mark)
      (longer-then (pairs_in-longer m (get_or ws (get_or xs 0 0) 0) 0 [] s) (λ ps u. gives (with_pairs ps) u))
      (longer-then (rows_in-longer m ws xs [] [] s) (λ rs u. gives (with_rows rs) u)))

  table_in-longer : (n : ℕ) (ws s : List ℕ) → Longer t (table_in n ws s) (table_in n ws (s ++ t))
  unfolding table_in
  table_in-longer n ws s =
      longer-then (word_in-longer (arity_check n) s) (λ k u.
      longer-then (attributes_in-longer (arity_of k) n [] u) (λ xs v.
      longer-then (word_in-longer rows_check v) (λ m w.
      longer-then (contents_in-longer k m ws xs w) (λ c rest. gives _ rest))))

  tables_in-longer : (l n : ℕ) (ws : List ℕ) (ts : List Table) (s : List ℕ) → Longer t (tables_in l n ws ts s) (tables_in l n ws ts (s ++ t))
  unfolding tables_in
  tables_in-longer zero n ws ts s = gives ts s
  tables_in-longer (suc l) n ws ts s = longer-then (table_in-longer n ws s) (λ x u. tables_in-longer l n ws (ts ++ (x ∷ [])) u)

  -- ---- the question ends after the last table

  closed-alone : (n : ℕ) (ws : List ℕ) (ts : List Table) (s : List ℕ) → Alone t (closed n ws ts s) (closed n ws ts (s ++ t))
  unfolding closed
  closed-alone n ws ts (x ∷ s) = rw (ne_eqb (suc (length s)) 0 (λ z. omega arith), ne_eqb (suc (length (s ++ t))) 0 (λ z. omega arith)) (refuses 11)
  closed-alone n ws ts [] = ended t
    where
      ended : (u : List ℕ) → Alone u (closed n ws ts []) (closed n ws ts u)
      ended [] = none _ _ refl
      ended (x ∷ u) = rw (ne_eqb (suc (length u)) 0 (λ z. omega arith)) (more _)

  read_words-alone : (n : ℕ) (s : List ℕ) → Alone t (read_words (n ∷ s)) (read_words (n ∷ (s ++ t)))
  unfolding read_words rest_in
  read_words-alone n s =
      by (out_of_range max_attributes n)
      (λ e. rw e (refuses 2))
      (λ e. rw e
      (alone-then (widths_in-longer n [] s) (λ ws u.
      alone-then (word_in-longer tables_check u) (λ k v.
      alone-then (tables_in-longer k n ws [] v) (λ ts w. closed-alone n ws ts w)))))

-- ---- the question

read_question-none : read_question [] ≡ bad 1
unfolding read_question read_words
read_question-none = refl

module _ (s : List ℕ) where
  pub accepted-read : AcceptedWords s → (q : Question) × (read_question s ≡ got q [])
  accepted-read a = cases (read_question s) refl
    where
      cases : (g : Got Question) → read_question s ≡ g → (q : Question) × (read_question s ≡ got q [])
      cases (bad n) e = absurd (omega (arith, refusal-some n (refused-number s n e), ap number_of e))
      cases (got q t) e = (q, e ∙ ap (λ (l : List ℕ). got q l) (accepted-ended s q t e))

  short-words : length s ≤ max_words → read_question s ≡ read_words s
  unfolding read_question
  short-words h = rw (le-ltb max_words (length s) h)

  -- what is accepted is not too long, so it is read word by word
  pub accepted-few : AcceptedWords s → length s ≤ max_words
  unfolding read_question
  accepted-few a =
      by (ltb max_words (length s))
      (λ t. absurd (omega (arith, rw t at a)))
      (λ f. ltb-false max_words (length s) f)

  accepted-words : (a : AcceptedWords s) → read_words s ≡ got (accepted-read a).0 []
  accepted-words a = sym (short-words (accepted-few a)) ∙ (accepted-read a).1

pub beginning-refused : BeginningRefused
beginning-refused [] t a some = read_question-none
beginning-refused (n ∷ s) t a some =
    let few : length (n ∷ (s ++ t)) ≤ max_words = accepted-few (n ∷ (s ++ t)) a in
    rw (ne_eqb (suc (length s)) 0 (λ z. omega arith))
    (short-words (n ∷ s) (omega (arith, length-append s t)) ∙ alone-shorter (read_words-alone t n s) (accepted-words (n ∷ (s ++ t)) a) some)

pub longer-refused : LongerRefused
unfolding read_question
longer-refused [] t a some = absurd (omega (arith, ap number_of read_question-none))
longer-refused (n ∷ s) t a some =
    by (ltb max_words (length (n ∷ (s ++ t))))
    (λ e. rw e)
    (λ f. rw f (alone-longer (read_words-alone t n s) (accepted-words (n ∷ s) a) some))

pub no-beginning : NoBeginning
no-beginning s [] a b = refl
no-beginning s (y ∷ t) a b =
    let few = accepted-few (s ++ (y ∷ t)) b in
    let refused = longer-refused s (y ∷ t) a (omega arith) in
    absurd (omega (arith, ap number_of (rw (le-ltb max_words (length (s ++ (y ∷ t))) few) at refused)))
