-- The words of lists one after the other, and of a question's tables.
--   flat-none, flat-more == no list, one list and then more
--   flat_append     == lists after others
--   flat-end        == one list more
--   length-flat, flat-few, flat-part == how many words there are; at most how many; no fewer than of one of the lists
--   length-pair_words == how many words pairs have
--   of_one          == what holds of each list of one number
--   rows_of-flat     == rows of one length that stand one after the other are read back
--   flat-rows_of     == rows that were read, one after the other, are the words that they were read from
--   table_words-is, words_of-is == the words of a table, and of a question, written out; table_words-plain: of a table that is no range table
--   table_words-parts == the words of a table, from its parts
--   length-table_words == how many words a table has
use mathlib.Core.Path.{◌≡◌, refl, sym, ap, ap₂, ◌∙◌}
use mathlib.Core.Bool.{false}
use mathlib.Core.List.{List, [], ◌∷◌, ◌++◌, append_assoc, append-nil, map, Memᴰ}
use Prim.Native.Nat.{ℕ, zero, suc, ◌+◌, ◌*◌, ◌≤◌}
use native.Mathlib.Nat.{zero-mul, suc-mul}
use native.Mathlib.Omega.{arith}
use lib.ListN.{length, take, drop, length-append}
use lib.Seq.{drop-append_seam, drop-drop, take-add, take_at}
use Rattle.boxes.specs.Fits.{Each, none, more}
use Rattle.questions.specs.Questions.{Pair, Contents, with_rows, Table, Question, table_with, has_pairs}
use Rattle.questions.specs.Directories.{rows_of}
use Rattle.questions.specs.Words.{flat, pair_words, arity_word, contents_words, table_words, words_of}
use Rattle.questions.proofs.Entries.{rows_of-none, rows_of-turn}

pub flat-none : flat [] ≡ []
unfolding flat
flat-none = refl

pub flat-more : (p : List ℕ) (ps : List (List ℕ)) → flat (p ∷ ps) ≡ p ++ flat ps
unfolding flat
flat-more p ps = refl

pub flat_append : (ts us : List (List ℕ)) → flat (ts ++ us) ≡ flat ts ++ flat us
unfolding flat
flat_append [] us = refl
flat_append (t ∷ ts) us = ap (λ (l : List ℕ). t ++ l) (flat_append ts us) ∙ sym (append_assoc t (flat ts) (flat us))

pub flat-end : (ts : List (List ℕ)) (p : List ℕ) → flat (ts ++ (p ∷ [])) ≡ flat ts ++ p
unfolding flat
flat-end ts p = flat_append ts (p ∷ []) ∙ ap (λ (l : List ℕ). flat ts ++ l) (append-nil p)

pub length-flat : {n : ℕ} {ts : List (List ℕ)} → Each (λ p. length p ≡ n) ts → length (flat ts) ≡ length ts * n
unfolding flat
length-flat none = omega arith
length-flat {n} (more {x = p} {xs = ts} e r) = omega (arith, e, length-append p (flat ts), length-flat r, suc-mul (length ts) n)

pub flat-few : (m : ℕ) {ps : List (List ℕ)} → Each (λ p. length p ≤ m) ps → length (flat ps) ≤ length ps * m
unfolding flat
flat-few m none = omega arith
flat-few m (more {x = p} {xs = ps} h r) = omega (arith, h, length-append p (flat ps), flat-few m r, suc-mul (length ps) m)

pub flat-part : {A : Type 0} (f : A → List ℕ) {x : A} {xs : List A} → Memᴰ x xs → length (f x) ≤ length (flat (map f xs))
unfolding flat
flat-part f {xs = []} m = elim m [ ]
flat-part f {xs = y ∷ ys} (Memᴰ.head e) = rw e (omega (arith, length-append (f y) (flat (map f ys))))
flat-part f {xs = y ∷ ys} (Memᴰ.tail m) = omega (arith, length-append (f y) (flat (map f ys)), flat-part f m)

pub of_one : (P : List ℕ → Type 0) → ((a : ℕ) → P (a ∷ [])) → (xs : List ℕ) → length xs ≡ 1 → P xs
of_one P f [] e = absurd (omega arith)
of_one P f (a ∷ []) e = f a
of_one P f (a ∷ (b ∷ xs)) e = absurd (omega arith)

pub length-pair_words : (ps : List Pair) → length (flat (map pair_words ps)) ≡ length ps * 2
unfolding flat
length-pair_words [] = refl
length-pair_words (p ∷ ps) = omega (arith, length-pair_words ps)

-- rows of n values each, that stand behind other words
pub rows_of-flat : {n : ℕ} {ts : List (List ℕ)} → Each (λ p. length p ≡ n) ts → (front back : List ℕ)
    → rows_of (front ++ (flat ts ++ back)) (length front) n (length ts) ≡ ts
rows_of-flat {n} none front back = rows_of-none _ (length front) n
rows_of-flat {n} (more {x = p} {xs = ts} e r) front back =
    let words : List ℕ = front ++ (flat (p ∷ ts) ++ back) in
    let rest : List ℕ = flat ts ++ back in
    let parts : flat (p ∷ ts) ++ back ≡ p ++ rest = ap (λ (l : List ℕ). l ++ back) (flat-more p ts) ∙ append_assoc p (flat ts) back in
    let first : take n (drop (length front) words) ≡ p = ap (take n) (drop-append_seam front (flat (p ∷ ts) ++ back) ∙ parts) ∙ take_at p rest n e in
    let place : length front + n ≡ length (front ++ p) = omega (arith, length-append front p) in
    let later : words ≡ (front ++ p) ++ rest = ap (λ (l : List ℕ). front ++ l) parts ∙ sym (append_assoc front p rest) in
    rows_of-turn words (length front) n (length ts)
    ∙ ap₂ ◌∷◌ first (ap₂ (λ (l : List ℕ) (b : ℕ). rows_of l b n (length ts)) later place ∙ rows_of-flat r (front ++ p) back)

pub flat-rows_of : (s : List ℕ) (b k m : ℕ) → flat (rows_of s b k m) ≡ take (m * k) (drop b s)
flat-rows_of s b k zero = ap flat (rows_of-none s b k) ∙ flat-none ∙ ap (λ (n : ℕ). take n (drop b s)) (sym (zero-mul k))
flat-rows_of s b k (suc m) =
    let xs : List ℕ = drop b s in
    let all : k + m * k ≡ suc m * k = omega (arith, suc-mul m k) in
    ap flat (rows_of-turn s b k m)
    ∙ flat-more (take k xs) (rows_of s (b + k) k m)
    ∙ ap (λ (l : List ℕ). take k xs ++ l) (flat-rows_of s (b + k) k m ∙ ap (take (m * k)) (sym (drop-drop k b s)))
    ∙ sym (take-add k (m * k) xs)
    ∙ ap (λ (n : ℕ). take n xs) all

table_words-is : (t : Table) → table_words t ≡ arity_word t.attributes t.contents ∷ (t.attributes ++ contents_words t.contents)
unfolding table_words
table_words-is t = refl

pub table_words-plain : (xs : List ℕ) (c : Contents) → has_pairs c ≡ false → table_words (record { attributes = xs; contents = c }) ≡ length xs ∷ (xs ++ contents_words c)
table_words-plain xs c f = table_words-is (record { attributes = xs; contents = c }) ∙ rw f

pub table_words-parts : (xs : List ℕ) (rs : List (List ℕ)) (k m : ℕ) → k ≡ length xs → m ≡ length rs → k ∷ (xs ++ (m ∷ flat rs)) ≡ table_words (table_with xs rs)
table_words-parts xs rs k m e d = rw (e, d) (sym (table_words-plain xs (with_rows rs) refl))

pub length-table_words : (t : Table) → length (table_words t) ≡ 1 + length t.attributes + length (contents_words t.contents)
length-table_words t = ap length (table_words-is t) ∙ omega (arith, length-append t.attributes (contents_words t.contents))

pub words_of-is : (q : Question) → words_of q ≡ length q.widths ∷ (q.widths ++ (length q.tables ∷ flat (map table_words q.tables)))
unfolding words_of
words_of-is q = refl
