-- What is written and then read back is the same question, or it is refused for what it says.
--   Repeats q x t g       == g refuses, for a reason that the words of q have, or it gives x and leaves the words t
--   repeats-got, repeats-bad == what is then known of what was given, and of a refusal
--   repeats-pick, repeats-then, repeats-on == of a choice, of one reading after another
--   Reason n, when-refused, when-content, first_of-refused == why a check refuses: of one question, of two
--   Written n t           == a table whose rows have its arity, and whose words are few; an arity out of range is a reason, and so is a pair that falls (Falls)
--   word_in-repeats, widths_in-repeats, attributes_in-repeats, row_in-repeats, rows_in-repeats, pair_in-repeats, pairs_in-repeats, table_in-repeats, tables_in-repeats == each reader gives the
--                            part whose words come next, after what was read before it, and leaves the words that follow
--   read_question-words_of  == the words of a question, if they are accepted, are read as this question
--   words_of-refused       == if they are refused, why
use mathlib.Core.Path.{◌≡◌, refl, ap}
use mathlib.Core.Bool.{Bool, true, false, ◌&&◌, ◌||◌, not}
use mathlib.Core.List.{List, [], ◌∷◌, ◌++◌, map, append_assoc, append-nil, Memᴰ}
use Prim.Native.Nat.{ℕ, zero, suc, ◌+◌, ◌^◌, ◌≤◌, ◌<◌}
use native.Mathlib.Nat.{mul-le-mul}
use native.Mathlib.Omega.{arith}
use borrow.Author.Tests.{eqb-false, ltb-true, ltb-false}
use lib.Dec.{eqb, ltb, leb}
use lib.ListN.{length, get_or, length-append}
use Rattle.boxes.specs.Limits.{max_attributes, max_width}
use Rattle.boxes.specs.Intervals.{pick}
use Rattle.boxes.specs.Fits.{Each, none, more}
use Rattle.boxes.proofs.Tests.{by, clash, and_right}
use Rattle.boxes.proofs.Lists.{each-mem, mem-each}
use Rattle.questions.specs.Limits.{max_tables, max_rows, open_mark, range_mark, max_words}
use Rattle.questions.specs.Orders.{before, is_in}
use Rattle.questions.specs.Questions.{Pair, Contents, with_rows, unfilled, with_pairs, Table, Question, Got, bad, got, then_g, when, first_of, out_of_range, word_in, width_check, widths_in, above_last, attribute_check, attributes_in, value_check, order_check, row_in, rows_in, highest_check, pair_in, pairs_in, arity_check, arity_of, rows_check, contents_in, table_in, tables_in, each_in, closed, tables_check, rest_in, read_words, read_question, has_pairs}
use Rattle.questions.specs.Words.{flat, pair_words, arity_word, contents_words, table_words, words_of, Even, Shaped, content_numbers, WordsRefused, too_long, dimension-of, arity-of, pair_of, content}
use Rattle.questions.proofs.Arities.{arity-asked, arity-some, pairs-one, arity-word}
use Rattle.questions.proofs.Contents.{contents-open, contents-rows, contents-pairs}
use Rattle.questions.proofs.Reading.{then-then}
use Rattle.questions.proofs.Words.{of_one, length-pair_words, length-flat, flat-part, length-table_words, words_of-is}
use Rattle.questions.proofs.Yields.{yields-got, word_in-yields}

data Repeats (q : Question) {A : Type 0} (x : A) (t : List ℕ) : Got A → Type 0 where
  refuses : (n : ℕ) → WordsRefused q n → Repeats q x t (bad n)
  gives : Repeats q x t (got x t)

module _ {q : Question} {A : Type 0} {x : A} {t : List ℕ} where
  repeats-got : {g : Got A} {y : A} {u : List ℕ} → Repeats q x t g → g ≡ got y u → (y ≡ x) × (u ≡ t)
  repeats-got (refuses n why) e = let z : ◌≡◌ {A = ℕ} 0 1 = cc in absurd (omega arith)
  repeats-got gives e = (cc, cc)

  repeats-bad : {g : Got A} {n : ℕ} → Repeats q x t g → g ≡ bad n → WordsRefused q n
  repeats-bad {n = n} (refuses m why) e = let same : m ≡ n = cc in rw same at why
  repeats-bad gives e = let z : ◌≡◌ {A = ℕ} 0 1 = cc in absurd (omega arith)

  repeats-pick : (b : Bool) {g h : Got A} → (b ≡ true → Repeats q x t g) → (b ≡ false → Repeats q x t h) → Repeats q x t (pick b g h)
  repeats-pick true r s = r refl
  repeats-pick false r s = s refl

  repeats-then : {B : Type 0} {y : B} {u : List ℕ} {g : Got A} (f : A → List ℕ → Got B) → Repeats q x t g → Repeats q y u (f x t) → Repeats q y u (then_g g f)
  repeats-then f (refuses n why) r = refuses n why
  repeats-then f gives r = r

  repeats-on : {B : Type 0} {y : B} {u : List ℕ} {g : Got A} (f : A → List ℕ → Got B) → Repeats q x t g → (g ≡ got x t → Repeats q y u (f x t)) → Repeats q y u (then_g g f)
  repeats-on f (refuses n why) r = refuses n why
  repeats-on f gives r = r refl

module _ (q : Question) where
  -- a check's number, where it is not passed, is a reason
  abbrev Reason : ℕ → Type 0
  Reason n = (n ≡ 0 → ⊥) → WordsRefused q n

  when-refused : (b : Bool) (n : ℕ) → (b ≡ true → WordsRefused q n) → Reason (when b n)
  when-refused true n f z = f refl
  when-refused false n f z = absurd (z refl)

  when-content : (b : Bool) (n : ℕ) → is_in n content_numbers ≡ true → Reason (when b n)
  when-content b n e = when-refused b n (λ t. content e)

  first_of-refused : (a b : ℕ) → Reason a → Reason b → Reason (first_of a b)
  first_of-refused zero b f g z = g z
  first_of-refused (suc a) b f g z = f z

  -- ---- words, widths, attributes

  word_in-repeats : (check : ℕ → ℕ) (w : ℕ) (s : List ℕ) → Reason (check w) → Repeats q w s (word_in check (w ∷ s))
  unfolding word_in
  word_in-repeats check w s why = repeats-pick (eqb (check w) 0) (λ t. gives) (λ f. refuses (check w) (why (eqb-false (check w) 0 f)))

  widths_in-repeats : (vs ws s : List ℕ) → Repeats q (vs ++ ws) s (widths_in (length ws) vs (ws ++ s))
  unfolding widths_in is_in
  widths_in-repeats vs [] s = rw append-nil gives
  widths_in-repeats vs (w ∷ ws) s =
      repeats-then _ (word_in-repeats width_check w (ws ++ s) (when-content (out_of_range max_width w) 4 refl)) (rw append_assoc at (widths_in-repeats (vs ++ (w ∷ [])) ws s))

  attributes_in-repeats : (n : ℕ) (vs xs s : List ℕ) → Repeats q (vs ++ xs) s (attributes_in (length xs) n vs (xs ++ s))
  unfolding attributes_in is_in
  attributes_in-repeats n vs [] s = rw append-nil gives
  attributes_in-repeats n vs (a ∷ xs) s =
      repeats-then _ (word_in-repeats (attribute_check n vs) a (xs ++ s) (when-content (leb n a || ltb a (above_last vs)) 7 refl))
      (rw append_assoc at (attributes_in-repeats n (vs ++ (a ∷ [])) xs s))

  -- ---- rows

  value_order-refused : (w v : ℕ) (left above row : List ℕ) → Reason (first_of (value_check w v) (order_check left above row))
  unfolding is_in
  value_order-refused w v left above row =
      first_of-refused (value_check w v) (order_check left above row) (when-content (leb (2 ^ w) v) 9 refl)
      (when-content (eqb (length left) 0 && (not (eqb (length above) 0) && not (before above row))) 10 refl)

  row_in-repeats : (ws xs above r p s : List ℕ) → length p ≡ length xs → Repeats q (r ++ p) s (row_in ws xs above r (p ++ s))
  unfolding row_in
  row_in-repeats ws [] above r [] s e = rw append-nil gives
  row_in-repeats ws [] above r (v ∷ p) s e = absurd (omega arith)
  row_in-repeats ws (a ∷ xs) above r [] s e = absurd (omega arith)
  row_in-repeats ws (a ∷ xs) above r (v ∷ p) s e =
      repeats-then _ (word_in-repeats _ v (p ++ s) (value_order-refused (get_or ws a 0) v xs above (r ++ (v ∷ []))))
      (rw append_assoc at (row_in-repeats ws xs above (r ++ (v ∷ [])) p s (omega arith)))

  rows_in-repeats : (ws xs above : List ℕ) (rs : List (List ℕ)) {ps : List (List ℕ)} (s : List ℕ) → Each (λ r. length r ≡ length xs) ps → Repeats q (rs ++ ps) s (rows_in (length ps) ws xs above rs (flat ps ++ s))
  unfolding rows_in flat
  rows_in-repeats ws xs above rs s none = rw append-nil gives
  rows_in-repeats ws xs above rs s (more {x = p} {xs = ps} e r) =
      rw (append_assoc p (flat ps) s) (repeats-then _ (row_in-repeats ws xs above [] p (flat ps ++ s) e) (rw append_assoc at (rows_in-repeats ws xs p (rs ++ (p ∷ [])) s r)))

  -- ---- pairs

  -- a pair whose lowest value is above its highest is a reason
  abbrev Fell : Pair → Type 0
  Fell p = p.highest < p.lowest → WordsRefused q 28

  highest_check-refused : (w least : ℕ) (p : Pair) → Fell p → Reason (highest_check w least p.lowest p.highest)
  unfolding is_in
  highest_check-refused w least p fell =
      let low : ℕ = p.lowest in
      let high : ℕ = p.highest in
      first_of-refused (value_check w high) _ (when-content (leb (2 ^ w) high) 9 refl)
      (first_of-refused (when (ltb high low) 28) _ (when-refused (ltb high low) 28 (λ t. fell (ltb-true high low t))) (when-content (ltb low least) 10 refl))

  pair_in-repeats : (w least : ℕ) (p : Pair) (s : List ℕ) → Fell p → Repeats q p s (pair_in w least (pair_words p ++ s))
  unfolding pair_in is_in
  pair_in-repeats w least p s fell =
      repeats-then _ (word_in-repeats (value_check w) p.lowest (p.highest ∷ s) (when-content (leb (2 ^ w) p.lowest) 9 refl))
      (repeats-then _ (word_in-repeats (highest_check w least p.lowest) p.highest s (highest_check-refused w least p fell)) gives)

  pairs_in-repeats : (w least : ℕ) (qs : List Pair) {ps : List Pair} (s : List ℕ) → Each Fell ps
      → Repeats q (qs ++ ps) s (pairs_in (length ps) w least qs (flat (map pair_words ps) ++ s))
  unfolding pairs_in flat
  pairs_in-repeats w least qs s none = rw append-nil gives
  pairs_in-repeats w least qs s (more {x = p} {xs = ps} fell r) =
      rw (append_assoc (pair_words p) (flat (map pair_words ps)) s)
      (repeats-then _ (pair_in-repeats w least p (flat (map pair_words ps) ++ s) fell) (rw append_assoc at (pairs_in-repeats w (suc p.highest) (qs ++ (p ∷ [])) s r)))

  -- ---- tables

  rows_check-refused : (m : ℕ) → Reason (rows_check m)
  unfolding is_in
  rows_check-refused m = when-content (not (eqb m open_mark) && ltb max_rows m) 8 refl

  -- rows of at least one value that stand in a question are too few to be taken for the mark of an open table
  few-listed : {k : ℕ} {rs : List (List ℕ)} → Each (λ r. length r ≡ k) rs → 1 ≤ k → length (contents_words (with_rows rs)) ≤ max_words → length rs ≡ open_mark → ⊥
  few-listed {k} {rs} even some short e = omega (arith, length-flat even, mul-le-mul {n₁ = length rs} {m₁ = 1} {n₂ = length rs} {m₂ = k} (omega arith) some)

  -- each pair that falls is a reason
  abbrev Falls : Contents → Type 0
  Falls (with_rows rs) = Unit
  Falls unfilled = Unit
  Falls (with_pairs ps) = Each Fell ps

  contents-repeat : (ws xs : List ℕ) (c : Contents) (s : List ℕ) → 1 ≤ length xs → length xs ≤ max_words → Even (length xs) c → length (contents_words c) ≤ max_words → Falls c
      → Repeats q c s (then_g (word_in rows_check (contents_words c ++ s)) (λ m t. contents_in (arity_word xs c) m ws xs t))
  contents-repeat ws xs (with_rows rs) s some few even short falls =
      repeats-then _ (word_in-repeats rows_check (length rs) (flat rs ++ s) (rows_check-refused (length rs)))
      (rw (contents-rows (length rs) (length xs) ws xs (flat rs ++ s) (λ e. omega arith) (few-listed even some short)) (repeats-then _ (rows_in-repeats ws xs [] [] s even) gives))
  contents-repeat ws xs unfilled s some few even short falls =
      repeats-then _ (word_in-repeats rows_check open_mark s (rows_check-refused open_mark)) (rw (contents-open open_mark (length xs) ws xs s refl) gives)
  contents-repeat ws xs (with_pairs ps) s some few even short falls =
      repeats-then _ (word_in-repeats rows_check (length ps) (flat (map pair_words ps) ++ s) (rows_check-refused (length ps)))
      (rw (contents-pairs (length ps) range_mark ws xs (flat (map pair_words ps) ++ s) refl (λ e. omega (arith, length-pair_words ps)))
      (repeats-then _ (pairs_in-repeats (get_or ws (get_or xs 0 0) 0) 0 [] s falls) gives))

  -- the first word: an arity out of range is a reason, and no arity is the mark of a range table
  arity-refused : (n : ℕ) (xs : List ℕ) (c : Contents) → (out_of_range n (length xs) ≡ true → WordsRefused q 6) → Reason (arity_check n (arity_word xs c))
  arity-refused n xs c why =
      by (has_pairs c)
      (λ t. rw t (when-refused _ 6 (λ m. clash m refl)))
      (λ f. rw f (when-refused _ 6 (λ t. why (and_right (not (eqb (length xs) range_mark)) _ t))))

  -- a table whose rows have its arity, and if that is out of range, it is a reason
  record Written (n : ℕ) (t : Table) : Type 0 where
    pub even : Even (length t.attributes) t.contents
    pub short : length t.attributes + length (contents_words t.contents) ≤ max_words
    pub why : out_of_range n (length t.attributes) ≡ true → WordsRefused q 6
    pub falls : Falls t.contents

  table_in-repeats : (n : ℕ) (ws : List ℕ) (t : Table) (s : List ℕ) → Written n t → Repeats q t s (table_in n ws (table_words t ++ s))
  unfolding table_in table_words
  table_in-repeats n ws t s e =
      let xs : List ℕ = t.attributes in
      let c : Contents = t.contents in
      let rest : Contents → List ℕ → Got Table = λ c u. got (record { attributes = xs; contents = c }) u in
      let k : ℕ = arity_word xs c in
      let few : length xs ≤ max_words = omega (arith, e.short) in
      let arity : arity_of k ≡ length xs = arity-word xs c (omega arith) (pairs-one (Even (length xs)) (length xs) (λ ps one. one) c e.even) in
      rw (append_assoc xs)
      (repeats-on _ (word_in-repeats (arity_check n) k _ (arity-refused n xs c e.why)) (λ read.
      let some : 1 ≤ length xs = rw arity at (arity-some k n (yields-got (word_in-yields _ (λ w. arity-asked w n)) read).1) in
      rw arity
      (repeats-then _ (attributes_in-repeats n [] xs _)
      (rw (then-then (word_in rows_check (contents_words c ++ s)) (λ m u. contents_in k m ws xs u) rest)
      (repeats-then rest (contents-repeat ws xs c s some few e.even (omega (arith, e.short)) e.falls) gives)))))

  tables_in-repeats : (n : ℕ) (ws : List ℕ) (ts : List Table) {us : List Table} (s : List ℕ)
      → Each (Written n) us → Repeats q (ts ++ us) s (tables_in (length us) n ws ts (flat (map table_words us) ++ s))
  unfolding tables_in flat
  tables_in-repeats n ws ts s none = rw append-nil gives
  tables_in-repeats n ws ts s (more {x = t} {xs = us} e r) =
      rw (append_assoc (table_words t) (flat (map table_words us)) s)
      (repeats-then _ (table_in-repeats n ws t (flat (map table_words us) ++ s) e) (rw append_assoc at (tables_in-repeats n ws (ts ++ (t ∷ [])) s r)))

  -- ---- the question

  closed-repeats : (n : ℕ) → Repeats q q [] (closed n q.widths q.tables [])
  unfolding closed is_in
  closed-repeats n = repeats-pick (each_in n q.tables) (λ t. gives) (λ f. refuses 12 (content refl))

  -- a table's words are among the question's
  table-short : length (words_of q) ≤ max_words → {t : Table} → Memᴰ t q.tables → length t.attributes + length (contents_words t.contents) ≤ max_words
  table-short few {t} m =
      let ws : List ℕ = q.widths in
      let words : List ℕ = flat (map table_words q.tables) in
      omega (
        arith,
        ap length (words_of-is q),
        length-append ws (length q.tables ∷ words),
        length-table_words t,
        flat-part table_words m,
      )

  -- a pair of a table with one attribute that falls
  falls_of : (xs : List ℕ) (c : Contents) → Memᴰ (record { attributes = xs; contents = c }) q.tables → Even (length xs) c → Falls c
  falls_of xs (with_rows rs) m even = tt
  falls_of xs unfilled m even = tt
  falls_of xs (with_pairs ps) m even =
      of_one (λ l. Memᴰ (record { attributes = l; contents = with_pairs ps }) q.tables → Each Fell ps) (λ a in_tables. mem-each ps (λ p in-ps low. pair_of a ps p in_tables in-ps low)) xs even m

  read_words-repeats : Shaped q → length (words_of q) ≤ max_words → Repeats q q [] (read_words (words_of q))
  unfolding read_words rest_in words_of is_in
  read_words-repeats e few =
      let n = length q.widths in
      let each : Each (Written n) q.tables = mem-each q.tables (λ t m. record { even = each-mem e m; short = table-short few m; why = arity-of t m; falls = falls_of t.attributes t.contents m (each-mem e m) }) in
      repeats-pick (out_of_range max_attributes n) (λ o. refuses 2 (dimension-of o)) (λ f.
      repeats-then _ (widths_in-repeats [] q.widths _)
      (repeats-then _ (word_in-repeats tables_check _ _ (when-content (out_of_range max_tables (length q.tables)) 5 refl))
      (repeats-then _ (rw append-nil at (tables_in-repeats n q.widths [] [] each)) (closed-repeats n))))

  question-repeats : Shaped q → Repeats q q [] (read_question (words_of q))
  unfolding read_question
  question-repeats e = repeats-pick (ltb max_words (length (words_of q))) (λ t. refuses 1 (too_long (ltb-true max_words (length (words_of q)) t))) (λ f. read_words-repeats e (ltb-false max_words (length (words_of q)) f))

  pub read_question-words_of : Shaped q → {q' : Question} {s : List ℕ} → read_question (words_of q) ≡ got q' s → (q' ≡ q) × (s ≡ [])
  read_question-words_of e is = repeats-got (question-repeats e) is

  pub words_of-refused : Shaped q → {n : ℕ} → read_question (words_of q) ≡ bad n → WordsRefused q n
  words_of-refused e is = repeats-bad (question-repeats e) is
