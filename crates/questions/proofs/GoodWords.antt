-- The words of a sound question are read back as that question, unless there are too many or an attribute stands in no table.
--   sound-good             == a sound question with each attribute in some table is good
--   widths_in-good, tables_in-good == each part is read, after what was read before it, and the words that follow are left
--   read_words-sound, sound-read == so is the question
--   read-long              == too many words are refused, whatever they are
use mathlib.Core.Path.{◌≡◌, refl, ap, ◌∙◌}
use mathlib.Core.Bool.{true}
use mathlib.Core.List.{List, [], ◌∷◌, ◌++◌, map, append_assoc, append-nil}
use Prim.Native.Nat.{ℕ, ◌≤◌, ◌<◌}
use borrow.Author.Tests.{lt-ltb}
use lib.Dec.{ltb}
use lib.ListN.{length}
use Rattle.boxes.specs.Limits.{max_attributes, max_width}
use Rattle.boxes.specs.Intervals.{pick}
use Rattle.boxes.specs.Fits.{Each, none, more}
use Rattle.questions.specs.Limits.{max_tables, max_words}
use Rattle.questions.specs.Questions.{Table, Question, bad, got, width_check, widths_in, tables_in, each_in, closed, tables_check, rest_in, read_words, read_question}
use Rattle.questions.specs.Good.{Width, GoodTable, Sound, Good}
use Rattle.questions.specs.Words.{flat, table_words, words_of}
use Rattle.questions.proofs.Checks.{range-in}
use Rattle.questions.proofs.GoodTables.{table_in-good}
use Rattle.questions.proofs.Reading.{word_in-passes, then_is}

pub sound-good : {q : Question} → Sound q → each_in (length q.widths) q.tables ≡ true → Good q
sound-good s c = record { sound = s; covered = c }

-- ---- the parts

widths_in-good : (vs : List ℕ) {ws : List ℕ} (s : List ℕ) → Each Width ws → widths_in (length ws) vs (ws ++ s) ≡ got (vs ++ ws) s
unfolding widths_in
widths_in-good vs s none = rw append-nil
widths_in-good vs s (more {x = w} {xs = ws} h r) =
    let width : width_check w ≡ 0 = rw (range-in max_width w h.0 h.1) in
    then_is _ (word_in-passes width_check w (ws ++ s) width) ∙ rw append_assoc at (widths_in-good (vs ++ (w ∷ [])) s r)

tables_in-good : (ws : List ℕ) (ts : List Table) {us : List Table} (s : List ℕ) → length ws ≤ max_attributes → Each (GoodTable ws) us
    → tables_in (length us) (length ws) ws ts (flat (map table_words us) ++ s) ≡ got (ts ++ us) s
unfolding tables_in flat
tables_in-good ws ts s most none = rw append-nil
tables_in-good ws ts s most (more {x = t} {xs = us} h r) =
    rw (append_assoc (table_words t) (flat (map table_words us)) s)
    (then_is _ (table_in-good ws (flat (map table_words us) ++ s) most h) ∙ rw append_assoc at (tables_in-good ws (ts ++ (t ∷ [])) s most r))

closed_all : (q : Question) (n : ℕ) → closed n q.widths q.tables [] ≡ pick (each_in n q.tables) (got q []) (bad 12)
unfolding closed
closed_all q n = refl

-- ---- the question

module _ {q : Question} (sound : Sound q) where
  read_words-sound : read_words (words_of q) ≡ pick (each_in (length q.widths) q.tables) (got q []) (bad 12)
  unfolding read_words rest_in words_of
  read_words-sound =
      let n : ℕ = length q.widths in
      let count : tables_check (length q.tables) ≡ 0 = rw (range-in max_tables (length q.tables) sound.one_table sound.few-tables) in
      rw (range-in max_attributes n sound.some sound.few)
      (then_is _ (widths_in-good [] _ sound.widths)
      ∙ then_is _ (word_in-passes tables_check (length q.tables) _ count)
      ∙ then_is _ (rw append-nil at (tables_in-good q.widths [] [] sound.few sound.each))
      ∙ closed_all q n)

  pub sound-read : read_question (words_of q)
      ≡ pick (ltb max_words (length (words_of q))) (bad 1) (pick (each_in (length q.widths) q.tables) (got q []) (bad 12))
  unfolding read_question
  sound-read = ap (pick (ltb max_words (length (words_of q))) (bad 1)) read_words-sound

pub read-long : (s : List ℕ) → max_words < length s → read_question s ≡ bad 1
unfolding read_question
read-long s h = rw (lt-ltb max_words (length s) h)
