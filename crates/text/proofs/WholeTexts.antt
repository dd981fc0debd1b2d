-- A whole text: its top line, and then the others.
--   answer-number, answer-words == the number and the count of words of an answer, from how reading ended
--   answers, says == so the answer and the words are the whole promise; where the words have room
--   text-long, text-roomless == it is too long, or the words lack room
--   text-unended  == its top line has no end
--   text-refused  == its top line is refused
--   text-asks     == the lines after the top line may be read
--   text-stopped, text-read == these are refused, or read to the end
use mathlib.Core.Path.{◌≡◌, refl, sym, ap, ◌∙◌}
use mathlib.Core.Bool.{Bool, true, false}
use mathlib.Core.List.{List, [], ◌∷◌}
use Prim.Native.Nat.{ℕ, ◌+◌, ◌-◌, ◌≤◌, ◌<◌}
use native.Mathlib.Omega.{arith}
use borrow.Author.Tests.{eqb-true, eq-eqb, ne_eqb, le-leb, lt-leb, lt-ltb, le-ltb}
use lib.Dec.{eqb}
use lib.ListN.{length, take}
use Rattle.boxes.specs.Intervals.{pick}
use Rattle.boxes.proofs.Tests.{by}
use Rattle.questions.specs.Words.{over}
use Rattle.fields.specs.Limits.{max_bytes}
use Rattle.fields.specs.Fields.{line_end, lines_of, fields_of}
use Rattle.fields.specs.Names.{top_check, names_number, top_of}
use Rattle.fields.specs.Parts.{parts_from, PartEnd}
use Rattle.boxes.specs.Limits.{max_attributes}
use Rattle.fields.proofs.Laws.{names_in-names, top_check-names, parts_from-all, parts_from-beyond}
use Rattle.text.specs.Limits.{spare_words}
use Rattle.text.specs.Texts.{Ended, ended, nothing, read_lines, read_top, read_text, words_read, top_read}
use Rattle.text.specs.Says.{lacks_room, reading_number, reading_words, reading_of, ReadSays}
use Rattle.text.specs.Reads.{LinesAsk, LinesSay}
use Rattle.std.specs.Prelude.{Result, Ok, Err}
use Rattle.text.specs.declared.refusal.TextRefusal.{TextRefusal}
use Rattle.text.specs.declared.refusal.TextRefusal.TheVariants.{NoRoom, TooLong}
use Rattle.text.specs.declared.refusal.TextRefusal.TheVariants as of_text
use Rattle.text.specs.declared.reader.Progress.{Progress}
use Rattle.text.specs.Refusals.{refusal_number, of_names, by_number, passed_number}
use Rattle.fields.specs.declared.lines.NamesRefusal.{NamesRefusal}
use Rattle.fields.specs.declared.lines.NamesRefusal.TheVariants.{Malformed, Repeated}
use Rattle.fields.specs.Names as of_line
use Rattle.text.proofs.Steps.{refusal-some, pick_true, pick-false}
use Rattle.text.proofs.AllLines.{parts_from-some}

read_top-unended : (l : List ℕ) → read_top (l ∷ []) ≡ ended 15 nothing
unfolding read_top
read_top-unended l = refl

module _ (l : List ℕ) where
  read_top-refused : (ls : List (List ℕ)) → 1 ≤ length ls → (top_check l ≡ 0 → ⊥) → read_top (l ∷ ls) ≡ ended (top_check l) nothing
  unfolding read_top
  read_top-refused [] some n = absurd (omega arith)
  read_top-refused (m ∷ ls) some n = pick-false (read_lines (top_read l) (m ∷ ls)) (ended (top_check l) nothing) (ne_eqb (top_check l) 0 n)

  read_top-more : (ls : List (List ℕ)) → 1 ≤ length ls → top_check l ≡ 0 → read_top (l ∷ ls) ≡ read_lines (top_read l) ls
  unfolding read_top
  read_top-more [] some e = absurd (omega arith)
  read_top-more (m ∷ ls) some e = pick_true (read_lines (top_read l) (m ∷ ls)) (ended (top_check l) nothing) (eq-eqb (top_check l) 0 e)

-- a refusal of a line of names has the same number as that of its text
names-refusal : (r : NamesRefusal) → refusal_number (of_names r) ≡ of_line.refusal_number r
names-refusal Malformed = refl
names-refusal Repeated = refl

names-some : (r : NamesRefusal) → refusal_number (of_names r) ≡ 0 → ⊥
names-some Malformed e = omega arith
names-some Repeated e = omega arith

-- the numbers of how reading ended, and of an answer
abbrev ended_number : Result ℕ ℕ → ℕ
ended_number (Ok k) = 0
ended_number (Err n) = n

abbrev ended_words : Result ℕ ℕ → ℕ
ended_words (Ok k) = k
ended_words (Err n) = 0

same-number : (r : Result ℕ TextRefusal) → reading_number r ≡ ended_number (by_number r)
same-number (Ok k) = refl
same-number (Err e) = refl

same_words : (r : Result ℕ TextRefusal) → reading_words r ≡ ended_words (by_number r)
same_words (Ok k) = refl
same_words (Err e) = refl

answer-number : (b : Bool) (e : Ended) → ended_number (pick b (Err 13) (reading_of e)) ≡ pick b 13 e.number
answer-number true e = refl
answer-number false e = by (eqb e.number 0) (λ t. rw t (sym (eqb-true e.number 0 t))) (λ f. rw f)

answer-words : (b : Bool) (e : Ended) → ended_words (pick b (Err 13) (reading_of e)) ≡ pick (eqb (pick b 13 e.number) 0) (length (words_read e.read)) 0
answer-words true e = refl
answer-words false e = by (eqb e.number 0) (λ t. rw t) (λ f. rw f)

module _ (s w : List ℕ) where
  answers : {w' : List ℕ} {r : Result ℕ TextRefusal} → by_number r ≡ pick (lacks_room s w) (Err 13) (reading_of (read_text s))
      → w' ≡ pick (lacks_room s w) w (over (words_read (read_text s).read) w) → ReadSays s w w' r
  answers {r = r} answer words = record {
    answer = answer;
    number = same-number r ∙ ap ended_number answer ∙ answer-number (lacks_room s w) (read_text s);
    count = same_words r ∙ ap ended_words answer ∙ answer-words (lacks_room s w) (read_text s);
    words = words;
  }

  says : (e : Ended) → lacks_room s w ≡ false → read_text s ≡ e → {w' : List ℕ} {r : Result ℕ TextRefusal} → by_number r ≡ reading_of e → w' ≡ over (words_read e.read) w → ReadSays s w w' r
  says e roomy is answer words =
      answers (answer ∙ ap reading_of (sym is) ∙ sym (pick-false (Err 13) (reading_of (read_text s)) roomy))
      (words ∙ ap (λ (x : Ended). over (words_read x.read) w) (sym is) ∙ sym (pick-false w (over (words_read (read_text s).read) w) roomy))

  pub text-long : max_bytes < length s → ReadSays s w w (Err TooLong)
  unfolding read_text
  text-long h =
      let roomy : lacks_room s w ≡ false = rw (lt-leb (length s) max_bytes h) in
      says (ended 17 nothing) roomy (pick_true (ended 17 nothing) (read_top (lines_of s)) (lt-ltb max_bytes (length s) h)) refl refl

  module _ (short : length s ≤ max_bytes) where
    pub text-roomless : length w < length s + spare_words → ReadSays s w w (Err NoRoom)
    text-roomless h =
        let lacks : lacks_room s w ≡ true = rw (le-leb (length s) max_bytes short, lt-ltb (length w) (length s + spare_words) h) in
        answers (sym (pick_true (Err 13) (reading_of (read_text s)) lacks)) (sym (pick_true w (over (words_read (read_text s).read) w) lacks))

    module _ (room : length s + spare_words ≤ length w) {e : ℕ} (end : PartEnd line_end s 0 e) where
      roomy : lacks_room s w ≡ false
      roomy = rw (le-leb (length s) max_bytes short, le-ltb (length w) (length s + spare_words) room)

      lines : read_text s ≡ read_top (take e s ∷ parts_from line_end s (e + 1))
      unfolding read_text
      lines =
          let all : e - 0 ≡ e = omega arith in
          pick-false (ended 17 nothing) (read_top (lines_of s)) (le-ltb max_bytes (length s) short)
          ∙ ap read_top (sym (parts_from-all line_end s) ∙ end.parts ∙ ap (λ (k : ℕ). take k s ∷ parts_from line_end s (e + 1)) all)

      pub text-unended : e ≡ length s → ReadSays s w w (Err of_text.Malformed)
      text-unended h =
          says (ended 15 nothing) roomy
          (lines ∙ ap (λ (ls : List (List ℕ)). read_top (take e s ∷ ls)) (parts_from-beyond line_end s (e + 1) (omega arith)) ∙ read_top-unended (take e s))
          refl refl

      module _ (inside : e ≡ length s → ⊥) {top : Result ℕ NamesRefusal} (is : top ≡ top_of (take e s)) (number : names_number top ≡ top_check (take e s)) where
        more : 1 ≤ length (parts_from line_end s (e + 1))
        more = parts_from-some line_end s (e + 1) (omega (arith, end.within))

        pub text-refused : {r : NamesRefusal} → top ≡ Err r → ReadSays s w w (Err (of_names r))
        text-refused {r} err =
            let l = take e s in
            let is_number : refusal_number (of_names r) ≡ top_check l = names-refusal r ∙ ap names_number (sym err) ∙ number in
            let no : top_check l ≡ 0 → ⊥ = λ z. names-some r (is_number ∙ z) in
            says (ended (top_check l) nothing) roomy (lines ∙ read_top-refused l (parts_from line_end s (e + 1)) more no)
            (ap Err is_number ∙ sym (pick-false (Ok 0) (Err (top_check l)) (ne_eqb (top_check l) 0 no)))
            refl

        module _ {n : ℕ} (right : top ≡ Ok n) where
          passed : top_check (take e s) ≡ 0
          passed = sym number ∙ ap names_number right

          pub text-asks : LinesAsk s e n w
          text-asks =
              let names : n ≡ length (fields_of (take e s)) = (names_in-names max_attributes (take e s) (sym is ∙ right)).count in
              record {
                short = short;
                within = omega (arith, end.within);
                roomy = room;
                names = names;
                few = omega (arith, names, (top_check-names (take e s) passed).few);
              }

          module _ {w' : List ℕ} {x : Result Progress TextRefusal} (said : LinesSay s e w w' x) where
            whole : read_text s ≡ said.end
            whole = lines ∙ read_top-more (take e s) (parts_from line_end s (e + 1)) more passed ∙ sym said.is

            pub text-stopped : {r : TextRefusal} → x ≡ Err r → ReadSays s w w' (Err r)
            text-stopped {r} err =
                let end = said.end in
                let is_number : refusal_number r ≡ end.number = ap passed_number (sym err) ∙ said.number in
                let no : end.number ≡ 0 → ⊥ = λ z. refusal-some r (is_number ∙ z) in
                says end roomy whole
                (ap Err is_number ∙ sym (pick-false (Ok (length (words_read end.read))) (Err end.number) (ne_eqb end.number 0 no)))
                said.front

            pub text-read : {p : Progress} → x ≡ Ok p → ReadSays s w w' (Ok p.words)
            text-read {p} ok =
                let end = said.end in
                says end roomy whole
                (ap Ok (said.words p ok)
                ∙ sym (pick_true (Ok (length (words_read end.read))) (Err end.number) (eq-eqb end.number 0 (sym said.number ∙ ap passed_number ok))))
                said.front
