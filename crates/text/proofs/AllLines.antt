-- The lines after the top line, one after the other.
--   read_lines-end, read_lines-refused, read_lines-more == what follows the last line's end; a line that is refused, one that passes
--   length_part, parts_from-some == how long a part is; from within a text there is a part
--   Reaches s top v w p at  == the lines up to a place were read, and those from there on are read as the whole
--   lines_start, lines-safe, lines_end, lines-refused, lines_more == at the start; there is room for the next line; the end, by one line's refusal too;
--                                 one line more
use mathlib.Core.Path.{◌≡◌, refl, sym, ap, ◌∙◌, subst}
use mathlib.Core.Bool.{Bool, true, false, true≢false, ◌&&◌}
use Rattle.boxes.specs.Intervals.{pick}
use mathlib.Core.List.{List, [], ◌∷◌}
use Prim.Native.Nat.{ℕ, ◌+◌, ◌-◌, ◌≤◌}
use native.Mathlib.Omega.{arith}
use borrow.Author.Tests.{eq-eqb, ne_eqb, le-leb}
use lib.Dec.{eqb}
use lib.ListN.{length, take, drop, length-drop}
use lib.Seq.{length-take-le}
use Rattle.fields.specs.Fields.{line_end, space}
use Rattle.fields.specs.Names.{form}
use Rattle.fields.specs.Parts.{part, parts_from, PartEnd}
use Rattle.fields.proofs.Laws.{split-some, parts_from-beyond}
use Rattle.text.specs.Texts.{Read, ended, is_empty, may_end, line_check, line_add, read_lines, top_read}
use Rattle.text.specs.Progressing.{Stands, Safe, WordsBounded, start_of}
use Rattle.text.specs.Reads.{TakeSays, LinesAsk, LinesSay, progress_after, read_after, text_end}
use Rattle.text.specs.Refusals.{refusal_number, passed_number}
use Rattle.text.specs.declared.reader.Next.{Next}
use Rattle.text.specs.declared.reader.Next.TheVariants.{Widths, Names}
use Rattle.text.specs.declared.reader.Progress.{Progress}
use Rattle.std.specs.Prelude.{Result, Ok, Err, is_ok}
use Rattle.text.specs.declared.refusal.TextRefusal.{TextRefusal}
use Rattle.text.specs.declared.refusal.TextRefusal.TheVariants.{Malformed}
use Rattle.text.proofs.Nexts.{next-other}
use Rattle.text.proofs.Steps.{refusal-some, pick_true, pick-false, grown-none}
use Rattle.text.proofs.Standing.{stands-start}

module _ (r : Read) (l : List ℕ) where
  read_lines-end : read_lines r (l ∷ []) ≡ ended (form (is_empty l && may_end r.next)) r
  unfolding read_lines
  read_lines-end = refl

  read_lines-refused : (ls : List (List ℕ)) → 1 ≤ length ls → (line_check r l ≡ 0 → ⊥) → read_lines r (l ∷ ls) ≡ ended (line_check r l) r
  unfolding read_lines
  read_lines-refused [] some n = absurd (omega arith)
  read_lines-refused (m ∷ ls) some n = pick-false (read_lines (line_add r l) (m ∷ ls)) (ended (line_check r l) r) (ne_eqb (line_check r l) 0 n)

  read_lines-more : (ls : List (List ℕ)) → 1 ≤ length ls → line_check r l ≡ 0 → read_lines r (l ∷ ls) ≡ read_lines (line_add r l) ls
  unfolding read_lines
  read_lines-more [] some e = absurd (omega arith)
  read_lines-more (m ∷ ls) some e = pick_true (read_lines (line_add r l) (m ∷ ls)) (ended (line_check r l) r) (eq-eqb (line_check r l) 0 e)

length_part : (a e : ℕ) (s : List ℕ) → e ≤ length s → length (part a e s) ≡ e - a
length_part a e s h = length-take-le (e - a) (drop a s) (omega (arith, length-drop a s))

pub parts_from-some : (c : ℕ) (s : List ℕ) (at : ℕ) → at ≤ length s → 1 ≤ length (parts_from c s at)
unfolding parts_from
parts_from-some c s at h = rw (le-leb at (length s) h) (split-some c (drop at s))

-- nothing was read but the names at the top

pub record Reaches (s : List ℕ) (top : ℕ) (v w : List ℕ) (p : Progress) (at : ℕ) : Type 0 where
  pub read : Read
  pub stands : Stands (take top s) read p v w
  pub grown : WordsBounded p at
  pub within : at ≤ length s
  pub long : length w ≡ length v
  pub rest : read_lines (top_read (take top s)) (parts_from line_end s (top + 1)) ≡ read_lines read (parts_from line_end s at)

-- b: nothing follows the last line's end, and no line is missing
end-number : (b : Bool) (p : Progress) → passed_number {A = Progress} (pick b (Ok p) (Err Malformed)) ≡ form b
end-number true p = refl
end-number false p = refl

err-ok : {y : TextRefusal} {q : Progress} → ◌≡◌ {A = Result Progress TextRefusal} (Err y) (Ok q) → ⊥
err-ok e = true≢false (sym (ap is_ok e))

end-progress : (b : Bool) (p q : Progress) → pick b (Ok p) (Err Malformed) ≡ Ok q → q ≡ p
end-progress true p q e = sym (ap (progress_after p) e)
end-progress false p q e = absurd (err-ok e)

module _ {s : List ℕ} {top n : ℕ} {v : List ℕ} (ask : LinesAsk s top n v) where
  pub lines_start : {p : Progress} → p ≡ start_of n → Reaches s top v v p (top + 1)
  lines_start e = subst (λ (p : Progress). Reaches s top v v p (top + 1)) (sym e) (record {
    read = top_read (take top s);
    stands = stands-start (take top s) v n ask.names (omega (arith, ask.names, split-some space (take top s)));
    grown = grown-none Widths n 0 (top + 1) (next-other Widths Names refl) ask.few (omega arith);
    within = omega (arith, ask.within);
    long = refl;
    rest = refl;
  })

  module _ {w : List ℕ} {p : Progress} {at e : ℕ} (so : Reaches s top v w p at) (end : PartEnd line_end s at e) where
    pub lines-safe : Safe p (part at e s) w
    lines-safe =
        let g = so.grown in
        let long = length_part at e s end.within in
        record {
          few = g.few;
          arity = g.arity;
          tables = g.tables;
          rows = omega (arith, g.rows, so.within, ask.short);
          counted = omega (arith, g.few, so.long, ask.roomy);
          counter = omega (arith, g.counter, g.words, g.tables, so.within, so.long, ask.roomy);
          room = omega (arith, long, end.after, end.within, g.words, g.tables, so.long, ask.roomy);
          line = omega (arith, long, end.within, ask.short);
        }

    pub lines_end : {x : Result Progress TextRefusal} → e ≡ length s → x ≡ text_end (e - at) p → LinesSay s top v w x
    lines_end {x} all is =
        let r = so.read in
        let l = part at e s in
        let none : parts_from line_end s (e + 1) ≡ [] = parts_from-beyond line_end s (e + 1) (omega arith) in
        let parts : parts_from line_end s at ≡ l ∷ [] = end.parts ∙ ap (λ (ls : List (List ℕ)). l ∷ ls) none in
        let ends = ended (form (is_empty l && may_end r.next)) r in
        record {
          end = ends;
          is = sym (so.rest ∙ ap (read_lines r) parts ∙ read_lines-end r l);
          number = ap passed_number is ∙ end-number (eqb (e - at) 0 && may_end p.next) p
              ∙ ap (λ (k : ℕ). form (eqb k 0 && may_end p.next)) (sym (length_part at e s end.within))
              ∙ ap (λ (m : Next). form (is_empty l && may_end m)) so.stands.next;
          words = λ q ok. ap (λ (y : Progress). y.words) (end-progress (eqb (e - at) 0 && may_end p.next) p q (sym is ∙ ok)) ∙ so.stands.words;
          front = so.stands.front;
        }

    module _ (inside : e ≡ length s → ⊥) {w' : List ℕ} {x : Result Progress TextRefusal} (says : TakeSays (take top s) (part at e s) w w' p x) where
      number_is : passed_number x ≡ line_check so.read (part at e s)
      number_is = (says.taken so.read v so.stands).number

      more : 1 ≤ length (parts_from line_end s (e + 1))
      more = parts_from-some line_end s (e + 1) (omega (arith, end.within))

      after : (r : Read) → read_after so.read (part at e s) ≡ r → Stands (take top s) r (progress_after p x) v w'
      after r is = subst (λ (y : Read). Stands (take top s) y (progress_after p x) v w') is (says.taken so.read v so.stands).stands

      pub lines-refused : {y : TextRefusal} → x ≡ Err y → LinesSay s top v w' (Err y)
      lines-refused {y} err =
          let r = so.read in
          let l = part at e s in
          let number : refusal_number y ≡ line_check r l = ap passed_number (sym err) ∙ number_is in
          let no : line_check r l ≡ 0 → ⊥ = λ z. refusal-some y (number ∙ z) in
          let stays = after r (pick-false (line_add r l) r (ne_eqb (line_check r l) 0 no)) in
          record {
            end = ended (line_check r l) r;
            is = sym (so.rest ∙ ap (read_lines r) end.parts ∙ read_lines-refused r l (parts_from line_end s (e + 1)) more no);
            number = number;
            words = λ q ok. absurd (err-ok ok);
            front = stays.front;
          }

      pub lines_more : {q : Progress} → x ≡ Ok q → length w' ≡ length w → Reaches s top v w' q (e + 1)
      lines_more {q} ok long =
          let r = so.read in
          let l = part at e s in
          let passed : line_check r l ≡ 0 = sym number_is ∙ ap passed_number ok in
          let place : at + length l + 1 ≡ e + 1 = omega (arith, length_part at e s end.within, end.after) in
          let now : progress_after p x ≡ q = ap (progress_after p) ok in
          record {
            read = line_add r l;
            stands = subst (λ (y : Progress). Stands (take top s) (line_add r l) y v w') now (after (line_add r l) (pick_true (line_add r l) r (eq-eqb (line_check r l) 0 passed)));
            grown = subst (λ (y : Progress). WordsBounded y (e + 1)) now (subst (λ (k : ℕ). WordsBounded (progress_after p x) k) place (says.grown at so.grown));
            within = omega (arith, end.within);
            long = long ∙ so.long;
            rest = so.rest ∙ ap (read_lines r) end.parts ∙ read_lines-more r l (parts_from line_end s (e + 1)) more passed;
          }
