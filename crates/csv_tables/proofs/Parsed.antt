-- What is read was written by the grammar.
--   Before fs p       == p is written for fields, each with its comma
--   Open m fs f q     == q was read of a record: fields fs, and in the mode m the field f so far
--   Step v fs f q b   == what is then known after one byte more, by what it does
--   open-move         == each move keeps that
--   file-parsed       == what is read as records was written for them
--   reads             == a file is read as records exactly if it is written for them
use mathlib.Core.Path.{◌≡◌, refl, sym, ap, ap₂, subst, ◌∙◌}
use mathlib.Core.Bool.{true, ◌||◌}
use mathlib.Core.List.{List, [], ◌∷◌, ◌++◌, append-nil, append_assoc}
use Prim.Native.Nat.{ℕ}
use native.Mathlib.Omega.{arith}
use borrow.Author.Tests.{eq-eqb}
use lib.Dec.{eqb}
use lib.Seq.{append_snoc}
use Rattle.boxes.specs.Fits.{Each, none, more}
use Rattle.boxes.proofs.Tests.{or_left, or_right}
use Rattle.boxes.proofs.Lists.{each-end}
use Rattle.csv_tables.specs.Records.{comma, quote, carriage, feed, is_text, kind_of, Mode, start, plain, quoted, closing, ending, Move, keep, skip, cut, line, stop, move, Records, ended, broken, next, records_from, records_of, follow, record_list}
use Rattle.csv_tables.specs.declared.field.Kind.{Kind}
use Rattle.csv_tables.specs.declared.field.Kind.TheVariants.{Text, Comma, Quote, Return, Feed, Other}
use Rattle.csv_tables.specs.Grammar.{is_quotable, InQuotes, empty, byte, doubled, FieldWritten, bare, escaped, RecordWritten, one, many, FileWritten, unended, line_ended, and_then, Reads}
use Rattle.csv_tables.proofs.Lines.{from-keep, from-skip, from_cut, from-line, from-stop, follow-none}
use Rattle.csv_tables.proofs.ByteKinds.{Kinded, kind-is}
use Rattle.csv_tables.proofs.Taking.{by_move}
use Rattle.csv_tables.proofs.Written.{file-reads}

-- ---- what was read

quotes-end : {f w : List ℕ} (b : ℕ) → is_quotable b ≡ true → InQuotes f w → InQuotes (f ++ (b ∷ [])) (w ++ (b ∷ []))
quotes-end b t empty = byte t empty
quotes-end b t (byte u r) = byte u (quotes-end b t r)
quotes-end b t (doubled r) = doubled (quotes-end b t r)

quotes-doubled : {f w : List ℕ} → InQuotes f w → InQuotes (f ++ (quote ∷ [])) (w ++ (quote ∷ (quote ∷ [])))
quotes-doubled empty = doubled empty
quotes-doubled (byte u r) = byte u (quotes-doubled r)
quotes-doubled (doubled r) = doubled (quotes-doubled r)

record Before (fs : List (List ℕ)) (p : List ℕ) : Type 0 where
  goes : (gs : List (List ℕ)) (w : List ℕ) → RecordWritten gs w → RecordWritten (fs ++ gs) (p ++ w)

-- the open field's bytes w, by mode
data OpenField : Mode → List ℕ → List ℕ → Type 0 where
  fresh : OpenField start [] []
  texts : {f : List ℕ} → Each (λ b. is_text b ≡ true) f → OpenField plain f f
  within : {f w : List ℕ} → InQuotes f w → OpenField quoted f (quote ∷ w)
  after : {f w : List ℕ} → InQuotes f w → OpenField closing f (quote ∷ (w ++ (quote ∷ [])))
  returned : {f w : List ℕ} → FieldWritten f w → OpenField ending f (w ++ (carriage ∷ []))

record Open (m : Mode) (fs : List (List ℕ)) (f q : List ℕ) : Type 0 where
  front : List ℕ
  field : List ℕ
  before : Before fs front
  open-field : OpenField m f field
  is : q ≡ front ++ field

-- a record and its line's end
record Line (fs : List (List ℕ)) (q : List ℕ) : Type 0 where
  bytes : List ℕ
  written : RecordWritten fs bytes
  is : q ≡ bytes ++ (carriage ∷ (feed ∷ []))

abbrev Step : Move → List (List ℕ) → List ℕ → List ℕ → ℕ → Type 0
Step (keep n) fs f q b = Open n fs (f ++ (b ∷ [])) (q ++ (b ∷ []))
Step (skip n) fs f q b = Open n fs f (q ++ (b ∷ []))
Step cut fs f q b = Open start (fs ++ (f ∷ [])) [] (q ++ (b ∷ []))
Step line fs f q b = Line (fs ++ (f ∷ [])) (q ++ (b ∷ []))
Step stop fs f q b = ℕ

-- ---- one byte more

module _ {fs : List (List ℕ)} {p : List ℕ} (front : Before fs p) where
  -- the open field goes on
  goes_on : {n : Mode} {f v q : List ℕ} (b : ℕ) (w : List ℕ) → q ≡ p ++ w → v ≡ w ++ (b ∷ []) → OpenField n f v → Open n fs f (q ++ (b ∷ []))
  goes_on {v = v} b w e d o = record {
    front = p;
    field = v;
    before = front;
    open-field = o;
    is = rw e (append_assoc p w (b ∷ []) ∙ ap (λ (l : List ℕ). p ++ l) (sym d));
  }

  -- the field ends with a comma
  cuts : {f w q : List ℕ} (b : ℕ) → b ≡ comma → q ≡ p ++ w → FieldWritten f w → Open start (fs ++ (f ∷ [])) [] (q ++ (b ∷ []))
  cuts {f} {w} {q} b c e t = record {
    front = q ++ (b ∷ []);
    field = [];
    before = record {
      goes = λ gs v r.
          let whole : RecordWritten (fs ++ (f ∷ gs)) (p ++ (w ++ (comma ∷ v))) = front.goes (f ∷ gs) (w ++ (comma ∷ v)) (many t r) in
          let bytes : (q ++ (b ∷ [])) ++ v ≡ p ++ (w ++ (comma ∷ v)) = append_snoc q b v ∙ ap₂ (λ (l : List ℕ) (x : ℕ). l ++ (x ∷ v)) e c ∙ append_assoc p w (comma ∷ v) in
          rw (append_snoc fs f gs, bytes) whole;
    };
    open-field = fresh;
    is = sym (append-nil (q ++ (b ∷ [])));
  }

  -- the record's fields, the last one too
  last-field : {f w : List ℕ} → FieldWritten f w → RecordWritten (fs ++ (f ∷ [])) (p ++ w)
  last-field {f} {w} t = front.goes (f ∷ []) w (one t)

  ends-line : {f w q : List ℕ} (b : ℕ) → b ≡ feed → q ≡ p ++ (w ++ (carriage ∷ [])) → FieldWritten f w → Line (fs ++ (f ∷ [])) (q ++ (b ∷ []))
  ends-line {f} {w} {q} b c e t = record {
    bytes = p ++ w;
    written = last-field t;
    is = ap₂ (λ (l : List ℕ) (x : ℕ). l ++ (x ∷ [])) e c ∙ simp append_assoc;
  }

text-quotable : (b : ℕ) → is_text b ≡ true → is_quotable b ≡ true
unfolding is_quotable
text-quotable b t = or_left (eqb b comma || (eqb b carriage || eqb b feed)) t

comma-quotable : (b : ℕ) → b ≡ comma → is_quotable b ≡ true
unfolding is_quotable
comma-quotable b e = or_right (is_text b) (or_left (eqb b carriage || eqb b feed) (eq-eqb b comma e))

carriage-quotable : (b : ℕ) → b ≡ carriage → is_quotable b ≡ true
unfolding is_quotable
carriage-quotable b e = or_right (is_text b) (or_right (eqb b comma) (or_left (eqb b feed) (eq-eqb b carriage e)))

feed-quotable : (b : ℕ) → b ≡ feed → is_quotable b ≡ true
unfolding is_quotable
feed-quotable b e = or_right (is_text b) (or_right (eqb b comma) (or_right (eqb b carriage) (eq-eqb b feed e)))

module _ {fs : List (List ℕ)} {p q : List ℕ} (front : Before fs p) (b : ℕ) where
  -- within quotes
  keeps-quoted : {f w : List ℕ} → is_quotable b ≡ true → q ≡ p ++ (quote ∷ w) → InQuotes f w → Open quoted fs (f ++ (b ∷ [])) (q ++ (b ∷ []))
  keeps-quoted {w = w} t e r = goes_on front b (quote ∷ w) e refl (within (quotes-end b t r))

  -- CR after a field
  returns-from : {f w : List ℕ} → b ≡ carriage → q ≡ p ++ w → FieldWritten f w → Open ending fs f (q ++ (b ∷ []))
  returns-from {f} {w} c e t = goes_on front b w e (ap (λ (x : ℕ). w ++ (x ∷ [])) (sym c)) (returned t)

  field-move : {m : Mode} {f w : List ℕ} (k : Kind) → Kinded b k → q ≡ p ++ w → OpenField m f w → Step (move m k) fs f q b
  field-move Text c e fresh = goes_on front b [] e refl (texts (more c none))
  field-move Comma c e fresh = cuts front b c e (bare none)
  field-move Quote c e fresh = goes_on front b [] e (ap (λ (x : ℕ). x ∷ []) (sym c)) (within empty)
  field-move Return c e fresh = returns-from c e (bare none)
  field-move Feed c e fresh = 0
  field-move Other c e fresh = 0
  field-move Text c e (texts {f = f} r) = goes_on front b f e refl (texts (each-end r c))
  field-move Comma c e (texts r) = cuts front b c e (bare r)
  field-move Quote c e (texts r) = 0
  field-move Return c e (texts r) = returns-from c e (bare r)
  field-move Feed c e (texts r) = 0
  field-move Other c e (texts r) = 0
  field-move Text c e (within r) = keeps-quoted (text-quotable b c) e r
  field-move Comma c e (within r) = keeps-quoted (comma-quotable b c) e r
  field-move Quote c e (within {w = w} r) = goes_on front b (quote ∷ w) e (ap (λ (x : ℕ). quote ∷ (w ++ (x ∷ []))) (sym c)) (after r)
  field-move Return c e (within r) = keeps-quoted (carriage-quotable b c) e r
  field-move Feed c e (within r) = keeps-quoted (feed-quotable b c) e r
  field-move Other c e (within r) = 0
  field-move Text c e (after r) = 0
  field-move Comma c e (after r) = cuts front b c e (escaped r)
  field-move Quote c e (after {f = f} {w = w} r) =
      subst (λ (x : ℕ). Open quoted fs (f ++ (x ∷ [])) (q ++ (b ∷ []))) (sym c)
      (goes_on front b (quote ∷ (w ++ (quote ∷ []))) e (ap (λ (l : List ℕ). quote ∷ l) (sym (append_assoc w (quote ∷ []) (b ∷ []) ∙ ap (λ (x : ℕ). w ++ (quote ∷ (x ∷ []))) c))) (within (quotes-doubled r)))
  field-move Return c e (after r) = returns-from c e (escaped r)
  field-move Feed c e (after r) = 0
  field-move Other c e (after r) = 0
  field-move Text c e (returned r) = 0
  field-move Comma c e (returned r) = 0
  field-move Quote c e (returned r) = 0
  field-move Return c e (returned r) = 0
  field-move Feed c e (returned r) = ends-line front b c e r
  field-move Other c e (returned r) = 0

open-move : {m : Mode} {fs : List (List ℕ)} {f q : List ℕ} (b : ℕ) → Open m fs f q → Step (move m (kind_of b)) fs f q b
open-move b o = field-move o.before b (kind_of b) (kind-is b) o.is o.open-field

-- ---- the end, and the file

list-none : (rs : List (List (List ℕ))) → ended ≡ record_list rs → rs ≡ []
unfolding record_list
list-none [] e = refl
list-none (r ∷ rs) e = let z : ◌≡◌ {A = ℕ} 0 1 = cc in absurd (omega arith)

list-not : {A : Type 0} (rs : List (List (List ℕ))) → broken ≡ record_list rs → A
unfolding record_list
list-not [] e = let z : ◌≡◌ {A = ℕ} 0 1 = cc in absurd (omega arith)
list-not (r ∷ rs) e = let z : ◌≡◌ {A = ℕ} 0 1 = cc in absurd (omega arith)

record Listing (fs : List (List ℕ)) (r : Records) (rs : List (List (List ℕ))) : Type 0 where
  rest : List (List (List ℕ))
  is : rs ≡ fs ∷ rest
  read : r ≡ record_list rest

list-next : {fs : List (List ℕ)} {r : Records} (rs : List (List (List ℕ))) → next fs r ≡ record_list rs → Listing fs r rs
unfolding record_list
list-next [] e = let z : ◌≡◌ {A = ℕ} 0 1 = cc in absurd (omega arith)
list-next {fs} {r} (g ∷ rs) e =
    let same : g ≡ fs = cc in
    record { rest = rs; is = ap (λ (h : List (List ℕ)). h ∷ rs) same; read = cc }

only : {fs : List (List ℕ)} (rs : List (List (List ℕ))) {w : List ℕ} → RecordWritten fs w → next fs ended ≡ record_list rs → FileWritten rs w
only rs t e =
    let l = list-next rs e in
    rw (l.is, list-none l.rest l.read) (unended t)

field-ends : {m : Mode} {fs : List (List ℕ)} {f p q w : List ℕ} → Before fs p → q ≡ p ++ w → OpenField m f w → (rs : List (List (List ℕ))) → records_from m fs f [] ≡ record_list rs → FileWritten rs q
unfolding records_from
field-ends front e fresh rs d = rw e (only rs (last-field front (bare none)) d)
field-ends front e (texts r) rs d = rw e (only rs (last-field front (bare r)) d)
field-ends front e (within r) rs d = list-not rs d
field-ends front e (after r) rs d = rw e (only rs (last-field front (escaped r)) d)
field-ends front e (returned r) rs d = list-not rs d

open-new : Open start [] [] []
open-new = record { front = []; field = []; before = record { goes = λ gs w r. r }; open-field = fresh; is = refl }

follow-more : (b : ℕ) (s : List ℕ) → follow (b ∷ s) ≡ records_of (b ∷ s)
unfolding follow
follow-more b s = refl

line-bytes : (w s : List ℕ) {q : List ℕ} → q ≡ w ++ (carriage ∷ (feed ∷ [])) → q ++ s ≡ w ++ (carriage ∷ (feed ∷ s))
line-bytes w s e = rw e (append_assoc w (carriage ∷ (feed ∷ [])) s)

-- a line, and nothing or a file after it
then-file : {fs : List (List ℕ)} {q : List ℕ} (s : List ℕ) → Line fs q → (rs : List (List (List ℕ))) → next fs (follow s) ≡ record_list rs
    → ((us : List (List (List ℕ))) → records_of s ≡ record_list us → FileWritten us s) → FileWritten rs (q ++ s)
then-file [] l rs e f =
    let k = list-next rs e in
    rw (k.is, list-none k.rest (sym follow-none ∙ k.read), line-bytes l.bytes [] l.is) (line_ended l.written)
then-file (c ∷ s) l rs e f =
    let k = list-next rs e in
    rw (k.is, line-bytes l.bytes (c ∷ s) l.is) (and_then {v = c ∷ s} l.written (omega arith) (f k.rest (sym (follow-more c s) ∙ k.read)))

parsed : (m : Mode) (fs : List (List ℕ)) (f q s : List ℕ) → Open m fs f q → (rs : List (List (List ℕ))) → records_from m fs f s ≡ record_list rs → FileWritten rs (q ++ s)
parsed m fs f q [] o rs e = rw (append-nil q) (field-ends o.before o.is o.open-field rs e)
parsed m fs f q (b ∷ s) o rs e =
    let step : Step (move m (kind_of b)) fs f q b = open-move b o in
    let bytes : (q ++ (b ∷ [])) ++ s ≡ q ++ (b ∷ s) = append_snoc q b s in
    by_move (move m (kind_of b))
    (λ n v. rw bytes at (parsed n fs (f ++ (b ∷ [])) (q ++ (b ∷ [])) s (subst (λ (x : Move). Step x fs f q b) v step) rs (sym (from-keep m b fs f s v) ∙ e)))
    (λ n v. rw bytes at (parsed n fs f (q ++ (b ∷ [])) s (subst (λ (x : Move). Step x fs f q b) v step) rs (sym (from-skip m b fs f s v) ∙ e)))
    (λ v. rw bytes at (parsed start (fs ++ (f ∷ [])) [] (q ++ (b ∷ [])) s (subst (λ (x : Move). Step x fs f q b) v step) rs (sym (from_cut m b fs f s v) ∙ e)))
    (λ v. rw bytes at (then-file s (subst (λ (x : Move). Step x fs f q b) v step) rs (sym (from-line m b fs f s v) ∙ e) (λ us d. parsed start [] [] [] s open-new us d)))
    (λ v. list-not rs (sym (from-stop m b fs f s v) ∙ e))

pub file-parsed : (rs : List (List (List ℕ))) (s : List ℕ) → records_of s ≡ record_list rs → FileWritten rs s
file-parsed rs s e = parsed start [] [] [] s open-new rs e

pub reads : Reads
reads rs s = (λ w. file-reads w, λ e. file-parsed rs s e)
