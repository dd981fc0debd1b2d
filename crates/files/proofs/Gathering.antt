-- Files gathered one after the other: how `gather` goes on from file to file.
--   SoFar l s n es w size a i == the first i files are gathered, and the next one begins at a: their tables, the size of the question with them, and where
--                          they stand among the words w, if there are not too many
--   gather-turn, gather-end == the definition at a further file, and behind the last
--   tables_end           == the words of one table more
--   placed-stands        == it stands behind the others
--   so-far-start, end_refused, file-refused, file-taken, all-taken == before the first file; a wrong end; a refused file; a file taken; after the last
use mathlib.Core.Path.{◌≡◌, refl, sym, ap, ◌∙◌, subst}
use mathlib.Core.Bool.{true, ◌||◌}
use mathlib.Core.Logic.{◌⊎◌, inl, inr}
use mathlib.Core.List.{List, [], ◌∷◌, ◌++◌, append_assoc, map, map-append}
use Prim.Native.Nat.{ℕ, suc, ◌+◌, ◌*◌, ◌≤◌, ◌<◌}
use native.Mathlib.Nat.{suc-mul}
use native.Mathlib.Omega.{arith}
use borrow.Author.Tests.{lt-ltb, le-ltb, le-leb, leb-true}
use lib.Dec.{eqb, ltb, leb}
use lib.ListN.{length, get_or, take, drop, length-append, length-drop, take-append-drop, drop_of_length-le}
use lib.Seq.{drop-cons, take_at, drop_at, length-take-le}
use Rattle.boxes.specs.Limits.{max_attributes}
use Rattle.boxes.specs.Intervals.{pick}
use Rattle.boxes.proofs.Tests.{by, or_left, or_right}
use Rattle.boxes.proofs.Lists.{length-end}
use Rattle.questions.specs.Limits.{max_words}
use Rattle.questions.specs.Questions.{Table}
use Rattle.questions.specs.Words.{flat, over, table_words}
use Rattle.questions.proofs.Laws.{flat-none, flat-end}
use Rattle.fields.proofs.Laws.{over-long, top_check-names}
use Rattle.std.specs.Prelude.{Some, None, Ok, Err}
use Rattle.csv_tables.specs.Imports.{Imported, imported, import_csv}
use Rattle.csv_tables.specs.declared.refusal.Refused.{Refused}
use Rattle.fields.specs.Parts.{part}
use Rattle.files.specs.Gathers.{refused_at, gathered, end_check, then_table, gather_from}
use Rattle.files.specs.Parts.{tables_words, first_words, TablesStand, placed, FilePut, GatherAsk, GatherSays}
use Rattle.files.specs.Refusals.{in_file}
use Rattle.files.specs.declared.refusal.JoinRefused.{JoinRefused}
use Rattle.files.specs.declared.refusal.JoinRefusal.TheVariants.{End}

-- ---- the definition

pub gather-turn : (l s : List ℕ) (a : ℕ) (ts : List Table) (e : ℕ) (es : List ℕ)
    → gather_from l s a ts (e ∷ es) ≡ pick (eqb (end_check s a e) 0)
    (then_table (import_csv l (part a e s)) (length ts + 1) (λ t. gather_from l s e (ts ++ (t ∷ [])) es))
    (refused_at (end_check s a e) (length ts + 1) 0)
unfolding gather_from
gather-turn l s a ts e es = refl

pub gather-end : (l s : List ℕ) (a : ℕ) (ts : List Table) → gather_from l s a ts [] ≡ gathered ts
unfolding gather_from
gather-end l s a ts = refl

tables-none : tables_words [] ≡ []
tables-none = flat-none

tables_end : (ts : List Table) (t : Table) → tables_words (ts ++ (t ∷ [])) ≡ tables_words ts ++ table_words t
tables_end ts t = ap flat (map-append table_words ts (t ∷ [])) ∙ flat-end (map table_words ts) (table_words t)

-- ---- a table behind the others

placed-stands : {n size : ℕ} {ts : List Table} {w : List ℕ} (t : Table) → TablesStand n ts w → size ≡ first_words n + length (tables_words ts)
    → TablesStand n (ts ++ (t ∷ [])) (take size w ++ over (table_words t) (drop size w))
placed-stands {n} {size} {ts} {w} t s e =
    let front = s.front in
    let before : List ℕ = front ++ tables_words ts in
    let split : w ≡ before ++ s.back = s.is ∙ sym (append_assoc front (tables_words ts) s.back) in
    let long : length before ≡ size = omega (arith, length-append front (tables_words ts), s.long, e) in
    let taken : take size w ≡ before = ap (take size) split ∙ take_at before s.back size long in
    let left : drop size w ≡ s.back = ap (drop size) split ∙ drop_at before s.back size long in
    let later : List ℕ = drop (length (table_words t)) s.back in
    record {
      front = front;
      back = later;
      long = s.long;
      is =
          ap (λ (p : List ℕ). p ++ over (table_words t) (drop size w)) taken ∙ ap (λ (q : List ℕ). before ++ over (table_words t) q) left
          ∙ append_assoc front (tables_words ts) (table_words t ++ later)
          ∙ ap (λ (q : List ℕ). front ++ q) (sym (append_assoc (tables_words ts) (table_words t) later) ∙ ap (λ (q : List ℕ). q ++ later) (sym (tables_end ts t)));
    }

length-placed : (t : Table) (size : ℕ) (w : List ℕ) → length (placed (imported t) size w) ≡ length w
length-placed t size w =
    by (leb (size + length (table_words t)) (length w))
    (λ y. rw y (let room : size + length (table_words t) ≤ length w = leb-true _ _ y in let rest : length (table_words t) ≤ length (drop size w) = omega (arith, length-drop size w) in
    omega (arith, length-append (take size w) (over (table_words t) (drop size w)), over-long (table_words t) (drop size w) rest, length-drop size w, length-take-le size w (omega arith))))
    (λ n. rw n refl)

-- ---- from file to file

pub record SoFar (l s : List ℕ) (n : ℕ) (es w : List ℕ) (size a i : ℕ) : Type 0 where
  pub tables : List Table
  pub count : length tables ≡ i
  pub most : i ≤ length es
  pub goes_on : gather_from l s 0 [] es ≡ gather_from l s a tables (drop i es)
  pub within : a ≤ length s
  pub size_is : size ≡ first_words n + length (tables_words tables)
  pub long : length w ≡ max_words
  pub stand : size ≤ max_words → TablesStand n tables w
  pub bounded : size ≤ first_words n + i * 4294967295

pub so-far-start : {l : List ℕ} (s : List ℕ) {n : ℕ} {es w : List ℕ} → GatherAsk l n es w → SoFar l s n es w (n + 2) 0 0
so-far-start {l} s {n} {es} {w} ask =
    let few : n ≤ max_attributes = omega (arith, ask.dimension, (top_check-names l ask.named).few) in
    let room : first_words n ≤ length w = omega (arith, ask.long, few) in
    record {
      tables = [];
      count = refl;
      most = omega arith;
      goes_on = refl;
      within = omega arith;
      size_is = omega (arith, ap length tables-none);
      long = ask.long;
      stand =
          λ h. record {
            front = take (first_words n) w;
            back = drop (first_words n) w;
            long = length-take-le (first_words n) w room;
            is = sym (take-append-drop (first_words n) w) ∙ ap (λ (q : List ℕ). take (first_words n) w ++ (q ++ drop (first_words n) w)) (sym tables-none);
          };
      bounded = omega arith;
    }

-- the definition at the next file
next-file : {l s : List ℕ} {n : ℕ} {es w : List ℕ} {size a i : ℕ} (f : SoFar l s n es w size a i) → i < length es → let e = get_or es i 0 in
    gather_from l s 0 [] es ≡ pick (eqb (end_check s a e) 0)
    (then_table (import_csv l (part a e s)) (i + 1) (λ t. gather_from l s e (f.tables ++ (t ∷ [])) (drop (i + 1) es)))
    (refused_at (end_check s a e) (i + 1) 0)
next-file {l} {s} {n} {es} {w} {size} {a} {i} f more =
    let one : suc i ≡ i + 1 = omega arith in
    f.goes_on ∙ ap (gather_from l s a f.tables) (drop-cons es i 0 more ∙ ap (λ (k : ℕ). get_or es i 0 ∷ drop k es) one) ∙ gather-turn l s a f.tables (get_or es i 0) (drop (i + 1) es)
    ∙ ap (λ (k : ℕ). pick (eqb (end_check s a (get_or es i 0)) 0)
    (then_table (import_csv l (part a (get_or es i 0) s)) (k + 1) (λ t. gather_from l s (get_or es i 0) (f.tables ++ (t ∷ [])) (drop (i + 1) es)))
    (refused_at (end_check s a (get_or es i 0)) (k + 1) 0)) f.count

module _ {l s : List ℕ} {n : ℕ} {es w : List ℕ} {size a i : ℕ} (f : SoFar l s n es w size a i) (more : i < length es) where
  wrong : (length s < get_or es i 0) ⊎ (get_or es i 0 < a) → (ltb (length s) (get_or es i 0) || ltb (get_or es i 0) a) ≡ true
  wrong (inl h) = or_left _ (lt-ltb _ _ h)
  wrong (inr h) = or_right (ltb (length s) (get_or es i 0)) (lt-ltb _ _ h)

  pub end_refused : (w' : List ℕ) → (length s < get_or es i 0) ⊎ (get_or es i 0 < a) → GatherSays (gather_from l s 0 [] es) n w' (Err (record { why = End; file = Some (i + 1); place = None }))
  end_refused w' h = next-file f more ∙ rw (wrong h) refl

  module _ (inside : get_or es i 0 ≤ length s) (onward : a ≤ get_or es i 0) where
    -- the definition at a file whose end is right
    reached : gather_from l s 0 [] es ≡ then_table (import_csv l (part a (get_or es i 0) s)) (i + 1) (λ t. gather_from l s (get_or es i 0) (f.tables ++ (t ∷ [])) (drop (i + 1) es))
    reached = next-file f more ∙ rw (le-ltb (length s) (get_or es i 0) inside, le-ltb (get_or es i 0) a onward) refl

    module _ {w' : List ℕ} where
      pub file-refused : {r : Refused} → FilePut (import_csv l (part a (get_or es i 0) s)) size w w' (Err r)
          → {y : JoinRefused} → y ≡ in_file (i + 1) r → GatherSays (gather_from l s 0 [] es) n w' (Err y)
      file-refused {r} put d = reached ∙ rw (put.made, d) refl

      pub file-taken : {m : ℕ} → FilePut (import_csv l (part a (get_or es i 0) s)) size w w' (Ok m) → m ≤ 4294967295 → SoFar l s n es w' (size + m) (get_or es i 0) (i + 1)
      file-taken {m} put b =
          let t = put.made.0 in
          let e = put.made.1 in
          let ts = f.tables in
          let words : w' ≡ placed (imported t) size w = put.words ∙ ap (λ (x : Imported). placed x size w) e in
          let size_is : size + m ≡ first_words n + length (tables_words (ts ++ (t ∷ []))) =
          omega (arith, f.size_is, put.made.2, ap length (tables_end ts t), length-append (tables_words ts) (table_words t)) in
          record {
            tables = ts ++ (t ∷ []);
            count = length-end ts t ∙ omega (arith, f.count);
            most = omega arith;
            goes_on = reached ∙ rw e refl;
            within = inside;
            size_is = size_is;
            long = ap length words ∙ length-placed t size w ∙ f.long;
            stand =
                λ h.
                let room : size + length (table_words t) ≤ length w = omega (arith, h, put.made.2, f.long) in
                subst (TablesStand n (ts ++ (t ∷ []))) (sym (words ∙ rw (le-leb _ _ room) refl)) (placed-stands t (f.stand (omega (arith, h))) f.size_is);
            bounded = omega (arith, f.bounded, b, suc-mul i 4294967295);
          }

pub all-taken : {l s : List ℕ} {n : ℕ} {es w : List ℕ} {size a i : ℕ} (f : SoFar l s n es w size a i) → length es ≤ i → GatherSays (gather_from l s 0 [] es) n w (Ok size)
all-taken {l} {s} {n} {es} {w} {size} {a} {i} f ended = (
  f.tables,
  f.goes_on ∙ ap (gather_from l s a f.tables) (drop_of_length-le es ended) ∙ gather-end l s a f.tables,
  record {
    size_is = f.size_is;
    long = f.long;
    stand = λ h. f.stand (omega (arith, h, f.size_is));
  },
)
