-- Files gathered one after the other: what the tables that they come to, or the refusal, say of the files.
--   FilesFrom l s a es ts == the files with the ends es, of which the first begins at a, have right ends and are the tables ts
--   RefusedFrom l s n r a es i == of these files the one number i, from 0, is the first that is refused: with n, at the record r
--   Outcome, gather-outcome == gathering comes to the one or to the other
--   files-end, files-count, files-import == an end, the number of tables, an import of such files
--   refused-within, refused-earlier, refused_why == the refused file is one of them; those before it; why it is
--   files-tables, refused-file == from the first byte on
--   check-passed          == a line of names that passed, and the number of files
--   GatheredSo, gathered-so == what all files come to: a refusal of the names or the number of files, of a file, or tables
use mathlib.Core.Path.{◌≡◌, refl, sym, ap, ◌∙◌}
use mathlib.Core.Bool.{◌||◌}
use mathlib.Core.Logic.{◌⊎◌, inl, inr}
use mathlib.Core.List.{List, [], ◌∷◌, ◌++◌, append-nil, append_assoc}
use Prim.Native.Nat.{ℕ, zero, suc, ◌+◌, ◌≤◌, ◌<◌}
use native.Mathlib.Omega.{arith}
use borrow.Author.Tests.{ltb-true, ltb-false, eqb-true, eqb-false}
use lib.Dec.{eqb, ltb}
use lib.ListN.{length, get_or}
use Rattle.boxes.proofs.Tests.{by, either, or_cases, or-neither}
use Rattle.boxes.proofs.Lists.{length-end}
use Rattle.questions.specs.Limits.{max_tables}
use Rattle.questions.specs.Questions.{Table, tables_check}
use Rattle.questions.proofs.Laws.{in-range, when-zero, first-yes}
use Rattle.course.specs.Claims.{no_table}
use Rattle.fields.specs.Names.{top_check}
use Rattle.csv_tables.specs.Imports.{Imported, refused, imported, import_csv}
use Rattle.csv_tables.specs.Claims.{FileTable, RefusedRecord}
use Rattle.csv_tables.proofs.Laws.{file-table, import-record}
use Rattle.fields.specs.Parts.{part}
use Rattle.files.specs.Gathers.{Gathered, refused_at, gathered, then_table, gather_from, gather_check, gather}
use Rattle.files.specs.Claims.{Right, begin_from, FilesTables, RefusedFile}
use Rattle.files.proofs.Gathering.{gather-turn, gather-end}

pub data FilesFrom (l s : List ℕ) : ℕ → List ℕ → List Table → Type 0 where
  none : {a : ℕ} → FilesFrom l s a [] []
  more : {a e : ℕ} {es : List ℕ} {t : Table} {ts : List Table} → Right s a e → import_csv l (part a e s) ≡ imported t → FilesFrom l s e es ts
      → FilesFrom l s a (e ∷ es) (t ∷ ts)

pub data RefusedFrom (l s : List ℕ) (n r : ℕ) : ℕ → List ℕ → ℕ → Type 0 where
  wrong : {a e : ℕ} {es : List ℕ} → (Right s a e → ⊥) → n ≡ 3 → r ≡ 0 → RefusedFrom l s n r a (e ∷ es) 0
  here : {a e : ℕ} {es : List ℕ} → Right s a e → import_csv l (part a e s) ≡ refused n r → RefusedFrom l s n r a (e ∷ es) 0
  later : {a e i : ℕ} {es : List ℕ} {t : Table} → Right s a e → import_csv l (part a e s) ≡ imported t → RefusedFrom l s n r e es i
      → RefusedFrom l s n r a (e ∷ es) (suc i)

-- ---- what gathering comes to

-- after the tables ts of earlier files
abbrev pub Outcome : List ℕ → List ℕ → ℕ → List Table → List ℕ → Gathered → Type 0
Outcome l s a ts es (gathered us) = (vs : List Table) × (us ≡ ts ++ vs) × FilesFrom l s a es vs
Outcome l s a ts es (refused_at n f r) = (i : ℕ) × (f ≡ length ts + suc i) × RefusedFrom l s n r a es i

module _ (l s : List ℕ) where
  -- a further file
  outcome-more : {a e : ℕ} {t : Table} (ts : List Table) (es : List ℕ) (g : Gathered) → Right s a e → import_csv l (part a e s) ≡ imported t
      → Outcome l s e (ts ++ (t ∷ [])) es g → Outcome l s a ts (e ∷ es) g
  outcome-more {t = t} ts es (gathered us) right is (vs, eq, files) = (t ∷ vs, eq ∙ append_assoc ts (t ∷ []) vs, more right is files)
  outcome-more {t = t} ts es (refused_at n f r) right is (i, eq, file) = (suc i, eq ∙ omega (arith, length-end ts t), later right is file)

  pub gather-outcome : (a : ℕ) (ts : List Table) (es : List ℕ) → Outcome l s a ts es (gather_from l s a ts es)
  gather-outcome a ts [] = rw (gather-end l s a ts) ([], sym (append-nil ts), none)
  gather-outcome a ts (e ∷ es) =
      by (ltb (length s) e || ltb e a)
      (λ t.
      let off : Right s a e → ⊥ = λ h. either (or_cases (ltb (length s) e) (ltb e a) t) (λ u. omega (arith, h.1, ltb-true (length s) e u)) (λ u. omega (arith, h.0, ltb-true e a u)) in
      rw (gather-turn l s a ts e es, t) (0, omega arith, wrong off refl refl))
      (λ f.
      let neither = or-neither (ltb (length s) e) (ltb e a) f in
      let right : Right s a e = (ltb-false e a neither.1, ltb-false (length s) e neither.0) in
      rw (gather-turn l s a ts e es, f) (import-outcome right (import_csv l (part a e s)) refl (λ t. gather-outcome e (ts ++ (t ∷ [])) es)))
    where
      import-outcome : Right s a e → (x : Imported) → import_csv l (part a e s) ≡ x
          → ((t : Table) → Outcome l s e (ts ++ (t ∷ [])) es (gather_from l s e (ts ++ (t ∷ [])) es))
          → Outcome l s a ts (e ∷ es) (then_table (import_csv l (part a e s)) (length ts + 1) (λ t. gather_from l s e (ts ++ (t ∷ [])) es))
      import-outcome right (refused n r) is rest = rw is (0, omega arith, here right is)
      import-outcome right (imported t) is rest = rw is (outcome-more ts es (gather_from l s e (ts ++ (t ∷ [])) es) right is (rest t))

-- ---- the files by number

begin-later : (a e : ℕ) (es : List ℕ) (i : ℕ) → begin_from a (e ∷ es) (suc i) ≡ begin_from e es i
begin-later a e es zero = refl
begin-later a e es (suc i) = refl

module _ {l s : List ℕ} where
  pub files-count : {a : ℕ} {es : List ℕ} {ts : List Table} → FilesFrom l s a es ts → length ts ≡ length es
  files-count none = refl
  files-count (more right is files) = ap suc (files-count files)

  files-end : {a : ℕ} {es : List ℕ} {ts : List Table} → FilesFrom l s a es ts → (i : ℕ) → i < length es → Right s (begin_from a es i) (get_or es i 0)
  files-end none i h = absurd (omega arith)
  files-end (more right is files) zero h = right
  files-end (more {a = a} {e = e} {es = es} right is files) (suc i) h = rw (begin-later a e es i) (files-end files i (omega arith))

  files-import : {a : ℕ} {es : List ℕ} {ts : List Table} → FilesFrom l s a es ts → (i : ℕ) → i < length es
      → import_csv l (part (begin_from a es i) (get_or es i 0) s) ≡ imported (get_or ts i no_table)
  files-import none i h = absurd (omega arith)
  files-import (more right is files) zero h = is
  files-import (more {a = a} {e = e} {es = es} right is files) (suc i) h = rw (begin-later a e es i) (files-import files i (omega arith))

  module _ {n r : ℕ} where
    refused-within : {a i : ℕ} {es : List ℕ} → RefusedFrom l s n r a es i → i < length es
    refused-within (wrong off e d) = omega arith
    refused-within (here right is) = omega arith
    refused-within (later right is file) = omega (arith, refused-within file)

    refused-earlier : {a i : ℕ} {es : List ℕ} → RefusedFrom l s n r a es i → (k : ℕ) → k < i
        → Right s (begin_from a es k) (get_or es k 0) × ((t : Table) × FileTable l (part (begin_from a es k) (get_or es k 0) s) t)
    refused-earlier (wrong off e d) k h = absurd (omega arith)
    refused-earlier (here right is) k h = absurd (omega arith)
    refused-earlier (later {t = t} right is file) zero h = (right, (t, file-table l _ is))
    refused-earlier (later {a = a} {e = e} {es = es} right is file) (suc k) h = rw (begin-later a e es k) (refused-earlier file k (omega arith))

    refused_why : {a i : ℕ} {es : List ℕ} → RefusedFrom l s n r a es i
        → ((Right s (begin_from a es i) (get_or es i 0) → ⊥) × (n ≡ 3) × (r ≡ 0)) ⊎ (Right s (begin_from a es i) (get_or es i 0) × (import_csv l (part (begin_from a es i) (get_or es i 0) s) ≡ refused n r) × RefusedRecord l (part (begin_from a es i) (get_or es i 0) s) n r)
    refused_why (wrong off e d) = inl (off, e, d)
    refused_why (here right is) = inr (right, is, import-record l _ is)
    refused_why (later {a = a} {e = e} {i = i} {es = es} right is file) = rw (begin-later a e es i) (refused_why file)

-- ---- from the first byte on

pub files-tables : {l s es : List ℕ} {ts : List Table} → top_check l ≡ 0 → 1 ≤ length es → length es ≤ max_tables → FilesFrom l s 0 es ts → FilesTables l s es ts
files-tables {l} {s} {es} {ts} named some few files = record {
  named = named;
  some = some;
  few = few;
  ends = λ i h. files-end files i h;
  count = files-count files;
  each = λ i h. file-table l _ (files-import files i h);
}

pub refused-file : {l s es : List ℕ} {n r i : ℕ} → top_check l ≡ 0 → length es ≤ max_tables → RefusedFrom l s n r 0 es i → RefusedFile l s es n (suc i) r
refused-file {l} {s} {es} {n} {r} {i} named few file = record {
  named = named;
  few = few;
  i = i;
  is = refl;
  within = refused-within file;
  earlier = λ k h. refused-earlier file k h;
  why = refused_why file;
}

-- ---- all files

pub check-passed : (l es : List ℕ) → gather_check l es ≡ 0 → (top_check l ≡ 0) × (tables_check (length es) ≡ 0) × (1 ≤ length es) × (length es ≤ max_tables)
check-passed l es e =
    let both = first-yes (top_check l) (tables_check (length es)) e in
    let few = in-range max_tables (length es) (when-zero _ 4 both.1) in
    (both.0, both.1, few.0, few.1)

abbrev pub GatheredSo : List ℕ → List ℕ → List ℕ → Gathered → Type 0
GatheredSo l s es (gathered ts) = (gather_check l es ≡ 0) × FilesFrom l s 0 es ts
GatheredSo l s es (refused_at n f r) = ((gather_check l es ≡ n) × (n ≡ 0 → ⊥) × (f ≡ 0) × (r ≡ 0)) ⊎ ((gather_check l es ≡ 0) × ((i : ℕ) × (f ≡ suc i) × RefusedFrom l s n r 0 es i))

outcome-so : (l s es : List ℕ) (g : Gathered) → gather_check l es ≡ 0 → Outcome l s 0 [] es g → GatheredSo l s es g
outcome-so l s es (gathered us) e (vs, is, files) = rw is (e, files)
outcome-so l s es (refused_at n f r) e (i, is, file) = inr (e, (i, is ∙ omega arith, file))

pub gathered-so : (l s es : List ℕ) → GatheredSo l s es (gather l s es)
unfolding gather
gathered-so l s es =
    by (eqb (gather_check l es) 0)
    (λ t. rw t (outcome-so l s es (gather_from l s 0 [] es) (eqb-true (gather_check l es) 0 t) (gather-outcome l s 0 [] es)))
    (λ f. rw f (inl (refl, eqb-false (gather_check l es) 0 f, refl, refl)))
