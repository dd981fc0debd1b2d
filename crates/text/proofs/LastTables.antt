-- Tables with something else in the last one: what holds of each table goes on to hold.
--   length-on_last  == they are as many
--   on_last-each    == what holds of each, and of the last with what it has now, holds of each
--   tables_size ts  == how many words tables have
--   size-end       == with one table more
--   on_last-size    == with no more than so many words more in the last one
use mathlib.Core.Path.{◌≡◌, refl, ap, ◌∙◌}
use mathlib.Core.List.{List, [], ◌∷◌, ◌++◌, map, map-append}
use Prim.Native.Nat.{ℕ, suc, ◌+◌, ◌≤◌}
use native.Mathlib.Omega.{arith}
use lib.ListN.{length, length-append}
use Rattle.boxes.specs.Fits.{Each, none, more}
use Rattle.questions.specs.Questions.{Contents, Table, table_with}
use Rattle.questions.specs.Words.{flat, contents_words, table_words}
use Rattle.questions.proofs.Laws.{flat-end, length-table_words}
use Rattle.text.specs.Texts.{last_table, on_last}

pub length-on_last : (f : Contents → Contents) (ts : List Table) → length (on_last f ts) ≡ length ts
unfolding on_last
length-on_last f [] = refl
length-on_last f (t ∷ []) = refl
length-on_last f (t ∷ (u ∷ ts)) = ap suc (length-on_last f (u ∷ ts))

module _ (P : List ℕ → Contents → Type 0) (f : Contents → Contents) where
  pub on_last-each : (ts : List Table) → (P (last_table ts).attributes (last_table ts).contents → P (last_table ts).attributes (f (last_table ts).contents))
      → Each (λ t. P t.attributes t.contents) ts → Each (λ t. P t.attributes t.contents) (on_last f ts)
  unfolding on_last last_table
  on_last-each [] g h = none
  on_last-each (t ∷ []) g (more p r) = more (g p) none
  on_last-each (t ∷ (u ∷ ts)) g (more p r) = more p (on_last-each (u ∷ ts) g r)

-- ---- words

abbrev pub tables_size : List Table → ℕ
tables_size ts = length (flat (map table_words ts))

pub size-end : (ts : List Table) (xs : List ℕ) → tables_size (ts ++ (table_with xs [] ∷ [])) ≡ tables_size ts + 2 + length xs
unfolding flat
size-end ts xs =
    let t : Table = table_with xs [] in
    ap length (ap flat (map-append table_words ts (t ∷ [])) ∙ flat-end (map table_words ts) (table_words t))
    ∙ omega (arith, length-append (flat (map table_words ts)) (table_words t), length-table_words t)

pub on_last-size : (f : Contents → Contents) (k : ℕ) (ts : List Table) → ((c : Contents) → length (contents_words (f c)) ≤ length (contents_words c) + k)
    → tables_size (on_last f ts) ≤ tables_size ts + k
unfolding on_last flat
on_last-size f k [] g = omega arith
on_last-size f k (t ∷ []) g =
    let u : Table = record { attributes = t.attributes; contents = f t.contents } in
    omega (
      arith,
      length-append (table_words t) [],
      length-append (table_words u) [],
      length-table_words t,
      length-table_words u,
      g t.contents,
    )
on_last-size f k (t ∷ (u ∷ ts)) g =
    omega (
      arith,
      length-append (table_words t) (flat (map table_words (on_last f (u ∷ ts)))),
      length-append (table_words t) (flat (map table_words (u ∷ ts))),
      on_last-size f k (u ∷ ts) g,
    )
