-- A table written if there is room for it.
--   attributes_put, rows_put == the table's attributes and rows, as the code has them
--   table-size   == how many words it has
--   rows-room    == each of its rows stands among the words of the rows
--   write-short, write-all == what the import answers: there is no room, or the table is written
use mathlib.Core.Path.{◌≡◌, refl, sym, ap, ◌∙◌}
use mathlib.Core.List.{List, ◌∷◌, ◌++◌}
use Prim.Native.Nat.{ℕ, suc, ◌+◌, ◌*◌, ◌≤◌, ◌<◌}
use native.Mathlib.Nat.{suc-mul, mul-le-mul}
use native.Mathlib.Omega.{arith}
use borrow.Author.Tests.{lt-ltb, le-ltb}
use lib.ListN.{length, length-map}
use Rattle.boxes.specs.Limits.{max_attributes}
use Rattle.boxes.specs.Fits.{Each}
use Rattle.boxes.proofs.Lists.{each-imp, each_map}
use Rattle.questions.specs.Limits.{max_rows}
use Rattle.questions.specs.Questions.{table_with}
use Rattle.questions.specs.Words.{flat, over, table_words}
use Rattle.csv_tables.specs.Columns.{sourced}
use Rattle.csv_tables.specs.Keeping.{row_at, rows_in}
use Rattle.csv_tables.specs.Imports.{imported}
use Rattle.csv_tables.specs.Importing.{TableAsk}
use Rattle.csv_tables.specs.Says.{ImportedSays}
use Rattle.questions.proofs.Laws.{length-flat, length-table_words, table_words-parts}
use Rattle.csv_tables.proofs.KeptRows.{row-long, sourced-long}

module _ (c header w o : List ℕ) (a : TableAsk c w o) where
  abbrev pub attributes_put : List ℕ
  attributes_put = sourced c header

  abbrev pub rows_put : List (List ℕ)
  rows_put = rows_in (length c) w o

  pub rows-room : Each (λ i. suc i * length c ≤ length w) o
  rows-room = each-imp (λ i h. omega (arith, a.rows_long, mul-le-mul {n₁ = suc i} {m₁ = length c} {n₂ = suc max_rows} {m₂ = max_attributes} (omega (arith, a.few)) a.arity)) a.numbers

  rows-each : Each (λ r. length r ≡ length c) rows_put
  rows-each = each_map (row_at w (length c)) (λ i h. row-long (length c) w i (omega (arith, h, suc-mul i (length c)))) rows-room

  pub table-size : length (table_words (table_with attributes_put rows_put)) ≡ 2 + length c + length o * length c
  table-size =
      let flat-long : length (flat rows_put) ≡ length o * length c = length-flat rows-each ∙ ap (λ (n : ℕ). n * length c) (length-map o (row_at w (length c))) in
      length-table_words (table_with attributes_put rows_put) ∙ omega (arith, sourced-long c header, flat-long)

  pub write-short : (v : List ℕ) → length v < 2 + length c + length o * length c
      → ImportedSays (imported (table_with attributes_put rows_put)) v v (record { number = 13; count = 2 + length c + length o * length c; place = 0 })
  write-short v h =
      let low = lt-ltb (length v) (length (table_words (table_with attributes_put rows_put))) (omega (arith, table-size)) in
      record { number = rw low; count = sym table-size; place = refl; words = rw low }

  pub write-all : (v : List ℕ) {v' : List ℕ} → 2 + length c + length o * length c ≤ length v → v' ≡ over (length c ∷ (attributes_put ++ (length o ∷ flat rows_put))) v
      → ImportedSays (imported (table_with attributes_put rows_put)) v v' (record { number = 0; count = 2 + length c + length o * length c; place = 0 })
  write-all v h e =
      let high = le-ltb (length v) (length (table_words (table_with attributes_put rows_put))) (omega (arith, table-size)) in
      record {
        number = rw high;
        count = sym table-size;
        place = refl;
        words = e ∙ ap (λ (l : List ℕ). over l v) (table_words-parts attributes_put rows_put (length c) (length o) (sym (sourced-long c header)) (sym (length-map o (row_at w (length c))))) ∙ rw high;
      }
