-- The widths that tables need.
--   widths-at     == the width of an attribute
--   widths-length == there are as many as attributes
--   widths-good   == each is from 1 to the widest
--   widths-within == the rows of each table are within them
use mathlib.Core.Path.{◌≡◌, ap, ◌∙◌}
use mathlib.Core.List.{List, [], ◌∷◌, map, Memᴰ}
use Prim.Native.Nat.{ℕ, ◌^◌, ◌<◌}
use native.Mathlib.Omega.{arith}
use lib.ListN.{length, get_or, length-map}
use Rattle.boxes.specs.Fits.{Each, Point, none, more}
use Rattle.boxes.proofs.Lists.{get_d_map, each-mem, mem-each}
use Rattle.questions.specs.Questions.{with_rows, Table}
use Rattle.questions.specs.Good.{Width, widths_at}
use Rattle.csv_tables.specs.Claims.{numbers_from}
use Rattle.csv_tables.proofs.Laws.{length-numbers, numbers-at}
use Rattle.files.specs.Widths.{row_values, contents_values, table_values, attribute_values, least_width, widths_for}
use Rattle.files.specs.Parts.{TableOver}
use Rattle.files.proofs.LeastWidths.{least-width, least-holds}
use Rattle.files.proofs.Values.{each-parts, values-small, row-point}

map_each : {A B : Type 0} {P : B → Type 0} (f : A → B) (xs : List A) → ((x : A) → P (f x)) → Each P (map f xs)
map_each f [] p = none
map_each f (x ∷ xs) p = more (p x) (map_each f xs p)

module _ (n : ℕ) (ts : List Table) where
  pub widths-length : length (widths_for n ts) ≡ n
  widths-length = length-map (numbers_from 0 n) (λ a. least_width (attribute_values a ts)) ∙ length-numbers 0 n

  pub widths-at : (a : ℕ) → a < n → get_or (widths_for n ts) a 0 ≡ least_width (attribute_values a ts)
  widths-at a h =
      let within : a < length (numbers_from 0 n) = omega (arith, length-numbers 0 n) in
      let place : get_or (numbers_from 0 n) a 0 ≡ a = numbers-at 0 n a h ∙ omega arith in
      get_d_map (λ a. least_width (attribute_values a ts)) (numbers_from 0 n) a 0 0 within ∙ ap (λ (b : ℕ). least_width (attribute_values b ts)) place

  module _ (over : Each (TableOver n) ts) where
    pub widths-good : Each Width (widths_for n ts)
    widths-good = map_each (λ a. least_width (attribute_values a ts)) (numbers_from 0 n) (λ a. least-width (attribute_values a ts))

    pub widths-within : {t : Table} → Memᴰ t ts → (o : TableOver n t) → Each (Point (widths_at (widths_for n ts) t.attributes)) o.rows
    widths-within {t} m o =
        mem-each o.rows
        (λ r l.
        row-point (widths_for n ts) r o.below (each-mem o.even l)
        (λ a h.
        let all : Each (λ v. v < 2 ^ least_width (attribute_values a ts)) (attribute_values a ts) = least-holds (attribute_values a ts) (values-small a over) in
        let here : Each (λ v. v < 2 ^ least_width (attribute_values a ts)) (contents_values a t.attributes (with_rows o.rows)) = rw o.contents at (each-mem (each-parts (table_values a) ts all) m) in
        rw (widths-at a h) (each-mem (each-parts (row_values a t.attributes) o.rows here) l)))
