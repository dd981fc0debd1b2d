-- Highest values, raised by tables that stand one after the other.
--   tables-turn, tables_end == a loop over the tables: one more, and their end
--   first-at, rest_at       == the first table's words, and those of the rest
--   tables-at     == tables over few attributes stand in the words, one after the other
--   length-tables == there are as many highest values as before
--   tables-values == the highest value of an attribute after them
use mathlib.Core.Path.{◌≡◌, refl, sym, ap, ◌∙◌}
use mathlib.Core.List.{List, ◌∷◌, ◌++◌, append_assoc, map}
use Prim.Native.Nat.{ℕ, zero, suc, ◌+◌, ◌-◌, ◌≤◌, ◌<◌, max}
use native.Mathlib.Omega.{arith}
use lib.ListN.{length, get_or, drop}
use Rattle.boxes.specs.Limits.{max_attributes}
use Rattle.boxes.specs.Fits.{Each, none, more}
use Rattle.boxes.proofs.Lists.{each-imp}
use Rattle.questions.specs.Questions.{Contents, Table}
use Rattle.questions.specs.Good.{Below}
use Rattle.questions.specs.Words.{flat, table_words}
use Rattle.questions.proofs.Laws.{flat-none, flat-more}
use Rattle.files.specs.Widths.{contents_values, table_values, attribute_values}
use Rattle.files.specs.Parts.{tables_words, TableOver}
use Rattle.files.specs.Raising.{highest, raise_columns, arity_at, row_count_at, begin_at, table_end, raise_table, raise_tables, TableAt, TablesAt, none, more}
use Rattle.files.proofs.Highest.{highest-none, highest-flat}
use Rattle.files.proofs.Raises.{length-raise, raise-values}
use Rattle.files.proofs.StandingTables.{arity-is, names-are, back-stands, rows-even, rows_are, table_at}

module _ (s : List ℕ) where
  tables-none : (at : ℕ) (hs : List ℕ) → raise_tables s 0 at hs ≡ hs
  unfolding raise_tables
  tables-none at hs = refl

  tables_more : (l at : ℕ) (hs : List ℕ) → raise_tables s (suc l) at hs ≡ raise_tables s l (table_end s at) (raise_table s at hs)
  unfolding raise_tables
  tables_more l at hs = refl

  pub length-tables : (l at : ℕ) (hs : List ℕ) → length (raise_tables s l at hs) ≡ length hs
  length-tables zero at hs = ap length (tables-none at hs)
  length-tables (suc l) at hs =
      ap length (tables_more l at hs) ∙ length-tables l (table_end s at) (raise_table s at hs) ∙ length-raise s (arity_at s at) (at + 1) (begin_at s at) (arity_at s at) (row_count_at s at) hs

  -- l tables are left
  module _ (l at : ℕ) where
    pub tables-turn : (hs : List ℕ) → 0 < l → raise_tables s (l - 1) (table_end s at) (raise_table s at hs) ≡ raise_tables s l at hs
    tables-turn hs h = let left : l ≡ suc (l - 1) = omega arith in sym (ap (λ (n : ℕ). raise_tables s n at hs) left ∙ tables_more (l - 1) at hs)

    pub tables_end : (hs : List ℕ) → (0 < l → ⊥) → raise_tables s l at hs ≡ hs
    tables_end hs h = let left : l ≡ 0 = omega arith in rw left (tables-none at hs)

  pub first-at : {l at : ℕ} → TablesAt s l at → 0 < l → TableAt s at
  first-at none h = absurd (omega arith)
  first-at (more t ts) h = t

  pub rest_at : {l at : ℕ} → TablesAt s l at → 0 < l → TablesAt s (l - 1) (table_end s at)
  rest_at none h = absurd (omega arith)
  rest_at (more {k = k} {at = at} t ts) h = let left : suc k - 1 ≡ k = omega arith in rw left ts

module _ (s : List ℕ) {n : ℕ} (most : n ≤ max_attributes) (back : List ℕ) where
  -- the words of the first table, and then the others
  first-stands : (at : ℕ) (t : Table) (ts : List Table) → drop at s ≡ tables_words (t ∷ ts) ++ back → drop at s ≡ table_words t ++ (tables_words ts ++ back)
  first-stands at t ts stand = stand ∙ ap (λ (l : List ℕ). l ++ back) (flat-more (table_words t) (map table_words ts)) ∙ append_assoc (table_words t) (tables_words ts) back

  pub tables-at : (at : ℕ) {ts : List Table} → Each (TableOver n) ts → drop at s ≡ tables_words ts ++ back → TablesAt s (length ts) at
  tables-at at none stand = none
  tables-at at (more {x = t} {xs = ts} o over) stand =
      let first = first-stands at t ts stand in
      more (table_at s at o (tables_words ts ++ back) first most) (tables-at (table_end s at) over (back-stands s at o (tables_words ts ++ back) first))

  module _ (a : ℕ) where
    table-values : (at : ℕ) {t : Table} → TableOver n t → (behind : List ℕ) → drop at s ≡ table_words t ++ behind → (hs : List ℕ) → length hs ≡ max_attributes
        → get_or (raise_table s at hs) a 0 ≡ max (get_or hs a 0) (highest (table_values a t))
    table-values at {t} o behind stand hs long =
        let arity : arity_at s at ≡ length t.attributes = arity-is s at o behind stand in
        let low : Below (length hs) t.attributes = each-imp (λ x h. omega arith) o.below in
        ap (λ (l : ℕ). get_or (raise_columns s (at + 1) (begin_at s at) (arity_at s at) (row_count_at s at) l hs) a 0) arity
        ∙ raise-values s (begin_at s at) (arity_at s at) (row_count_at s at) (rows_are s at o behind stand) (rows-even s at o behind stand) a
        t.attributes (length o.rows ∷ (flat o.rows ++ behind)) hs 0 (at + 1) (begin_at s at) (omega arith) (omega arith) (names-are s at o behind stand) low
        ∙ ap (λ (c : Contents). max (get_or hs a 0) (highest (contents_values a t.attributes c))) (sym o.contents)

    pub tables-values : (at : ℕ) {ts : List Table} → Each (TableOver n) ts → drop at s ≡ tables_words ts ++ back → (hs : List ℕ) → length hs ≡ max_attributes
        → get_or (raise_tables s (length ts) at hs) a 0 ≡ max (get_or hs a 0) (highest (attribute_values a ts))
    tables-values at none stand hs long = omega (arith, ap (λ (l : List ℕ). get_or l a 0) (tables-none s at hs), ap highest flat-none, highest-none)
    tables-values at (more {x = t} {xs = ts} o over) stand hs long =
        let first = first-stands at t ts stand in
        let later = back-stands s at o (tables_words ts ++ back) first in
        let raised : List ℕ = raise_table s at hs in
        let many : length raised ≡ max_attributes = length-raise s (arity_at s at) (at + 1) (begin_at s at) (arity_at s at) (row_count_at s at) hs ∙ long in
        omega (
          arith,
          ap (λ (l : List ℕ). get_or l a 0) (tables_more s (length ts) at hs),
          tables-values (table_end s at) over later raised many,
          table-values at o (tables_words ts ++ back) first hs long,
          highest-flat (table_values a t) (map (table_values a) ts),
        )
