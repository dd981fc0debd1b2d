-- A header's attribute numbers say what its names do: the columns of the numbers are those of the names.
--   numbers names h     == the attribute numbers of a header
--   column_of-place      == an attribute's column is the place of its name in the header
--   are_distinct-names   == no number stands twice exactly if no name does
--   sources-places, sources-length == the sources are the places of the columns' names, one for each column
--   sourced-array       == the values of a record's sources, in their array, are its row
--   sourced-header-array == the attribute numbers' own row is the columns, which are the table's attributes
--   columns-few, header-few == there are at most as many columns as attributes, and so are a header's names
--   columns-length, sources-count == a header has as many columns, and sources, as names
use mathlib.Core.Path.{◌≡◌, refl, sym, ap, ap₂, ◌∙◌}
use mathlib.Core.Bool.{Bool, true, ◌&&◌, not, and-true, and_assoc}
use mathlib.Core.List.{List, [], ◌∷◌, ◌++◌, append-nil, map, map-id, map-map}
use Prim.Native.Nat.{ℕ, suc, ◌-◌, ◌≤◌, ◌<◌}
use native.Mathlib.Omega.{arith}
use borrow.Author.Tests.{ltb-true, ltb-false}
use lib.Dec.{eqb}
use lib.ListN
use lib.ListN.{length, get_or, take, length-map, length-append}
use lib.Seq.{take_all, append_snoc, get_or_at}
use Rattle.boxes.specs.Limits.{max_attributes}
use Rattle.boxes.specs.Fits.{Each, none, more}
use Rattle.boxes.proofs.Tests.{by, clash}
use Rattle.boxes.proofs.Lists.{length-end, get_d_map, each-mem, each-imp}
use Rattle.questions.specs.Orders.{same}
use Rattle.questions.specs.Directories.{filled_to}
use Rattle.questions.proofs.Laws.{same-is, get_d_beyond}
use Rattle.fields.specs.Fields.{every, is_number, field_number, place, is_one, distinct}
use Rattle.fields.proofs.Laws.{every-each, known_at, known_member, distinct-place, same-equal, place_none, place-first, place-past, place-again, distinct-end}
use Rattle.csv_tables.specs.Imports.{columns_from, columns_of, row_of}
use Rattle.csv_tables.specs.Columns.{column_of, distinct_from, are_distinct, sources_from, sourced}
use Rattle.csv_tables.proofs.HeaderColumns.{Column, columns-here, columns-past, columns-none, columns-each}
use Rattle.csv_tables.proofs.Counting.{columns-count}
use Rattle.csv_tables.proofs.RecordFields.{map-alike}
use Rattle.csv_tables.proofs.HeaderPlaces.{column_of-here, column_of-past, column_of-none, sources-here, sources-past, sources-none}

abbrev pub numbers : List (List ℕ) → List (List ℕ) → List ℕ
numbers names h = map (λ f. place f names) h

-- ---- lists

get_or-filled : (ys : List ℕ) → length ys ≤ max_attributes → (i : ℕ) → get_or (filled_to max_attributes 0 (take max_attributes ys)) i 0 ≡ get_or ys i 0
get_or-filled ys few i = rw (take_all max_attributes ys few) (get_d_beyond ys (max_attributes - length ys) i)

field_number-none : field_number [] ≡ 0
unfolding field_number is_number
field_number-none = refl

field_number-at : (fs : List (List ℕ)) (i : ℕ) → get_or (map field_number fs) i 0 ≡ field_number (get_or fs i [])
field_number-at fs i = ap (λ (d : ℕ). get_or (map field_number fs) i d) (sym field_number-none) ∙ ListN.get_or-map field_number fs i []

-- ---- columns

module _ (h : List (List ℕ)) where
  pub columns-few : (a : ℕ) (gs : List (List ℕ)) → length (columns_from a h gs) ≤ length gs
  columns-few a [] = rw (columns-none h a) (omega arith)
  columns-few a (g ∷ gs) =
      by (is_one h g)
      (λ t. rw (columns-here h a g gs t) (omega (arith, columns-few (suc a) gs)))
      (λ f. rw (columns-past h a g gs f) (omega (arith, columns-few (suc a) gs)))

-- ---- of distinct names

module _ (names : List (List ℕ)) (d : distinct names ≡ true) where
  column-at : (a : ℕ) → a < length names → {h : List (List ℕ)} → Each (λ f. is_one names f ≡ true) h → column_of a (numbers names h) ≡ place (get_or names a []) h
  column-at a l none = column_of-none a ∙ sym (place_none (get_or names a []))
  column-at a l (more {x = f} {xs = h} k r) =
      let g : List ℕ = get_or names a [] in
      by (same g f)
      (λ t.
      let at : place f names ≡ a = ap (λ (e : List ℕ). place e names) (sym (same-is g f t)) ∙ distinct-place names d a l in
      column_of-here a (place f names) (numbers names h) at ∙ sym (place-first g f h t))
      (λ u.
      let other : place f names ≡ a → ⊥ = λ e. clash (same-equal (ap (λ (i : ℕ). get_or names i []) (sym e) ∙ known_at f names k)) u in
      column_of-past a (place f names) (numbers names h) other ∙ ap suc (column-at a l r) ∙ sym (place-past g f h u))

  module _ (h : List (List ℕ)) (known : every (is_one names) h ≡ true) where
    each-known : Each (λ f. is_one names f ≡ true) h
    each-known = every-each (is_one names) h known

    many : length (numbers names h) ≡ length h
    many = length-map h (λ f. place f names)

    pub column_of-place : (a : ℕ) → a < length names → column_of a (numbers names h) ≡ place (get_or names a []) h
    column_of-place a l = column-at a l each-known

    -- the names gs are asked, hs are left
    distinct-rest : (gs hs : List (List ℕ)) (i : ℕ) → length gs ≡ i → gs ++ hs ≡ h → Each (λ f. is_one names f ≡ true) hs
        → (distinct gs && distinct_from i (numbers names h) (numbers names hs)) ≡ distinct h
    unfolding distinct_from
    distinct-rest gs [] i long e none = and-true (distinct gs) ∙ ap distinct (sym (append-nil gs) ∙ e)
    distinct-rest gs (f ∷ hs) i long e (more k r) =
        let xs : List ℕ = numbers names h in
        let rest : Bool = distinct_from (suc i) xs (numbers names hs) in
        let column : column_of (place f names) xs ≡ place f (gs ++ (f ∷ hs)) =
        column_of-place (place f names) (ltb-true (place f names) (length names) k) ∙ ap₂ place (known_at f names k) (sym e) in
        let own : eqb (column_of (place f names) xs) i ≡ not (is_one gs f) = ap₂ eqb column (sym long) ∙ place-again f gs hs in
        ap (λ (b : Bool). distinct gs && (b && rest)) own ∙ sym (and_assoc (distinct gs) (not (is_one gs f)) rest)
        ∙ ap (λ (b : Bool). b && rest) (sym (distinct-end gs f))
        ∙ distinct-rest (gs ++ (f ∷ [])) hs (suc i) (length-end gs f ∙ ap suc long) (append_snoc gs f hs ∙ e) r

    pub are_distinct-names : are_distinct (numbers names h) ≡ distinct h
    unfolding distinct
    are_distinct-names = distinct-rest [] h 0 refl refl each-known

    -- the attributes of the names gs, those from a on
    sources-from : (front gs : List (List ℕ)) (a : ℕ) → length front ≡ a → front ++ gs ≡ names
        → sources_from a (length gs) (numbers names h) ≡ map (λ b. place (get_or names b []) h) (columns_from a h gs)
    sources-from front [] a long e = sources-none a (numbers names h) ∙ ap (map (λ b. place (get_or names b []) h)) (sym (columns-none h a))
    sources-from front (g ∷ gs) a long e =
        let xs : List ℕ = numbers names h in
        let q : ℕ → ℕ = λ b. place (get_or names b []) h in
        let here : get_or names a [] ≡ g = ap (λ (l : List (List ℕ)). get_or l a []) (sym e) ∙ get_or_at front g gs [] a long in
        let below : a < length names = omega (arith, ap length e, length-append front (g ∷ gs)) in
        let column : column_of a xs ≡ place (get_or names a []) h = column_of-place a below in
        let is : place (get_or names a []) h ≡ place g h = ap (λ (f : List ℕ). place f h) here in
        let rest : sources_from (suc a) (length gs) xs ≡ map q (columns_from (suc a) h gs) =
        sources-from (front ++ (g ∷ [])) gs (suc a) (length-end front g ∙ ap suc long) (append_snoc front g gs ∙ e) in
        by (is_one h g)
        (λ t. sources-here a (length gs) xs (omega (arith, column, is, many, ltb-true (place g h) (length h) t))
        ∙ ap₂ ◌∷◌ column rest ∙ ap (map q) (sym (columns-here h a g gs t)))
        (λ f. sources-past a (length gs) xs (omega (arith, column, is, many, ltb-false (place g h) (length h) f))
        ∙ rest ∙ ap (map q) (sym (columns-past h a g gs f)))

    pub sources-places : sources_from 0 (length names) (numbers names h) ≡ map (λ a. place (get_or names a []) h) (columns_of names h)
    sources-places = sources-from [] names 0 refl refl

    pub sources-length : length (sources_from 0 (length names) (numbers names h)) ≡ length (columns_of names h)
    sources-length = ap length sources-places ∙ length-map (columns_of names h) (λ a. place (get_or names a []) h)

    -- the values vs have those of w in the header's columns
    sourced-columns : (vs : List ℕ) (w : ℕ → ℕ) → Each (λ a. get_or vs (place (get_or names a []) h) 0 ≡ w a) (columns_of names h)
        → sourced (sources_from 0 (length names) (numbers names h)) vs ≡ map w (columns_of names h)
    sourced-columns vs w e = ap (λ (l : List ℕ). sourced l vs) sources-places ∙ map-map (λ i. get_or vs i 0) (λ a. place (get_or names a []) h) (columns_of names h) ∙ map-alike (λ a. get_or vs (place (get_or names a []) h) 0) w e

    pub sourced-array : (fs : List (List ℕ)) → length fs ≤ max_attributes
        → sourced (sources_from 0 (length names) (numbers names h)) (filled_to max_attributes 0 (take max_attributes (map field_number fs))) ≡ row_of names h fs
    sourced-array fs few =
        sourced-columns (filled_to max_attributes 0 (take max_attributes (map field_number fs))) (λ a. field_number (get_or fs (place (get_or names a []) h) []))
        (each-imp (λ a c.
        let i : ℕ = place (get_or names a []) h in
        get_or-filled (map field_number fs) (omega (arith, length-map fs field_number)) i ∙ field_number-at fs i)
        (columns-each h 0 names))

    -- an attribute of the header stands at its column
    number_at : (a : ℕ) → Column 0 h names a → get_or (numbers names h) (place (get_or names a []) h) 0 ≡ a
    number_at a c =
        let g : List ℕ = get_or names a [] in
        let t : is_one h g ≡ true = c.known a (omega arith) in
        get_d_map (λ f. place f names) h (place g h) [] 0 (ltb-true (place g h) (length h) t)
        ∙ ap (λ (f : List ℕ). place f names) (known_at g h t) ∙ distinct-place names d a (omega (arith, c.below))

    pub sourced-header-array : length h ≤ max_attributes
        → sourced (sources_from 0 (length names) (numbers names h)) (filled_to max_attributes 0 (take max_attributes (numbers names h))) ≡ columns_of names h
    sourced-header-array few =
        sourced-columns (filled_to max_attributes 0 (take max_attributes (numbers names h))) (λ a. a)
        (each-imp (λ a c. get_or-filled (numbers names h) (omega (arith, many)) (place (get_or names a []) h) ∙ number_at a c) (columns-each h 0 names))
        ∙ map-id (columns_of names h)

    module _ (once : distinct h ≡ true) where
      pub columns-length : length (columns_of names h) ≡ length h
      columns-length = columns-count 0 names h d once (λ z m. known_member z names (each-mem each-known m))

      pub sources-count : length (sources_from 0 (length names) (numbers names h)) ≡ length h
      sources-count = sources-length ∙ columns-length

      pub header-few : length h ≤ length names
      header-few = omega (arith, columns-length, columns-few h 0 names)
