-- The rows of an imported table are the records of the file.
--   row_under, under-row == a record's row has its values under the header's names, and no other row has
--   file-contents  == an imported table has rows
--   file-rows      == a row is in the table exactly if some record has its values under the header's names
--   file-sorted    == the rows ascend, each once
--   file-ascending, file-below, file-some == the attribute numbers ascend, are below the number of names, and there is one
use mathlib.Core.Path.{◌≡◌, refl, sym, ap, subst, ◌∙◌}
use mathlib.Core.Bool.{true}
use mathlib.Core.Logic.{◌↔◌}
use mathlib.Core.List.Memᴰ
use mathlib.Core.List.{List, [], ◌∷◌, map, Memᴰ}
use Prim.Native.Nat.{ℕ, ◌≤◌, ◌<◌}
use native.Mathlib.Nat.{zero-add}
use native.Mathlib.Omega.{arith}
use borrow.Author.Tests.{ltb-true}
use lib.ListN.{length, get_or, length-map}
use lib.Seq.{ext_get_or}
use Rattle.boxes.specs.Fits.{Each, more}
use Rattle.boxes.proofs.Lists.{each_at, each-imp, each_map, mem-some, get_d_map}
use Rattle.questions.specs.Questions.{with_rows, Table}
use Rattle.questions.specs.Good.{Below, Ascending, Sorted}
use Rattle.fields.specs.Fields.{field_number, place, is_one, distinct}
use Rattle.fields.proofs.Laws.{member-known, known_at, distinct-place}
use Rattle.csv_tables.specs.Records.{next, start, record_list}
use Rattle.csv_tables.specs.Imports.{columns_of, value_at, row_of}
use Rattle.csv_tables.specs.Claims.{Under}
use Rattle.csv_tables.proofs.HeaderColumns.{Column, columns-each, columns-ascending, columns-mem}
use Rattle.csv_tables.proofs.Sorting.{sort-members, members-sort, sort_sorted}
use Rattle.csv_tables.proofs.Taking.{records-some, Taken}

-- ---- one row

known-column : (names h : List (List ℕ)) (i : ℕ) → i < length (columns_of names h) → is_one h (get_or names (get_or (columns_of names h) i 0) []) ≡ true
known-column names h i l =
    let a : ℕ = get_or (columns_of names h) i 0 in
    let c : Column 0 h names a = each_at (columns-each h 0 names) i 0 l in
    c.known a (sym (zero-add a))

value_row : (names h fs : List (List ℕ)) (i : ℕ) → i < length (columns_of names h) → get_or (row_of names h fs) i 0 ≡ value_at names h fs (get_or (columns_of names h) i 0)
value_row names h fs i l = get_d_map (value_at names h fs) (columns_of names h) i 0 0 l

pub row_under : (names h : List (List ℕ)) → distinct h ≡ true → (fs : List (List ℕ)) → Under names h (columns_of names h) fs (row_of names h fs)
row_under names h once fs = record {
  long = length-map (columns_of names h) (value_at names h fs);
  value = λ i j l m e.
      let at : place (get_or names (get_or (columns_of names h) i 0) []) h ≡ j = ap (λ (g : List ℕ). place g h) (sym e) ∙ distinct-place h once j m in
      value_row names h fs i l ∙ ap (λ (p : ℕ). field_number (get_or fs p [])) at;
}

pub under-row : (names h fs : List (List ℕ)) (r : List ℕ) → Under names h (columns_of names h) fs r → r ≡ row_of names h fs
under-row names h fs r u =
    let xs : List ℕ = columns_of names h in
    let long : length (row_of names h fs) ≡ length xs = length-map xs (value_at names h fs) in
    ext_get_or 0 r (row_of names h fs) (u.long ∙ sym long)
    (λ i l.
    let here : i < length xs = omega (arith, u.long) in
    let g : List ℕ = get_or names (get_or xs i 0) [] in
    let known : is_one h g ≡ true = known-column names h i here in
    u.value i (place g h) here (ltb-true (place g h) (length h) known) (known_at g h known) ∙ sym (value_row names h fs i here))

-- ---- the table

list-more : (fs : List (List ℕ)) (rs : List (List (List ℕ))) → record_list (fs ∷ rs) ≡ next fs (record_list rs)
unfolding record_list
list-more fs rs = refl

pub file-rows : (names : List (List ℕ)) (s : List ℕ) (t : Table) (k : Taken names s t) (r : List ℕ)
    → Memᴰ r k.rows ↔ ((fs : List (List ℕ)) × Memᴰ fs k.records × Under names k.header t.attributes fs r)
file-rows names s t k r = (there, λ b. back b.0 b.1 b.2)
  where
    h : List (List ℕ)
    h = k.header

    rows : List (List ℕ)
    rows = map (row_of names h) k.records

    attributes-are : t.attributes ≡ columns_of names h
    attributes-are = ap (λ (u : Table). u.attributes) k.is

    there : Memᴰ r k.rows → (fs : List (List ℕ)) × Memᴰ fs k.records × Under names h t.attributes fs r
    there m =
        let from = Memᴰ.of_map (row_of names h) k.records (sort-members rows (subst (λ (l : List (List ℕ)). Memᴰ r l) k.sorts m)) in
        let under : Under names h (columns_of names h) from.0 r = subst (Under names h (columns_of names h) from.0) from.2 (row_under names h k.once from.0) in
        (from.0, from.1, subst (λ (ys : List ℕ). Under names h ys from.0 r) (sym attributes-are) under)

    back : (fs : List (List ℕ)) → Memᴰ fs k.records → Under names h t.attributes fs r → Memᴰ r k.rows
    back fs m u =
        let is : r ≡ row_of names h fs = under-row names h fs r (subst (λ (ys : List ℕ). Under names h ys fs r) attributes-are u) in
        subst (λ (l : List (List ℕ)). Memᴰ r l) (sym k.sorts) (members-sort rows (Memᴰ.cast is (Memᴰ.map (row_of names h) m)))

module _ {names : List (List ℕ)} {s : List ℕ} {t : Table} (k : Taken names s t) where
  pub file-contents : t.contents ≡ with_rows k.rows
  file-contents = ap (λ (u : Table). u.contents) k.is

  pub file-sorted : Sorted k.rows
  file-sorted =
      let h : List (List ℕ) = k.header in
      let long : Each (λ r. length r ≡ length (columns_of names h)) (map (row_of names h) k.records) =
      each_map (row_of names h) (λ fs l. length-map (columns_of names h) (value_at names h fs)) k.long in
      subst Sorted (sym k.sorts) (sort_sorted long)

  pub file-ascending : Ascending t.attributes
  file-ascending = subst Ascending (ap (λ (u : Table). u.attributes) (sym k.is)) (columns-ascending k.header 0 names)

  pub file-below : Below (length names) t.attributes
  file-below = subst (Below (length names)) (ap (λ (u : Table). u.attributes) (sym k.is)) (each-imp (λ x c. omega (arith, c.below)) (columns-each k.header 0 names))

  -- the header has a first name, which is known
  pub file-some : 1 ≤ length t.attributes
  file-some = subst (λ (xs : List ℕ). 1 ≤ length xs) (ap (λ (u : Table). u.attributes) (sym k.is)) (first k.header k.known (records-some start [] [] s (k.read ∙ list-more k.header k.records)))
    where
      first : (h : List (List ℕ)) → Each (λ g. is_one names g ≡ true) h → 1 ≤ length h → 1 ≤ length (columns_of names h)
      first [] e l = absurd (omega arith)
      first (g ∷ h) (more known e) l =
          let i : ℕ = place g names in
          let named : get_or names i [] ≡ g = known_at g names known in
          mem-some (columns_of names (g ∷ h))
          (columns-mem (g ∷ h) 0 names i i (sym (zero-add i)) (ltb-true i (length names) known) (ap (is_one (g ∷ h)) named ∙ member-known g (g ∷ h) (Memᴰ.head refl)))
