-- What stands before the tables of a question.
--   front_at     == the tables behind it stand in the words
--   found-long   == there is a highest value for each attribute that a question may have
--   front-widths == the least widths of the first of them are those that the tables need
use mathlib.Core.Path.{◌≡◌, refl, sym, ap, ◌∙◌}
use mathlib.Core.List.{List, [], ◌∷◌}
use Prim.Native.Nat.{ℕ, ◌<◌}
use native.Mathlib.Omega.{arith}
use lib.ListN.{length, get_or, take, length-map, get_or-replicate}
use lib.Seq.{length-take-le, get_or-take, ext_get_or}
use Rattle.boxes.specs.Limits.{max_attributes}
use Rattle.boxes.proofs.Lists.{get_d_map}
use Rattle.boxes.proofs.Laws.{zeros}
use Rattle.files.specs.Widths.{attribute_values, least_width, widths_for}
use Rattle.files.specs.Parts.{first_words, FrontAsk}
use Rattle.files.specs.Raising.{highest, raise_tables, TablesAt, widths_of}
use Rattle.files.proofs.Highest.{highest-least}
use Rattle.files.proofs.TableWidths.{widths-length, widths-at}
use Rattle.files.proofs.RaisedTables.{length-tables, tables-at, tables-values}

module _ {w : List ℕ} {n k : ℕ} (f : FrontAsk w n k) where
  pub front_at : TablesAt w k (first_words n)
  front_at = rw f.count (tables-at w f.few f.back (first_words n) f.over f.stand)

  abbrev found : List ℕ
  found = raise_tables w k (first_words n) zeros

  pub found-long : length (widths_of found) ≡ max_attributes
  found-long = length-map found (λ h. least_width (h ∷ [])) ∙ length-tables w k (first_words n) zeros

  found_at : (a : ℕ) → a < max_attributes → get_or found a 0 ≡ highest (attribute_values a f.tables)
  found_at a h =
      ap (λ (l : ℕ). get_or (raise_tables w l (first_words n) zeros) a 0) f.count
      ∙ tables-values w f.few f.back a (first_words n) f.over f.stand zeros refl
      ∙ omega (arith, get_or-replicate {A = ℕ} max_attributes a 0 0 h)

  pub front-widths : take n (widths_of found) ≡ widths_for n f.tables
  front-widths =
      let long : length (take n (widths_of found)) ≡ n = length-take-le n (widths_of found) (omega (arith, found-long, f.few)) in
      ext_get_or 0 (take n (widths_of found)) (widths_for n f.tables) (long ∙ sym (widths-length n f.tables))
      (λ i l.
      let within : i < n = omega arith in
      get_or-take n (widths_of found) i 0 within
      ∙ get_d_map (λ h. least_width (h ∷ [])) found i 0 0 (omega (arith, length-tables w k (first_words n) zeros, f.few))
      ∙ ap (λ (h : ℕ). least_width (h ∷ [])) (found_at i (omega (arith, f.few)))
      ∙ highest-least (attribute_values i f.tables)
      ∙ sym (widths-at n f.tables i within))
