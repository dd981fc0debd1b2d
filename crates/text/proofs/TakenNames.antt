-- Lines of names: what became of a table's names.
--   names-refused, names-unknown, names-taken   == a table's names
--   names-are   == what such a line is
--   names-room, names-long == these have room, and the words stay as many
use mathlib.Core.Path.{◌≡◌, refl, sym, ap, ◌∙◌}
use mathlib.Core.Bool.{Bool, true, false, ◌&&◌, not}
use mathlib.Core.List.{List, [], ◌∷◌, ◌++◌}
use Prim.Native.Nat.{ℕ, suc, ◌+◌, ◌≤◌}
use native.Mathlib.Omega.{arith}
use lib.ListN.{length, set, length-map, length-set}
use lib.Seq.{paste, length-paste}
use Rattle.boxes.specs.Limits.{max_attributes}
use Rattle.questions.specs.Questions.{table_with, when}
use Rattle.fields.specs.Limits.{max_bytes}
use Rattle.fields.specs.Fields.{every, fields_of, place, is_one, distinct}
use Rattle.fields.specs.Lines.{places_of, values, places_in}
use Rattle.fields.specs.Names.{names_in}
use Rattle.fields.specs.declared.lines.NamesRefusal.{NamesRefusal}
use Rattle.fields.specs.declared.lines.NamesRefusal.TheVariants.{Malformed, Repeated}
use Rattle.fields.proofs.Laws.{given_some, given_none, named, named-is, NamesIn, names_in-malformed, names_in-repeated, names_in-names, length-filled, places_in-short}
use Rattle.text.specs.Texts.{Read, read_of, check_at, line_check, add_at, line_add}
use Rattle.text.specs.Progressing.{Stands, Safe, WordsBounded}
use Rattle.text.specs.Reads.{TakeSays}
use Rattle.text.specs.declared.reader.Next.{Next}
use Rattle.text.specs.declared.reader.Next.TheVariants.{Widths, Names, Row}
use Rattle.text.specs.declared.reader.Progress.{Progress}
use Rattle.std.specs.Prelude.{Result, Ok, Err, Some, None}
use Rattle.text.specs.Refusals.{of_names}
use Rattle.text.specs.declared.refusal.TextRefusal.{TextRefusal}
use Rattle.text.specs.declared.refusal.TextRefusal.TheVariants as of_text
use Rattle.text.proofs.Nexts.{next-other}
use Rattle.text.proofs.Steps.{take-refused, take-passed}
use Rattle.text.proofs.Standing.{after_names, stands-names}

module _ (top l w : List ℕ) (p : Progress) where
  -- all of the line's names are known from the top
  abbrev known : Bool
  known = every (is_one (fields_of top)) (fields_of l)

  names-check : p.next ≡ Names → (r : Read) (v : List ℕ) → Stands top r p v w → line_check r l ≡ named p.dimension (fields_of l) (distinct (fields_of l) && known)
  names-check e r v h =
      let fs = fields_of l in
      ap (λ (n : Next). check_at n r l) (sym h.next ∙ e)
      ∙ ap (λ (ns : List (List ℕ)). named (length ns) fs (distinct fs && every (is_one ns) fs)) h.names
      ∙ ap (λ (k : ℕ). named k fs (distinct fs && known)) (sym (h.dimension ∙ ap length h.names))

  pub names-refused : (e : NamesRefusal) {s : Result Progress TextRefusal} → names_in p.dimension l ≡ Err e → s ≡ Err (of_names e) → p.next ≡ Names → TakeSays top l w w p s
  names-refused Malformed wrong is at =
      take-refused of_text.Malformed 14 refl is (λ r v h. names-check at r v h ∙ names_in-malformed p.dimension l wrong (distinct (fields_of l) && known))
  names-refused Repeated twice is at =
      let names = names_in-repeated p.dimension l twice in
      take-refused of_text.Names 15 refl is
      (λ r v h. names-check at r v h ∙ named-is p.dimension (fields_of l) (distinct (fields_of l) && known) names.few names.right ∙ rw names.twice refl)

  module _ {k : ℕ} (is : names_in p.dimension l ≡ Ok k) where
    pub names-are : NamesIn p.dimension l k
    names-are = names_in-names p.dimension l is

    pub names-room : Safe p l w → length (fields_of l) ≤ suc (length l) → p.words + k + 2 ≤ length w
    names-room safe short = omega (arith, names-are.count, safe.room)

    checked : (b : Bool) → known ≡ b → named p.dimension (fields_of l) (distinct (fields_of l) && known) ≡ when (not b) 16
    checked b e = named-is p.dimension (fields_of l) (distinct (fields_of l) && known) names-are.few names-are.right ∙ rw (names-are.distinct, e) refl

    pub names-unknown : {s : Result Progress TextRefusal} → places_in top l ≡ None → s ≡ Err of_text.Names → p.next ≡ Names → TakeSays top l w w p s
    names-unknown none e at = take-refused of_text.Names 15 refl e (λ r v h. names-check at r v h ∙ checked false (given_none known _ none))

    module _ {vs : List ℕ} (places : places_in top l ≡ Some vs) (safe : Safe p l w) (short : length (fields_of l) ≤ suc (length l)) (near : length top ≤ max_bytes) where
      abbrev found : List ℕ
      found = places_of (fields_of top) l

      found_are : (known ≡ true) × (vs ≡ values found)
      found_are = given_some known (values found) vs (sym (places_in-short top l (omega arith)) ∙ places)

      -- the words with the number of tables and the number of the table's attributes
      abbrev counted : List ℕ
      counted = set (set w (p.dimension + 1) (p.tables + 1)) p.words k

      names-counted : length counted ≡ length w
      names-counted = length-set (set w (p.dimension + 1) (p.tables + 1)) p.words k ∙ length-set w (p.dimension + 1) (p.tables + 1)

      all_found : length found ≡ k
      all_found = length-map (fields_of l) (λ f. place f (fields_of top)) ∙ sym names-are.count

      written : paste counted (p.words + 1) vs k ≡ paste counted (p.words + 1) (values found) k
      written = ap (λ (xs : List ℕ). paste counted (p.words + 1) xs k) found_are.1

      module _ (put : List ℕ) (made : put ≡ paste counted (p.words + 1) vs k) where
        pub names-long : length put ≡ length w
        names-long =
            let f : length found ≤ max_attributes = omega (arith, all_found, names-are.few, names-are.count, safe.few) in
            ap length (made ∙ written)
            ∙ length-paste counted (p.words + 1) (values found) k (omega (arith, names-room safe short, names-counted)) (omega (arith, length-filled found f, f, all_found))
            ∙ names-counted

        names_stand : p.next ≡ Names → (r : Read) (v : List ℕ) → Stands top r p v w → Stands top (line_add r l) (after_names p k) v (set put (p.words + 1 + k) 0)
        names_stand e r v h =
            let line : line_add r l ≡ read_of Row r.names r.question.widths (r.question.tables ++ (table_with found [] ∷ [])) =
            ap (λ (m : Next). add_at m r.names r.question l) (sym h.next ∙ e)
            ∙ ap (λ (ns : List (List ℕ)). read_of Row r.names r.question.widths (r.question.tables ++ (table_with (places_of ns l) [] ∷ []))) h.names in
            rw (line, made, written)
            (stands-names h found k (λ y. next-other Names Widths refl (sym e ∙ y)) all_found (omega (arith, names-are.few, names-are.count, safe.few)) (names-room safe short))

        names-grown : p.next ≡ Names → (at : ℕ) → WordsBounded p at → WordsBounded (after_names p k) (at + length l + 1)
        names-grown e at g = record {
          few = g.few;
          arity = omega (arith, names-are.few, names-are.count, safe.few);
          tables = omega (arith, g.begun e);
          begun = λ y. next-other Row Names refl y;
          rows = omega arith;
          counter = omega arith;
          words = omega (arith, g.words, names-are.count);
        }

        pub names-taken : {s : Result Progress TextRefusal} → s ≡ Ok (after_names p k) → p.next ≡ Names → TakeSays top l w (set put (p.words + 1 + k) 0) p s
        names-taken e at = take-passed (after_names p k) e (λ r v h. names-check at r v h ∙ checked true found_are.0) (names_stand at) (names-grown at)
