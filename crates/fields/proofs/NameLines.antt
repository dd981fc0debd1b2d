-- A line of names, field by field.
--   Named steps l s n b d == of the n fields of a line so far: b, whether all are names, and d, whether no two are the same
--   named-start, named-more, named-end == of a loop over a line's fields: at the start; one more; at the end
use mathlib.Core.Path.{◌≡◌, refl, sym, ap, ap₂, ◌∙◌}
use mathlib.Core.Bool.{Bool, true, not}
use mathlib.Core.List.{List, [], ◌∷◌, ◌++◌}
use Prim.Native.Nat.{ℕ, suc, ◌<◌}
use native.Mathlib.Numerals.{add-one}
use native.Mathlib.Omega.{arith}
use lib.Dec.{eqb}
use lib.ListN.{length}
use Rattle.std.specs.Prelude.{◌&&◌, Option, Some, None}
use Rattle.std.proofs.lemmas.Iterator.{YieldsList}
use denote.Ref.{Bor}
use Rattle.boxes.specs.Every.{every}
use Rattle.boxes.proofs.Every.{every-none, every-end}
use Rattle.boxes.proofs.Lists.{length-end}
use Rattle.fields.specs.Limits.{farthest, onward}
use Rattle.fields.specs.Fields.{fields_of, is_name, place, is_one, distinct}
use Rattle.fields.specs.Lines.{name_line}
use Rattle.fields.proofs.Onward.{onward_near}
use Rattle.fields.proofs.Parts.{length-fields_of}
use Rattle.fields.proofs.Places.{place-again, distinct-end}
use Rattle.fields.proofs.Cuts.{Cutting, cut_start, cut_step, cut_at, cut_more, cut_next, cut_end}

pub record Named {S : Type 0} (steps : S → Option (Bor (List ℕ)) → S → Type 0) (l : List ℕ) (s : S) (n : ℕ) (b d : Bool) : Type 0 where
  pub fields : List (List ℕ)
  pub cutting : Cutting steps (λ x. x.now) s fields (fields_of l)
  pub named : b ≡ every is_name fields
  pub distinct : d ≡ distinct fields
  pub count : n ≡ length fields

distinct-none : true ≡ distinct []
unfolding distinct
distinct-none = refl

module _ {S : Type 0} {steps : S → Option (Bor (List ℕ)) → S → Type 0} {l : List ℕ} where
  pub named-start : {s : S} → YieldsList steps (λ x. x.now) s (fields_of l) → Named steps l s 0 true true
  named-start y = record { fields = []; cutting = cut_start y; named = sym (every-none is_name); distinct = distinct-none; count = refl }

  module _ {s : S} {n : ℕ} {b d : Bool} (a : Named steps l s n b d) where
    pub named-more : {t : S} {x : Bor (List ℕ)} {r : Option (Bor (List ℕ))} → r ≡ Some x → steps s r t → {m : ℕ} {c e : Bool} → length l < farthest
        → c ≡ (b && is_name x.now) → e ≡ (d && eqb (place x.now (fields_of l)) n) → m ≡ onward n 1 → Named steps l t m c e
    named-more {t} {x} {r} took h {m} {c} {e} low names differs next =
        let few : n < farthest = omega (arith, a.count, cut_next a.cutting took h, length-fields_of l) in
        let rest : List (List ℕ) = (cut_step a.cutting took h).0 in
        let first : eqb (place x.now (fields_of l)) n ≡ not (is_one a.fields x.now) =
        ap₂ (λ (fs : List (List ℕ)) (k : ℕ). eqb (place x.now fs) k) (cut_at a.cutting took h) a.count ∙ place-again x.now a.fields rest
        in
        record {
          fields = a.fields ++ (x.now ∷ []);
          cutting = cut_more a.cutting took h;
          named = names ∙ ap (λ (f : Bool). f && is_name x.now) a.named ∙ sym (every-end is_name a.fields x.now);
          distinct = differs ∙ ap₂ (λ (f g : Bool). f && g) a.distinct first ∙ sym (distinct-end a.fields x.now);
          count = next ∙ onward_near n 1 (omega arith) ∙ add-one n ∙ ap suc a.count ∙ sym (length-end a.fields x.now);
        }

    pub named-end : {t : S} {r : Option (Bor (List ℕ))} → r ≡ None → steps s r t → record { count = n; named = b; distinct = d } ≡ name_line l
    named-end over h =
        let all = cut_end a.cutting over h in
        rw (a.count ∙ ap length (sym all), a.named ∙ ap (every is_name) (sym all), a.distinct ∙ ap distinct (sym all)) refl
