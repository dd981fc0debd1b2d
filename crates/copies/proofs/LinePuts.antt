-- A line put field by field, with the byte between two and at the end the line's end.
--   LinePut fs at o o₁ end i == the first i of the fields are put, each with a space; at least one is left
--   line-none, line-turn, line-end == none yet; one more; the last one
use mathlib.Core.Path.{◌≡◌, refl, sym, ap, ◌∙◌}
use mathlib.Core.List.{List, [], ◌∷◌, ◌++◌, append_assoc}
use Prim.Native.Nat.{ℕ, suc, ◌+◌, ◌<◌}
use native.Mathlib.Numerals.{add-one}
use native.Mathlib.Omega.{arith}
use lib.ListN.{length, get_or, drop}
use lib.Seq.{drop-cons, drop-length}
use Rattle.fields.specs.Limits.{farthest}
use Rattle.fields.specs.Fields.{space, line_end}
use Rattle.fields.specs.Puts.{Puts}
use Rattle.fields.proofs.Laws.{line-one, line_first, puts_none, puts_then, puts-same}
use Rattle.text.specs.Prints.{line_of}

pub record LinePut (fs : List (List ℕ)) (at : ℕ) (o o₁ : List ℕ) (end i : ℕ) : Type 0 where
  pub front : List ℕ
  pub is : line_of fs ≡ front ++ line_of (drop i fs)
  pub puts : Puts front at o o₁ end
  pub left : i < length fs

pub line-none : (fs : List (List ℕ)) (at : ℕ) (o : List ℕ) → 0 < length fs → length o < farthest → LinePut fs at o o at 0
line-none fs at o some h = record { front = []; is = refl; puts = puts_none at o h; left = some }

module _ {fs : List (List ℕ)} {at end i : ℕ} {o o₁ : List ℕ} (p : LinePut fs at o o₁ end i) where
  pub line-turn : {o₂ : List ℕ} {r : ℕ} → suc i < length fs → Puts (get_or fs i [] ++ (space ∷ [])) end o₁ o₂ r → LinePut fs at o o₂ r (i + 1)
  line-turn h q =
      let f : List ℕ = get_or fs i [] in
      let g : List ℕ = get_or fs (suc i) [] in
      let gs : List (List ℕ) = drop (suc (suc i)) fs in
      let rest : drop (suc i) fs ≡ g ∷ gs = drop-cons fs (suc i) [] h in
      let all : line_of (drop i fs) ≡ (f ++ (space ∷ [])) ++ line_of (drop (suc i) fs) =
      ap line_of (drop-cons fs i [] p.left ∙ ap (λ (l : List (List ℕ)). f ∷ l) rest) ∙ line_first space (line_end ∷ []) f g gs
      ∙ ap (λ (l : List (List ℕ)). (f ++ (space ∷ [])) ++ line_of l) (sym rest) in
      record {
        front = p.front ++ (f ++ (space ∷ []));
        is = p.is ∙ ap (λ (l : List ℕ). p.front ++ l) all ∙ sym (append_assoc p.front (f ++ (space ∷ [])) (line_of (drop (suc i) fs)))
            ∙ ap (λ (k : ℕ). (p.front ++ (f ++ (space ∷ []))) ++ line_of (drop k fs)) (sym (add-one i));
        puts = puts_then p.puts q;
        left = omega arith;
      }

  pub line-end : {o₂ : List ℕ} {r : ℕ} → suc i ≡ length fs → Puts (get_or fs i [] ++ (line_end ∷ [])) end o₁ o₂ r → Puts (line_of fs) at o o₂ r
  line-end e q =
      let f : List ℕ = get_or fs i [] in
      let all : line_of (drop i fs) ≡ f ++ (line_end ∷ []) =
      ap line_of (drop-cons fs i [] p.left ∙ ap (λ (l : List (List ℕ)). f ∷ l) (ap (λ (k : ℕ). drop k fs) e ∙ drop-length fs)) ∙ line-one space (line_end ∷ []) f in
      puts-same (p.is ∙ ap (λ (l : List ℕ). p.front ++ l) all) refl refl (puts_then p.puts q)
