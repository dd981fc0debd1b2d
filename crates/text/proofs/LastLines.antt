-- Lines one after the other read back line by line; the last line of each print.
--   lines_of-lines   == the lines of lines that stand before a text
--   line_fields-lines    == the last of lines one after the other
--   line_fields-alone, line_fields-after == of a line alone; of one after a line of names and others
--   decimals-plain, tuples-plain == decimals have no separator
--   line_fields-refusal, line_fields-listing == the last line of a refusal; of a listing
use mathlib.Core.Path.{◌≡◌, refl, sym, ap, ◌∙◌}
use mathlib.Core.List.{List, [], ◌∷◌, ◌++◌, map, map-map, append_assoc}
use Prim.Native.Nat.{ℕ, ◌-◌}
use native.Mathlib.Omega.{arith}
use lib.ListN.{length, get_or, length-append}
use lib.Seq.{append_snoc, get_or_at}
use Rattle.boxes.specs.Fits.{Each, none, more}
use Rattle.boxes.proofs.Lists.{each-imp}
use Rattle.questions.specs.Words.{flat}
use Rattle.questions.proofs.Laws.{flat-none, flat-more}
use Rattle.fields.specs.Fields.{space, line_end, every, lines_of, fields_of}
use Rattle.fields.specs.Decimals.{decimal}
use Rattle.fields.specs.Writing.{joined}
use Rattle.fields.proofs.Laws.{digits_decimal, Plain, split-free, split-more, fields_of-joined, joined_free, digits-plain, letters-plain}
use Rattle.text.specs.Prints.{line_of, refused_word, tuple_lines, refusal}
use Rattle.text.specs.Claims.{line_fields}

-- ---- lines one after the other

pub lines_of-lines : {gs : List (List (List ℕ))} (t : List ℕ) → Each (Each Plain) gs → lines_of (flat (map line_of gs) ++ t) ≡ map (joined space) gs ++ lines_of t
lines_of-lines t none = rw flat-none
lines_of-lines t (more {x = g} {xs = gs} p r) =
    let rest : List ℕ = flat (map line_of gs) in
    let line : flat (map line_of (g ∷ gs)) ≡ joined space g ++ (line_end ∷ []) ++ rest =
    flat-more (line_of g) (map line_of gs) in
    let text : flat (map line_of (g ∷ gs)) ++ t ≡ joined space g ++ (line_end ∷ (rest ++ t)) =
    ap (λ (l : List ℕ). l ++ t) line ∙ append_assoc (joined space g ++ (line_end ∷ [])) rest t ∙ append_snoc (joined space g) line_end (rest ++ t) in
    ap lines_of text ∙ split-more line_end (rest ++ t) (joined_free g (each-imp (λ f h. h.1) p)) ∙ ap (λ (ls : List (List ℕ)). joined space g ∷ ls) (lines_of-lines t r)

pub line_fields-lines : {gs : List (List (List ℕ))} {f : List ℕ} {fs : List (List ℕ)} → Each (Each Plain) gs → Each Plain (f ∷ fs)
    → line_fields (flat (map line_of gs) ++ line_of (f ∷ fs)) ≡ f ∷ fs
line_fields-lines {gs} {f} {fs} r p =
    let line : List ℕ = joined space (f ∷ fs) in
    let front : List (List ℕ) = map (joined space) gs in
    let ends : lines_of (line_of (f ∷ fs)) ≡ line ∷ ([] ∷ []) =
    split-more line_end [] (joined_free (f ∷ fs) (each-imp (λ g h. h.1) p)) ∙ ap (λ (ls : List (List ℕ)). line ∷ ls) (split-free line_end none) in
    let lines : lines_of (flat (map line_of gs) ++ line_of (f ∷ fs)) ≡ front ++ (line ∷ ([] ∷ [])) =
    lines_of-lines (line_of (f ∷ fs)) r ∙ ap (λ (ls : List (List ℕ)). front ++ ls) ends in
    let at : length front ≡ length (front ++ (line ∷ ([] ∷ []))) - 2 = omega (arith, length-append front (line ∷ ([] ∷ []))) in
    ap (λ (ls : List (List ℕ)). fields_of (get_or ls (length ls - 2) [])) lines
    ∙ ap fields_of (get_or_at front line ([] ∷ []) [] (length (front ++ (line ∷ ([] ∷ []))) - 2) at)
    ∙ fields_of-joined f fs (each-imp (λ g h. h.0) p)

-- a line alone; one after a line of names and others
pub line_fields-alone : {f : List ℕ} {fs : List (List ℕ)} → Each Plain (f ∷ fs) → line_fields (line_of (f ∷ fs)) ≡ f ∷ fs
line_fields-alone {f} {fs} p = ap line_fields (ap (λ (l : List ℕ). l ++ line_of (f ∷ fs)) (sym flat-none)) ∙ line_fields-lines none p

pub line_fields-after : {names : List (List ℕ)} {gs : List (List (List ℕ))} {f : List ℕ} {fs : List (List ℕ)} → Each Plain names → Each (Each Plain) gs → Each Plain (f ∷ fs)
    → line_fields (line_of names ++ flat (map line_of gs) ++ line_of (f ∷ fs)) ≡ f ∷ fs
line_fields-after {names} {gs} {f} {fs} h r p = ap (λ (l : List ℕ). line_fields (l ++ line_of (f ∷ fs))) (sym (flat-more (line_of names) (map line_of gs))) ∙ line_fields-lines (more h r) p

-- ---- the prints

pub decimals-plain : (vs : List ℕ) → Each Plain (map decimal vs)
decimals-plain [] = none
decimals-plain (v ∷ vs) = more (digits-plain (decimal v) (digits_decimal v)) (decimals-plain vs)

tuples-plain : (ts : List (List ℕ)) → Each (Each Plain) (map (map decimal) ts)
tuples-plain [] = none
tuples-plain (p ∷ ts) = more (decimals-plain p) (tuples-plain ts)

pub line_fields-refusal : (n : ℕ) → line_fields (refusal n) ≡ refused_word ∷ decimal n ∷ []
unfolding every
line_fields-refusal n = line_fields-alone (more (letters-plain refused_word refl) (decimals-plain (n ∷ [])))

pub line_fields-listing : {names : List (List ℕ)} {f : List ℕ} {fs : List (List ℕ)} (ts : List (List ℕ)) → Each Plain names → Each Plain (f ∷ fs)
    → line_fields (line_of names ++ tuple_lines ts ++ line_of (f ∷ fs)) ≡ f ∷ fs
line_fields-listing {names} {f} {fs} ts h p =
    ap (λ (ls : List (List ℕ)). line_fields (line_of names ++ flat ls ++ line_of (f ∷ fs))) (sym (map-map line_of (map decimal) ts)) ∙ line_fields-after h (tuples-plain ts) p
