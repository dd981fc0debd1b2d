-- An answer put into a slice.
--   top_line-part  == the text's first line is its first part
--   top-puts      == it is put with its end
--   run-puts      == the names, lines for the tuples and the last line, put one after the other
--   prints-says   == what is printed, where the bytes are those
use mathlib.Core.Path.{◌≡◌, refl, sym, ap, ◌∙◌}
use mathlib.Core.List.{List, [], ◌∷◌, ◌++◌, map}
use Prim.Native.Nat.{ℕ, ◌*◌, ◌≤◌}
use native.Mathlib.Nat.{sub-zero}
use native.Mathlib.Omega.{arith}
use lib.ListN.{length, get_or, take}
use Rattle.questions.specs.Directories.{rows_of}
use Rattle.questions.specs.Words.{flat}
use Rattle.fields.specs.Fields.{line_end, fields_of}
use Rattle.fields.specs.Parts.{PartEnd}
use Rattle.fields.specs.Puts.{Puts, PrintsWith}
use Rattle.fields.specs.Writing.{tuples_of}
use Rattle.fields.proofs.Laws.{parts_from-all, puts_then, puts-same, prints-counted, tuples_of-front}
use Rattle.text.specs.Prints.{line_of, printed}
use Rattle.text.specs.Says.{ListSays}
use Rattle.text.specs.Puts.{top_line}
use Rattle.text.proofs.PrintedLines.{line-fields}
use Rattle.text.proofs.Page.{printed-short}

top_line-part : {s : List ℕ} {r : ℕ} → PartEnd line_end s 0 r → top_line s ≡ take r s
top_line-part {s} {r} p =
    ap (λ (ls : List (List ℕ)). get_or ls 0 []) (sym (parts_from-all line_end s) ∙ p.parts) ∙ ap (λ (k : ℕ). take k s) (sub-zero r)

-- the line and its end
pub top-puts : {s o o₁ o₂ : List ℕ} {top a b : ℕ} → PartEnd line_end s 0 top → Puts (take top s) 0 o o₁ a → Puts (line_end ∷ []) a o₁ o₂ b
    → Puts (line_of (fields_of (top_line s))) 0 o o₂ b
top-puts {s} p names end = puts-same (line-fields (top_line s) ∙ ap (λ (x : List ℕ). x ++ (line_end ∷ [])) (top_line-part p)) refl refl (puts_then names end)

-- a run of n values a tuple and k tuples: its tuples are the front of the listing, whatever is put for each of them
pub run-puts : (f : List ℕ → List ℕ) (s l : List ℕ) (n k : ℕ) {last o o₁ o₂ o₃ : List ℕ} {a b c : ℕ} → 1 ≤ n → k * n ≤ length l → Puts (line_of (fields_of (top_line s))) 0 o o₁ a
    → Puts (flat (map f (tuples_of n (take (k * n) l)))) a o₁ o₂ b → Puts last b o₂ o₃ c → Puts (line_of (fields_of (top_line s)) ++ flat (map f (rows_of l 0 n k)) ++ last) 0 o o₃ c
run-puts f s l n k some within names tuples last =
    puts_then (puts_then names (puts-same (ap (λ (ts : List (List ℕ)). flat (map f ts)) (sym (tuples_of-front n l k some within))) refl refl tuples)) last

pub prints-says : {bs s o o' : List ℕ} {r : ℕ} → bs ≡ printed s → PrintsWith bs o o' r → ListSays s o o' r
prints-says {s = s} e p = record { count = prints-counted (rw e (omega (arith, printed-short s))) p ∙ ap length e; bytes = p.bytes ∙ rw e }
