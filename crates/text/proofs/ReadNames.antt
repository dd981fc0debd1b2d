-- The names at the top of a text that was read: 1 to max_attributes names, kept to the end.
--   add_at-names    == the lines after the top keep the names
--   read_text-top   == those of a text that was read are 1 to max_attributes names
--   read_text-names == each of them is a name
--   read_names     == they are the fields of the text's first line
use mathlib.Core.Path.{◌≡◌, refl, ◌∙◌}
use mathlib.Core.Bool.{true}
use mathlib.Core.List.{List, [], ◌∷◌}
use Prim.Native.Nat.{ℕ}
use native.Mathlib.Omega.{arith}
use lib.Dec.{eqb, ltb}
use lib.ListN.{length, get_or}
use borrow.Author.Tests.{eqb-false}
use Rattle.boxes.proofs.Tests.{by}
use Rattle.questions.specs.Orders.{same}
use Rattle.questions.specs.Questions.{Question}
use Rattle.fields.specs.Limits.{max_bytes}
use Rattle.fields.specs.Fields.{every, lines_of, fields_of, is_name}
use Rattle.fields.specs.Names.{top_check}
use Rattle.fields.proofs.Laws.{TopNames, top_check-names}
use Rattle.text.specs.Texts.{is_empty, open_word, add_at, read_top, read_text, top_read}
use Rattle.text.specs.declared.reader.Next.{Next}
use Rattle.text.specs.declared.reader.Next.TheVariants.{Widths, Empty, Names, Row}
use Rattle.text.specs.Puts.{top_line}
use Rattle.text.specs.Claims.{names_of}
use Rattle.text.proofs.Keeps.{text-cases, lines_keep}

pub add_at-names : (n : Next) (names : List (List ℕ)) (q : Question) (l : List ℕ) → (add_at n names q l).names ≡ names
add_at-names Widths names q l = refl
add_at-names Empty names q l = refl
add_at-names Names names q l = refl
add_at-names Row names q l = by (is_empty l) (λ e. rw e) (λ e. by (same l open_word) (λ o. rw (e, o)) (λ o. rw (e, o)))

pub read_text-top : (s : List ℕ) → (read_text s).number ≡ 0 → TopNames (read_text s).read.names
read_text-top =
    text-cases (λ e. e.number ≡ 0 → TopNames e.read.names) (λ n f e. absurd (f e)) (λ l ls t e.
    lines_keep (λ r. TopNames r.names) (λ r m c h. rw (add_at-names r.next r.names r.question m) h) (top_read l) ls (top_check-names l t))

pub read_text-names : (s : List ℕ) → (read_text s).number ≡ 0 → every is_name (read_text s).read.names ≡ true
read_text-names s e = (read_text-top s e).each

top-names : (ls : List (List ℕ)) → (read_top ls).number ≡ 0 → (read_top ls).read.names ≡ fields_of (get_or ls 0 [])
unfolding read_top
top-names [] e = absurd (omega arith)
top-names (l ∷ []) e = absurd (omega arith)
top-names (l ∷ (m ∷ ls)) e =
    by (eqb (top_check l) 0)
    (λ t. rw t (lines_keep (λ r. r.names ≡ fields_of l) (λ r k c h. add_at-names r.next r.names r.question k ∙ h) (top_read l) (m ∷ ls) refl))
    (λ f. absurd (eqb-false (top_check l) 0 f (rw f at e)))

pub read_names : (s : List ℕ) → (read_text s).number ≡ 0 → names_of s ≡ fields_of (top_line s)
unfolding read_text
read_names s e = by (ltb max_bytes (length s)) (λ t. absurd (omega (arith, rw t at e))) (λ f. rw (f, names_of) (top-names (lines_of s) (rw f at e)))
