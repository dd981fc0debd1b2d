-- What every line that passes keeps, reading a text keeps.
--   text-cases   == a text is refused by its top line or before it, or the lines after that are read
--   lines_keep   == over the lines that follow
--   text-keeps   == over a whole text
use mathlib.Core.Path.{◌≡◌}
use mathlib.Core.List.{List, [], ◌∷◌}
use Prim.Native.Nat.{ℕ}
use native.Mathlib.Omega.{arith}
use borrow.Author.Tests.{eqb-true, eqb-false}
use lib.Dec.{eqb, ltb}
use lib.ListN.{length}
use Rattle.boxes.proofs.Tests.{by}
use Rattle.fields.specs.Limits.{max_bytes}
use Rattle.fields.specs.Fields.{lines_of}
use Rattle.fields.specs.Names.{top_check}
use Rattle.text.specs.Texts.{Read, Ended, ended, line_check, line_add, read_lines, nothing, read_top, read_text, top_read}

-- ---- the top line

module _ (Q : Ended → Type 0) (refused : (n : ℕ) → (n ≡ 0 → ⊥) → Q (ended n nothing)) (passed : (l : List ℕ) (ls : List (List ℕ)) → top_check l ≡ 0 → Q (read_lines (top_read l) ls)) where
  top-cases : (ls : List (List ℕ)) → Q (read_top ls)
  unfolding read_top
  top-cases [] = refused 15 (λ e. omega arith)
  top-cases (l ∷ []) = refused 15 (λ e. omega arith)
  top-cases (l ∷ (m ∷ ls)) =
      by (eqb (top_check l) 0) (λ t. rw t (passed l (m ∷ ls) (eqb-true (top_check l) 0 t))) (λ f. rw f (refused (top_check l) (eqb-false (top_check l) 0 f)))

  pub text-cases : (s : List ℕ) → Q (read_text s)
  unfolding read_text
  text-cases s = by (ltb max_bytes (length s)) (λ t. rw t (refused 17 (λ e. omega arith))) (λ f. rw f (top-cases (lines_of s)))

-- ---- the lines after it

module _ (P : Read → Type 0) (line : (r : Read) (l : List ℕ) → line_check r l ≡ 0 → P r → P (line_add r l)) where
  pub lines_keep : (r : Read) (ls : List (List ℕ)) → P r → P (read_lines r ls).read
  unfolding read_lines
  lines_keep r [] p = p
  lines_keep r (l ∷ []) p = p
  lines_keep r (l ∷ (m ∷ ls)) p = by (eqb (line_check r l) 0) (λ t. rw t (lines_keep (line_add r l) (m ∷ ls) (line r l (eqb-true (line_check r l) 0 t) p))) (λ f. rw f p)

  pub text-keeps : P nothing → ((l : List ℕ) → top_check l ≡ 0 → P (top_read l)) → (s : List ℕ) → P (read_text s).read
  text-keeps none top s = text-cases (λ e. P e.read) (λ n f. none) (λ l ls t. lines_keep (top_read l) ls (top l t)) s
