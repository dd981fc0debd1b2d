-- A join whose names, number of files or files are refused.
--   refusal-early, refusal-asked == the number is none of 0, 13 and 14, and it is that of the first question answered no
--   refusal-file, refusal-none == a file that is named is the first that is refused; where none is, no record is
--   refused-join   == what such a join delivers
use mathlib.Core.Path.{◌≡◌, refl, sym, ◌∙◌, subst}
use mathlib.Core.Logic.{inl, inr}
use mathlib.Core.List.{List}
use Prim.Native.Nat.{ℕ}
use native.Mathlib.Omega.{arith}
use lib.ListN.{length}
use Rattle.questions.specs.Questions.{tables_check}
use Rattle.questions.proofs.Laws.{first_on}
use Rattle.fields.specs.Fields.{fields_of}
use Rattle.fields.specs.Names.{top_check}
use Rattle.files.specs.Gathers.{refused_at}
use Rattle.files.specs.Says.{refusal_at, JoinWith}
use Rattle.files.specs.Claims.{RefusedFile, join_asked, JoinDelivered}
use Rattle.files.specs.declared.join.CsvJoin.{CsvJoin}
use Rattle.files.proofs.FilesGathered.{refused-file, check-passed, GatheredSo}
use Rattle.files.proofs.JoinOrder.{Early, early-some, early-run, refused-early, check-early, asked-check, asked-file}

module _ (l s es : List ℕ) {n f r : ℕ} where
  refusal-early : GatheredSo l s es (refused_at n f r) → Early n
  refusal-early (inl (e, some, d, k)) = subst Early e (check-early l es (λ z. some (sym e ∙ z)))
  refusal-early (inr (e, (i, d, file))) = refused-early l s file

  refusal-asked : (v w o : List ℕ) → GatheredSo l s es (refused_at n f r) → n ≡ join_asked l s es v w o
  refusal-asked v w o (inl (e, some, d, k)) = sym (asked-check l s es v w o (λ z. some (sym e ∙ z)) ∙ e)
  refusal-asked v w o (inr (e, (i, d, file))) = sym (asked-file l s es v w o e file)

  refusal-file : GatheredSo l s es (refused_at n f r) → (f ≡ 0 → ⊥) → RefusedFile l s es n f r
  refusal-file (inl (e, some, d, k)) h = absurd (h d)
  refusal-file (inr (e, (i, d, file))) h = subst (λ (m : ℕ). RefusedFile l s es n m r) (sym d) (let p = check-passed l es e in refused-file p.0 p.3 file)

  refusal-named : GatheredSo l s es (refused_at n f r) → top_check l ≡ 0 → tables_check (length es) ≡ 0 → f ≡ 0 → ⊥
  refusal-named (inl (e, some, d, k)) named count z = some (sym e ∙ first_on _ named ∙ count)
  refusal-named (inr (e, (i, d, file))) named count z = omega (arith, d, z)

  refusal-none : GatheredSo l s es (refused_at n f r) → f ≡ 0 → r ≡ 0
  refusal-none (inl (e, some, d, k)) z = k
  refusal-none (inr (e, (i, d, file))) z = absurd (omega (arith, d, z))

pub refused-join : (l s es v : List ℕ) {v' : List ℕ} (w : List ℕ) {w' : List ℕ} (x : List ℕ) {x' : List ℕ} (o : List ℕ) {o' : List ℕ} {j : CsvJoin} {n f r : ℕ}
    → GatheredSo l s es (refused_at n f r) → JoinWith (fields_of l) (refused_at n f r) v v' w w' x x' o o' j → JoinDelivered l s es v v' w w' x x' o o' j
refused-join l s es v {v'} w {w'} x {x'} o {o'} {n = n} {f = f} {r = r} so (is, listing, store, scratch, out) =
    let early : Early n = refusal-early l s es so in
    let answer : JoinDelivered l s es v v' w w' x x' o o' (refusal_at n f r) = record {
      number = refusal-asked l s es v w o so;
      kept = λ h. out;
      refused = λ a b c. (listing, store, scratch, refl, refl, refl, refl);
      refused-file = λ h. refusal-file l s es so h;
      named-file = λ a b h z. refusal-named l s es so a b z;
      no-file = λ z. refusal-none l s es so z;
      ran = λ h. absurd (early-run early h);
      complete = λ z. absurd (early-some early z);
      short = λ z b. absurd (b refl);
    } in
    subst (JoinDelivered l s es v v' w w' x x' o o') (sym is) answer
