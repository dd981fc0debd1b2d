-- Texts that differ in hidden values alone, and not in what is seen, have the same copy.
--   FieldsAlike    == two tuples agree where no attribute is hidden
--   field_alike, fields-alike == then a field of them is the same; and all are
--   line-alike, lines-alike == so are the lines of two tuples; of two lists of tuples
--   secrecy        == texts that are alike but for what is hidden have the same copy
--   refused-secrecy == so have two refused texts
--   same-call      == two calls whose copies are the same bytes end alike
use mathlib.Core.Path.{◌≡◌, refl, sym, ap, ap₂, ◌∙◌}
use mathlib.Core.Bool.{false}
use mathlib.Core.List.{List, [], ◌∷◌, map}
use Prim.Native.Nat.{ℕ, suc, ◌+◌, ◌<◌}
use native.Mathlib.Nat.{add-zero, add-suc, suc-add, zero-add}
use native.Mathlib.Omega.{arith}
use lib.ListN.{length, get_or}
use Rattle.boxes.specs.Fits.{Each, none, more}
use Rattle.boxes.proofs.Tests.{by}
use Rattle.questions.specs.Orders.{is_in}
use Rattle.questions.specs.Words.{flat}
use Rattle.text.specs.Prints.{line_of, roomy_run}
use Rattle.text.proofs.Laws.{text-even}
use Rattle.fields.specs.Decimals.{decimal}
use Rattle.copies.specs.Copies.{shown_field, shown_from, shown_line, shown_lines, end_line, copied}
use Rattle.std.specs.Prelude.{Result, Ok, Err}
use Rattle.copies.specs.declared.copy.NoRoom.{NoRoom}
use Rattle.copies.specs.Says.{lift_number, lift_bytes}
use Rattle.copies.specs.Claims.{SameHidden, SeenAlike, Secrecy, RefusedSecrecy, SameCall}
use Rattle.copies.proofs.Shown.{refused-copied, accepted-copied}

-- ---- the fields of two tuples

-- of attribute i on
record FieldsAlike (h h' : List ℕ) (i : ℕ) (p p' : List ℕ) : Type 0 where
  pub long : length p ≡ length p'
  pub hidden : (k : ℕ) → k < length p → is_in (i + k) h ≡ is_in (i + k) h'
  pub seen : (k : ℕ) → k < length p → is_in (i + k) h ≡ false → get_or p k 0 ≡ get_or p' k 0

field_alike : (h h' : List ℕ) (i v v' : ℕ) → is_in i h ≡ is_in i h' → (is_in i h ≡ false → v ≡ v') → shown_field (is_in i h) v ≡ shown_field (is_in i h') v'
field_alike h h' i v v' e f =
    by (is_in i h)
    (λ t. rw (t, sym e ∙ t))
    (λ n. rw (n, sym e ∙ n) (ap decimal (f n)))

fields-alike : (h h' : List ℕ) (i : ℕ) (p p' : List ℕ) → FieldsAlike h h' i p p' → shown_from h i p ≡ shown_from h' i p'
unfolding shown_from
fields-alike h h' i [] [] a = refl
fields-alike h h' i [] (v ∷ p) a = absurd (omega (arith, a.long))
fields-alike h h' i (v ∷ p) [] a = absurd (omega (arith, a.long))
fields-alike h h' i (v ∷ p) (v' ∷ p') a =
    let at : (k : ℕ) → i + suc k ≡ suc i + k = λ k. add-suc i k ∙ sym (suc-add i k) in
    let later : FieldsAlike h h' (suc i) p p' = record {
      long = omega (arith, a.long);
      hidden = λ k l. rw (at k) at (a.hidden (suc k) (omega arith));
      seen = λ k l n. a.seen (suc k) (omega arith) (rw (at k) n);
    } in
    ap₂ (λ (f : List ℕ) (fs : List (List ℕ)). f ∷ fs)
    (field_alike h h' i v v' (rw (add-zero i) at (a.hidden 0 (omega arith))) (λ n. a.seen 0 (omega arith) (rw (add-zero i) n)))
    (fields-alike h h' (suc i) p p' later)

-- ---- the lines of two lists of tuples

module _ {n : ℕ} {h h' : List ℕ} (same : SameHidden n h h') where
  line-alike : (p p' : List ℕ) → length p ≡ n → length p' ≡ n → ((k : ℕ) → k < n → is_in k h ≡ false → get_or p k 0 ≡ get_or p' k 0) → shown_line h p ≡ shown_line h' p'
  line-alike p p' long long' seen =
      ap line_of (fields-alike h h' 0 p p' (record {
        long = long ∙ sym long';
        hidden = λ k l. rw (zero-add k) (same.same k (omega (arith, long)));
        seen = λ k l e. seen k (omega (arith, long)) (rw (zero-add k) at e);
      }))

  lines-alike : {ts ts' : List (List ℕ)} → Each (λ p. length p ≡ n) ts → Each (λ p. length p ≡ n) ts' → SeenAlike n h ts ts' → shown_lines h ts ≡ shown_lines h' ts'
  lines-alike e e' a = ap flat (each_line e e' a)
    where
      each_line : {ts ts' : List (List ℕ)} → Each (λ p. length p ≡ n) ts → Each (λ p. length p ≡ n) ts' → SeenAlike n h ts ts' → map (shown_line h) ts ≡ map (shown_line h') ts'
      each_line none none a = refl
      each_line none (more l r) a = absurd (omega (arith, a.long))
      each_line (more l r) none a = absurd (omega (arith, a.long))
      each_line (more {x = p} {xs = ts} l r) (more {x = p'} {xs = ts'} l' r') a =
          let later : SeenAlike n h ts ts' = record { long = omega (arith, a.long); fields = λ i k b c. a.fields (suc i) k (omega arith) c } in
          ap₂ (λ (f : List ℕ) (fs : List (List ℕ)). f ∷ fs) (line-alike p p' l l' (λ k c. a.fields 0 k (omega arith) c)) (each_line r r' later)

-- ---- two texts

pub secrecy : Secrecy
secrecy h h' s s' a =
    let x = roomy_run a.question in
    let x' = roomy_run a.question' in
    let lines : shown_lines h x.tuples ≡ shown_lines h' x'.tuples = lines-alike a.hidden (text-even a.accepted _) (rw a.names (text-even a.accepted' _)) a.seen in
    let end : end_line x.number (length x.tuples) ≡ end_line x'.number (length x'.tuples) =
    ap₂ (λ (w : List ℕ) (k : ℕ). line_of (w ∷ decimal k ∷ [])) a.word a.seen.long in
    accepted-copied h a.accepted ∙ rw (a.names, lines, end) (sym (accepted-copied h' a.accepted'))

pub refused-secrecy : RefusedSecrecy
refused-secrecy h h' s s' n n' why why' = refused-copied h why ∙ sym (refused-copied h' why')

-- ---- two calls

-- an answer is its number and its count of bytes
same-answer : (r r' : Result ℕ NoRoom) → lift_number r ≡ lift_number r' → lift_bytes r ≡ lift_bytes r' → r ≡ r'
same-answer (Ok k) (Ok m) number bytes = ap Ok bytes
same-answer (Err x) (Err y) number bytes = ap (λ (k : ℕ). Err (record { bytes = k })) bytes
same-answer (Ok k) (Err y) number bytes = absurd (omega arith)
same-answer (Err x) (Ok m) number bytes = absurd (omega arith)

pub same-call : SameCall
same-call h h' s s' o u u' r r' e c c' =
    let long : length (copied h s) ≡ length (copied h' s') = ap length e in
    let number : lift_number r ≡ lift_number r' = c.number ∙ rw e (sym c'.number) in
    let bytes : lift_bytes r ≡ lift_bytes r' = c.bytes ∙ long ∙ sym c'.bytes in
    (same-answer r r' number bytes, c.out ∙ rw e (sym c'.out))
