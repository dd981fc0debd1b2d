-- The parts of the check as the code asks them.
--   parts_are     == how many whole parts there are, by a division
--   whole-parts   == whether there is nothing else, by what is left over
--   tuple-past, tuple_is == no such tuple; its box
--   resolvent-is  == the boxes of two records, and a third
--   records_are   == the records, out of the words
--   record_is     == a record by its kind
--   records-all   == all records, one after the other
use Rattle.std.proofs.Common.{◌≡◌, refl, sym, ap, ap₂, ◌∙◌, ℕ, zero, suc, ◌+◌, ◌-◌, ◌*◌, ◌/◌, ◌%◌, ◌≤◌, ◌<◌, Bool, false, ◌&&◌, Option, List, [], ◌∷◌, map, eqb, length, get_or, take, drop, arith}
use borrow.Author.Tests.{le-ltb, lt-ltb, eq-eqb, eqb-true}
use lib.ListN.{length-map}
use lib.Seq.{take-take}
use Rattle.std.proofs.lemmas.Nat.{div-add-mod'}
use Rattle.std.specs.List.{list_all, enumerate_from}
use Rattle.std.specs.Simd.{first_chunks}
use Rattle.std.proofs.lemmas.List.{drop-drop}
use Rattle.boxes.specs.Limits.{max_attributes}
use Rattle.boxes.proofs.Tests.{same_tests}
use Rattle.questions.specs.Orders.{same}
use Rattle.questions.specs.declared.directory.Directory.{Directory}
use Rattle.questions.proofs.Laws.{length-rows_of, rows_of-at}
use Rattle.course.specs.Stores.{Stored}
use Rattle.search.specs.Limits.{record_words}
use Rattle.search.specs.Records.{stored_of, record_at, store_from, cut_s}
use Rattle.checker.specs.declared.kind.Kind.{Kind}
use Rattle.checker.specs.Kinds.{kind_of}
use Rattle.checker.specs.Checks.{part_count, whole_parts, read_tuples, read_records}
use Rattle.checker.specs.Parts.{units_of, resolves_to, tuple_checked, resolvent_checked, kind_checked, record_checked, records_checked}
use Rattle.checker.proofs.Places.{box-there}

-- ---- tuples

pub parts_are : (n : ℕ) (l : List ℕ) → 1 ≤ n → length l / n ≡ part_count n l
parts_are zero l h = absurd (omega arith)
parts_are (suc n) l h = refl

pub whole-parts : (n : ℕ) (l : List ℕ) → 1 ≤ n → eqb (length l % n) 0 ≡ whole_parts n l
whole-parts n l some =
    let all : part_count n l * n + length l % n ≡ length l = ap (λ (k : ℕ). k * n + length l % n) (sym (parts_are n l some)) ∙ div-add-mod' (length l) n in
    same_tests (eqb (length l % n) 0) (whole_parts n l)
    (λ t. eq-eqb _ _ (omega (arith, all, eqb-true (length l % n) 0 t)))
    (λ t. eq-eqb _ _ (omega (arith, all, eqb-true (part_count n l * n) (length l) t)))

module _ (ws l b : List ℕ) (x : ℕ) (some : 1 ≤ length ws) where
  abbrev n : ℕ
  n = length ws

  count : length (read_tuples (length ws) l) ≡ length l / length ws
  count = length-rows_of l 0 n (part_count n l) ∙ sym (parts_are n l some)

  pub tuple-past : length l / length ws ≤ x → tuple_checked ws (read_tuples (length ws) l) x b ≡ false
  tuple-past h = rw (count, le-ltb x (length l / n) h)

  pub tuple_is : x < length l / length ws
      → (let at = x * length ws in same b (units_of ws (take (at + length ws - at) (drop at l)))) ≡ tuple_checked ws (read_tuples (length ws) l) x b
  tuple_is h =
      let at : 0 + x * n ≡ x * n = omega arith in
      let long : x * n + n - x * n ≡ n = omega arith in
      rw (count, lt-ltb x (length l / n) h, rows_of-at l 0 n (part_count n l) x (omega (arith, parts_are n l some)), at, long)

-- ---- records

pub resolvent-is : (rs : List (List ℕ)) (n x y : ℕ) (b c made : List ℕ) → n ≤ max_attributes → x < length rs → y < length rs → b ≡ get_or rs x [] → c ≡ get_or rs y []
    → resolves_to (take n b) (take n c) made ≡ resolvent_checked (map (cut_s n) (map stored_of rs)) x y made
resolvent-is rs n x y b c made few first second e f =
    let count : length (map (cut_s n) (map stored_of rs)) ≡ length rs = length-map (map stored_of rs) (cut_s n) ∙ length-map rs stored_of in
    rw (count, lt-ltb x (length rs) first, lt-ltb y (length rs) second, box-there rs n x few first [], box-there rs n y few second [], e, f)

chunks-from : (k at : ℕ) (s : List ℕ) → map stored_of (first_chunks record_words k (drop at s)) ≡ store_from at k s
unfolding store_from
chunks-from zero at s = refl
chunks-from (suc k) at s = rw (drop-drop record_words at s) (ap (λ (bs : List Stored). record_at s at ∷ bs) (chunks-from k (at + record_words) s))

pub records_are : (s : List ℕ) → map stored_of (first_chunks record_words (length s / record_words) s) ≡ read_records s
records_are s = chunks-from (length s / record_words) 0 s

module _ (w : List ℕ) (d : Directory) (ts : List (List ℕ)) (few : d.dimension ≤ max_attributes) where
  pub record_is : (bs : List Stored) (i : ℕ) (x : List ℕ) {k : Option Kind} → kind_of (stored_of x) ≡ k
      → kind_checked w d ts (take i bs) (take d.dimension x) k ≡ record_checked w d ts bs i (cut_s d.dimension (stored_of x))
  record_is bs i x e = sym (ap₂ (kind_checked w d ts (take i bs)) (take-take d.dimension max_attributes x few) e)

pub records-all : (w : List ℕ) (d : Directory) (ts : List (List ℕ)) (bs : List Stored) (i : ℕ) (rs : List (List ℕ))
    → list_all (λ (z : ℕ × List ℕ). record_checked w d ts bs z.0 (cut_s d.dimension (stored_of z.1))) (enumerate_from i rs)
    ≡ records_checked i w d ts bs (map (cut_s d.dimension) (map stored_of rs))
unfolding records_checked
records-all w d ts bs i [] = refl
records-all w d ts bs i (r ∷ rs) =
    let next : i + 1 ≡ suc i = omega arith in
    rw next (ap (λ (b : Bool). record_checked w d ts bs i (cut_s d.dimension (stored_of r)) && b) (records-all w d ts bs (suc i) rs))
