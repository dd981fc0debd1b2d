-- The check over words: a listing's words are its tuples one after the other, a store's front is its records, so the two theorems hold of words.
--   part_count-flat, whole_parts-flat, read_tuples-flat == tuples one after the other are whole tuples, and are read back
--   flat-read_tuples   == whole tuples, one after the other, are the words that they were read from
--   front k s       == the words of the first k records of a store; part_count-front, whole_parts-front, read_records-front: they are whole records, and which
--   accepts-join    == an accepted listing has the words of the join, whoever made it
--   run-accepts     == what a complete run leaves is accepted
use mathlib.Core.Path.{◌≡◌, sym, ap, ap₂, ◌∙◌}
use mathlib.Core.Bool.{Bool, true, ◌&&◌}
use mathlib.Core.List.{List, [], append-nil, map}
use Prim.Native.Nat.{ℕ, ◌-◌, ◌*◌, ◌≤◌}
use native.Mathlib.Omega.{arith}
use borrow.Author.Tests.{eqb-true, eq-eqb}
use lib.ListN.{length, take, length-map}
use lib.Seq.{length-take-le, take_all}
use Rattle.boxes.specs.Limits.{max_attributes}
use Rattle.boxes.specs.Every.{every}
use Rattle.boxes.specs.Boxes.{whole_space}
use Rattle.boxes.specs.Fits.{Each}
use Rattle.boxes.proofs.Tests.{and_left, and_right, and_both}
use Rattle.boxes.proofs.Lists.{mem-each, each-imp, each2-length}
use Rattle.boxes.proofs.Every.{each-every}
use Rattle.questions.specs.Questions.{Question}
use Rattle.questions.specs.Good.{Good}
use Rattle.questions.specs.Directories.{rows_of}
use Rattle.questions.specs.Words.{flat}
use Rattle.questions.proofs.Laws.{accepted-good, length-flat, rows_of-flat, flat-rows_of, same_refl}
use Rattle.tables.specs.Joins.{join_of}
use Rattle.tables.proofs.Laws.{joined}
use Rattle.course.specs.Stores.{Stored}
use Rattle.course.specs.Runs.{Run, run_of}
use Rattle.course.proofs.Laws.{run_of-roomed}
use Rattle.search.specs.Limits.{record_words}
use Rattle.search.specs.Records.{store_of, cut_s}
use Rattle.search.specs.Says.{divided, store_room, list_room}
use Rattle.search.specs.Claims.{Accepts, Delivered}
use Rattle.search.specs.declared.run.Counts.{Counts}
use Rattle.search.proofs.Laws.{delivered, length-store_of, store_of-take, divided-whole, store_room-there}
use Rattle.checker.specs.Checks.{acceptable, part_count, whole_parts, read_tuples, read_records, ones_beyond, accepts}
use Rattle.checker.specs.Claims.{RunLeft}
use Rattle.checker.proofs.Sound.{acceptable-join}
use Rattle.checker.proofs.Complete.{run-acceptable}

-- ---- tuples

module _ {n : ℕ} (some : 1 ≤ n) {ts : List (List ℕ)} (even : Each (λ p. length p ≡ n) ts) where
  part_count-flat : part_count n (flat ts) ≡ length ts
  part_count-flat = ap (λ (k : ℕ). divided k n) (length-flat even) ∙ divided-whole (length ts) n some

  whole_parts-flat : whole_parts n (flat ts) ≡ true
  whole_parts-flat = eq-eqb (part_count n (flat ts) * n) (length (flat ts)) (ap (λ (k : ℕ). k * n) part_count-flat ∙ sym (length-flat even))

  read_tuples-flat : read_tuples n (flat ts) ≡ ts
  read_tuples-flat =
      ap (rows_of (flat ts) 0 n) part_count-flat
      ∙ ap (λ (l : List ℕ). rows_of l 0 n (length ts)) (sym (append-nil (flat ts)))
      ∙ rows_of-flat even [] []

flat-read_tuples : (n : ℕ) (l : List ℕ) → whole_parts n l ≡ true → flat (read_tuples n l) ≡ l
flat-read_tuples n l e =
    let whole : part_count n l * n ≡ length l = eqb-true (part_count n l * n) (length l) e in
    flat-rows_of l 0 n (part_count n l) ∙ take_all (part_count n l * n) l (omega arith)

-- ---- records

module _ (k : ℕ) (s : List ℕ) (there : k * record_words ≤ length s) where
  abbrev front : List ℕ
  front = take (k * record_words) s

  length_front : length front ≡ k * record_words
  length_front = length-take-le (k * record_words) s there

  part_count-front : part_count record_words front ≡ k
  part_count-front = ap (λ (m : ℕ). divided m record_words) length_front ∙ divided-whole k record_words (omega arith)

  whole_parts-front : whole_parts record_words front ≡ true
  whole_parts-front = eq-eqb (part_count record_words front * record_words) (length front) (ap (λ (m : ℕ). m * record_words) part_count-front ∙ sym length_front)

  read_records-front : read_records front ≡ store_of k s
  read_records-front = ap (λ (m : ℕ). store_of m front) part_count-front ∙ store_of-take k s

-- ---- an accepted listing

pub accepts-join : (w : List ℕ) {q : Question} → Accepts w q → (l s : List ℕ) → accepts q l s ≡ true → l ≡ flat (join_of q)
unfolding accepts
accepts-join w {q} read l s e =
    let n : ℕ = length q.widths in
    let bs : List Stored = map (cut_s n) (read_records s) in
    let a : Bool = whole_parts n l in
    let b : Bool = whole_parts record_words s in
    let c : Bool = every (ones_beyond n) (read_records s) in
    let d : Bool = acceptable q (read_tuples n l) bs in
    let last : d ≡ true = and_right c d (and_right b (c && d) (and_right a (b && (c && d)) e)) in
    sym (flat-read_tuples n l (and_left a (b && (c && d)) e)) ∙ ap flat (acceptable-join (accepted-good w q [] read) (read_tuples n l) bs last)

-- ---- a complete run

module _ (w : List ℕ) {q : Question} (read : Accepts w q) {l s : List ℕ} (left : RunLeft w q l s) where
  abbrev n : ℕ
  n = length q.widths

  abbrev c : Counts
  c = left.counts

  abbrev x : Run
  x = run_of q (list_room q left.listing) (store_room left.store)

  good : Good q
  good = accepted-good w q [] read

  says : Delivered w left.listing left.listing-after left.store left.store-after c
  says = delivered w left.listing left.store left.run

  -- the listing's words are the join's
  listed-words : l ≡ flat (join_of q)
  listed-words =
      left.tuples ∙ sym (flat-rows_of left.listing-after 0 n c.tuples) ∙ ap flat (says.complete read left.complete)

  even : Each (λ p. length p ≡ n) (join_of q)
  even = mem-each (join_of q) (λ p m. sym (each2-length ((joined q).of-join p m).0))

  -- the records' words are all there
  there : c.boxes * record_words ≤ length left.store-after
  there =
      let bs : List Stored = store_of c.boxes left.store-after in
      let count : length x.boxes ≡ c.boxes =
      ap length (sym (says.steps-stored read)) ∙ length-map bs (cut_s n) ∙ length-store_of c.boxes left.store-after in
      omega (arith, (run_of-roomed q (list_room q left.listing) (store_room left.store)).boxes, store_room-there left.store, (says.store_kept read).0)

  tuples-are : read_tuples n l ≡ x.tuples
  tuples-are =
      ap (read_tuples n) listed-words ∙ read_tuples-flat good.sound.some even ∙ sym (says.complete read left.complete) ∙ says.steps-listed read

  records-are : read_records s ≡ store_of c.boxes left.store-after
  records-are = ap read_records left.records ∙ read_records-front c.boxes left.store-after there

  boxes-are : map (cut_s n) (read_records s) ≡ x.boxes
  boxes-are = ap (map (cut_s n)) records-are ∙ says.steps-stored read

  pub run-accepts : accepts q l s ≡ true
  unfolding accepts
  run-accepts =
      and_both (ap (whole_parts n) listed-words ∙ whole_parts-flat good.sound.some even) (and_both
      (ap (whole_parts record_words) left.records ∙ whole_parts-front c.boxes left.store-after there) (and_both
      (ap (every (ones_beyond n)) records-are ∙ each-every (ones_beyond n) (each-imp (λ b e. rw e (same_refl (whole_space (max_attributes - n)))) (says.ones read)))
      (ap₂ (acceptable q) tuples-are boxes-are
      ∙ run-acceptable w read (list_room q left.listing) (store_room left.store) (sym (says.steps-number read) ∙ left.complete))))
