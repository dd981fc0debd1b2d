-- Records by their places, as the code takes them out.
--   beyond-is    == a record's intervals beyond the question's attributes
--   box-there    == the box of the record of a number
use Rattle.std.proofs.Common.{◌≡◌, sym, ap, ap₂, ◌∙◌, ℕ, ◌-◌, ◌≤◌, ◌<◌, List, [], map, length, get_or, take, drop, arith}
use lib.ListN.{length-drop, length-map}
use lib.Seq.{take-take, length-take-le}
use Rattle.boxes.specs.Limits.{max_attributes}
use Rattle.boxes.specs.Boxes.{whole_space}
use Rattle.boxes.proofs.Lists.{get_d_map, drop-take}
use Rattle.questions.specs.Orders.{same}
use Rattle.course.specs.Stores.{Stored, stored, box_at}
use Rattle.search.specs.Limits.{record_words}
use Rattle.search.specs.Records.{stored_of, cut_s}
use Rattle.checker.specs.Checks.{ones_beyond}

pub beyond-is : (w : List ℕ) (n : ℕ) → length w ≡ record_words → n ≤ max_attributes
    → ones_beyond n (stored_of w) ≡ same (take (max_attributes - n) (drop n w)) (whole_space (length (take (max_attributes - n) (drop n w))))
beyond-is w n e h =
    let long : length (take (max_attributes - n) (drop n w)) ≡ max_attributes - n = length-take-le (max_attributes - n) (drop n w) (omega (arith, length-drop n w)) in
    ap₂ same (drop-take n max_attributes w h) (ap whole_space (sym long))

module _ (rs : List (List ℕ)) (n i : ℕ) (few : n ≤ max_attributes) (h : i < length rs) where
  -- d is what stands past the records, where nothing is read
  pub box-there : (d : List ℕ) → box_at (map (cut_s n) (map stored_of rs)) i ≡ take n (get_or rs i d)
  box-there d =
      let e : Stored = stored [] 0 0 0 in
      let one : get_or (map (cut_s n) (map stored_of rs)) i e ≡ cut_s n (get_or (map stored_of rs) i e) = get_d_map (cut_s n) (map stored_of rs) i e e (omega (arith, length-map rs stored_of)) in
      let of : get_or (map stored_of rs) i e ≡ stored_of (get_or rs i d) = get_d_map stored_of rs i d e h in
      ap (λ (b : Stored). b.box) (one ∙ ap (cut_s n) of) ∙ take-take n max_attributes (get_or rs i d) few
