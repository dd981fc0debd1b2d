-- One byte of a file at its place: what a loop over the bytes steps by.
--   at-keep, at-skip, at_cut, at-stop, at-line == what the byte at a place does to what is read from there on
--   at-end          == the end of the file
--   follow-at, follow-end == after a line's end: a new record from that place on, or the file's end
use mathlib.Core.Path.{◌≡◌, ap, ◌∙◌}
use mathlib.Core.List.{List, [], ◌∷◌, ◌++◌}
use Prim.Native.Nat.{ℕ, ◌+◌, ◌≤◌, ◌<◌}
use native.Mathlib.Numerals.{add-one}
use native.Mathlib.Omega.{arith}
use lib.ListN.{length, get_or, drop, drop_of_length-le, length-drop}
use lib.Seq.{drop-cons}
use Rattle.csv_tables.specs.Records.{Mode, start, keep, skip, cut, line, stop, move, kind_of, ended, broken, next, at_end, records_from, follow}
use Rattle.csv_tables.proofs.Lines.{from-keep, from-skip, from_cut, from-line, from-stop, from-none, follow-some, follow-none}

module _ (s : List ℕ) where
  -- the bytes from a place on
  here : (i : ℕ) → i < length s → drop i s ≡ get_or s i 0 ∷ drop (i + 1) s
  here i h = rw add-one (drop-cons s i 0 h)

  module _ (m : Mode) (fs : List (List ℕ)) (f : List ℕ) (i : ℕ) (h : i < length s) where
    opened : records_from m fs f (drop i s) ≡ records_from m fs f (get_or s i 0 ∷ drop (i + 1) s)
    opened = ap (records_from m fs f) (here i h)

    pub at-keep : (n : Mode) → move m (kind_of (get_or s i 0)) ≡ keep n → records_from m fs f (drop i s) ≡ records_from n fs (f ++ (get_or s i 0 ∷ [])) (drop (i + 1) s)
    at-keep n e = opened ∙ from-keep m (get_or s i 0) fs f (drop (i + 1) s) e

    pub at-skip : (n : Mode) → move m (kind_of (get_or s i 0)) ≡ skip n → records_from m fs f (drop i s) ≡ records_from n fs f (drop (i + 1) s)
    at-skip n e = opened ∙ from-skip m (get_or s i 0) fs f (drop (i + 1) s) e

    pub at_cut : move m (kind_of (get_or s i 0)) ≡ cut → records_from m fs f (drop i s) ≡ records_from start (fs ++ (f ∷ [])) [] (drop (i + 1) s)
    at_cut e = opened ∙ from_cut m (get_or s i 0) fs f (drop (i + 1) s) e

    pub at-stop : move m (kind_of (get_or s i 0)) ≡ stop → records_from m fs f (drop i s) ≡ broken
    at-stop e = opened ∙ from-stop m (get_or s i 0) fs f (drop (i + 1) s) e

    pub at-line : move m (kind_of (get_or s i 0)) ≡ line → records_from m fs f (drop i s) ≡ next (fs ++ (f ∷ [])) (follow (drop (i + 1) s))
    at-line e = opened ∙ from-line m (get_or s i 0) fs f (drop (i + 1) s) e

  pub at-end : (m : Mode) (fs : List (List ℕ)) (f : List ℕ) (i : ℕ) → length s ≤ i → records_from m fs f (drop i s) ≡ at_end m fs f
  at-end m fs f i h = ap (records_from m fs f) (drop_of_length-le s h) ∙ from-none m fs f

  pub follow-at : (i : ℕ) → i < length s → follow (drop i s) ≡ records_from start [] [] (drop i s)
  follow-at i h = follow-some (drop i s) (omega (arith, length-drop i s))

  pub follow-end : (i : ℕ) → length s ≤ i → follow (drop i s) ≡ ended
  follow-end i h = ap follow (drop_of_length-le s h) ∙ follow-none
