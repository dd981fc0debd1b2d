-- The answers of a copy: it has no room, or it is written.
--   copy-count   == a copy is counted exactly
--   says-lacking, says-written == the two answers
use mathlib.Core.Path.{◌≡◌, ◌∙◌}
use mathlib.Core.List.{List}
use Prim.Native.Nat.{ℕ, ◌≤◌, ◌<◌}
use native.Mathlib.Omega.{arith}
use borrow.Author.Tests.{lt-ltb, le-ltb, le-leb, lt-leb}
use lib.ListN.{length}
use Rattle.fields.specs.Puts.{PrintsWith}
use Rattle.fields.proofs.Laws.{prints-counted}
use Rattle.copies.specs.Copies.{copied}
use Rattle.copies.specs.Says.{CopySays}
use Rattle.std.specs.Prelude.{Ok, Err}
use Rattle.copies.proofs.NoLonger.{copied-short}

module _ (s h : List ℕ) {o o' : List ℕ} {r : ℕ} (p : PrintsWith (copied h s) o o' r) where
  pub copy-count : r ≡ length (copied h s)
  copy-count = prints-counted (omega (arith, copied-short h s)) p

  pub says-lacking : length o < r → CopySays s h o o' (Err (record { bytes = r }))
  says-lacking l =
      let short : length o < length (copied h s) = omega (arith, copy-count) in
      record { number = rw (lt-ltb (length o) (length (copied h s)) short); bytes = copy-count; out = p.bytes ∙ rw (lt-ltb (length o) (length (copied h s)) short, lt-leb (length (copied h s)) (length o) short) }

  pub says-written : r ≤ length o → CopySays s h o o' (Ok r)
  says-written l =
      let fits : length (copied h s) ≤ length o = omega (arith, copy-count) in
      record { number = rw (le-ltb (length o) (length (copied h s)) fits); bytes = copy-count; out = p.bytes ∙ rw (le-ltb (length o) (length (copied h s)) fits, le-leb (length (copied h s)) (length o) fits) }
