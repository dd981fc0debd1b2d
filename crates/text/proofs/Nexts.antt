-- Which line comes next.
--   order n    == the place of such a line among the four kinds
--   next-other == two kinds are not the same
use mathlib.Core.Path.{◌≡◌, ap}
use mathlib.Core.Bool.{false}
use Prim.Native.Nat.{ℕ}
use borrow.Author.Tests.{eqb-false}
use lib.Dec.{eqb}
use Rattle.text.specs.declared.reader.Next.{Next}
use Rattle.text.specs.declared.reader.Next.TheVariants.{Widths, Empty, Names, Row}

abbrev order : Next → ℕ
order Widths = 0
order Empty = 1
order Names = 2
order Row = 3

pub next-other : {A : Type 0} (a b : Next) → eqb (order a) (order b) ≡ false → a ≡ b → A
next-other a b f e = absurd (eqb-false (order a) (order b) f (ap order e))
