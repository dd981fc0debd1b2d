-- One table among a question's tables for another of the same attributes.
--   each-instead                 == what each of a list's elements has
--   in_some-instead, each_in-instead == which attributes stand in a table that is not open
--   table-instead                == the question stays good, where the other table is good, and open exactly if the one is
use mathlib.Core.Path.{◌≡◌, refl, sym, ap, ap₂, ◌∙◌}
use mathlib.Core.Bool.{Bool, ◌&&◌, ◌||◌}
use mathlib.Core.List.{List, [], ◌∷◌, ◌++◌}
use Prim.Native.Nat.{ℕ, zero, suc}
use native.Mathlib.Omega.{arith}
use lib.ListN.{length, length-append}
use Rattle.boxes.specs.Fits.{Each, more}
use Rattle.questions.specs.Orders.{is_in}
use Rattle.questions.specs.Questions.{Table, restricts, in_some, each_in}
use Rattle.questions.specs.Good.{GoodTable, Good}

module _ {A : Type 0} (P : A → Type 0) (x y : A) (ys : List A) where
  each-instead : (xs : List A) → (P x → P y) → Each P (xs ++ (x ∷ ys)) → Each P (xs ++ (y ∷ ys))
  each-instead [] f (more p r) = more (f p) r
  each-instead (z ∷ xs) f (more p r) = more p (each-instead xs f r)

module _ (s t : Table) (attributes : s.attributes ≡ t.attributes) (kind : restricts s.contents ≡ restricts t.contents) (us : List Table) where
  in_some-instead : (a : ℕ) (ts : List Table) → in_some a (ts ++ (s ∷ us)) ≡ in_some a (ts ++ (t ∷ us))
  unfolding in_some
  in_some-instead a [] = rw (attributes, kind)
  in_some-instead a (r ∷ ts) = ap (λ (b : Bool). (restricts r.contents && is_in a r.attributes) || b) (in_some-instead a ts)

  each_in-instead : (n : ℕ) (ts : List Table) → each_in n (ts ++ (s ∷ us)) ≡ each_in n (ts ++ (t ∷ us))
  unfolding each_in
  each_in-instead zero ts = refl
  each_in-instead (suc a) ts = ap₂ ◌&&◌ (in_some-instead a ts) (each_in-instead a ts)

  pub table-instead : (ws : List ℕ) (ts : List Table) → (GoodTable ws s → GoodTable ws t)
      → Good (record { widths = ws; tables = ts ++ (s ∷ us) }) → Good (record { widths = ws; tables = ts ++ (t ∷ us) })
  table-instead ws ts good g =
      let long : length (ts ++ (s ∷ us)) ≡ length (ts ++ (t ∷ us)) = omega (arith, length-append ts (s ∷ us), length-append ts (t ∷ us)) in
      record {
        sound = record {
          some = g.sound.some;
          few = g.sound.few;
          widths = g.sound.widths;
          one_table = omega (arith, long, g.sound.one_table);
          few-tables = omega (arith, long, g.sound.few-tables);
          each = each-instead (GoodTable ws) s t us ts good g.sound.each;
        };
        covered = sym (each_in-instead (length ws) ts) ∙ g.covered;
      }
