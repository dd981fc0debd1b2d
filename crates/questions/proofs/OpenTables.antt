-- An open table among the tables of a question: question 12 does not count it, so the question is good with it exactly if it is without it.
--   each-less, each_more     == what each of a list's elements has, with one element less and with one more
--   in_some-open, each_in-open == which attributes stand in a table that is not open
--   open-removed, open-added == a good question without its open table; with one more, where there is place for it
use mathlib.Core.Path.{◌≡◌, refl, sym, ap, ap₂, ◌∙◌}
use mathlib.Core.Bool.{Bool, true, ◌&&◌, ◌||◌}
use mathlib.Core.List.{List, [], ◌∷◌, ◌++◌}
use Prim.Native.Nat.{ℕ, zero, suc, ◌≤◌}
use native.Mathlib.Omega.{arith}
use lib.ListN.{length, length-append}
use Rattle.boxes.specs.Fits.{Each, more}
use Rattle.boxes.proofs.Lists.{mem-some}
use Rattle.questions.specs.Limits.{max_tables}
use Rattle.questions.specs.Orders.{is_in}
use Rattle.questions.specs.Questions.{Table, open_table, restricts, in_some, each_in}
use Rattle.questions.specs.Good.{GoodTable, Good}
use Rattle.questions.proofs.Covers.{covered-table}

module _ {A : Type 0} (P : A → Type 0) (x : A) (ys : List A) where
  each-less : (xs : List A) → Each P (xs ++ (x ∷ ys)) → Each P (xs ++ ys)
  each-less [] (more p r) = r
  each-less (z ∷ xs) (more p r) = more p (each-less xs r)

  each_more : (xs : List A) → P x → Each P (xs ++ ys) → Each P (xs ++ (x ∷ ys))
  each_more [] p r = more p r
  each_more (z ∷ xs) p (more q r) = more q (each_more xs p r)

module _ (xs : List ℕ) (us : List Table) where
  in_some-open : (a : ℕ) (ts : List Table) → in_some a (ts ++ (open_table xs ∷ us)) ≡ in_some a (ts ++ us)
  unfolding in_some
  in_some-open a [] = refl
  in_some-open a (t ∷ ts) = ap (λ (b : Bool). (restricts t.contents && is_in a t.attributes) || b) (in_some-open a ts)

  each_in-open : (n : ℕ) (ts : List Table) → each_in n (ts ++ (open_table xs ∷ us)) ≡ each_in n (ts ++ us)
  unfolding each_in
  each_in-open zero ts = refl
  each_in-open (suc a) ts = ap₂ ◌&&◌ (in_some-open a ts) (each_in-open a ts)

  module _ (ws : List ℕ) (ts : List Table) where
    one_more : length (ts ++ (open_table xs ∷ us)) ≡ suc (length (ts ++ us))
    one_more = omega (arith, length-append ts (open_table xs ∷ us), length-append ts us)

    -- the first attribute stands in another table
    pub open-removed : Good (record { widths = ws; tables = ts ++ (open_table xs ∷ us) }) → Good (record { widths = ws; tables = ts ++ us })
    open-removed g =
        let covered : each_in (length ws) (ts ++ us) ≡ true = sym (each_in-open (length ws) ts) ∙ g.covered in
        record {
          sound = record {
            some = g.sound.some;
            few = g.sound.few;
            widths = g.sound.widths;
            one_table = mem-some (ts ++ us) (covered-table (length ws) (ts ++ us) covered 0 g.sound.some).is;
            few-tables = omega (arith, one_more, g.sound.few-tables);
            each = each-less (GoodTable ws) (open_table xs) us ts g.sound.each;
          };
          covered = covered;
        }

    pub open-added : Good (record { widths = ws; tables = ts ++ us }) → GoodTable ws (open_table xs) → length (ts ++ (open_table xs ∷ us)) ≤ max_tables
        → Good (record { widths = ws; tables = ts ++ (open_table xs ∷ us) })
    open-added g t few =
        record {
          sound = record {
            some = g.sound.some;
            few = g.sound.few;
            widths = g.sound.widths;
            one_table = omega (arith, one_more);
            few-tables = few;
            each = each_more (GoodTable ws) (open_table xs) us ts t g.sound.each;
          };
          covered = each_in-open (length ws) ts ∙ g.covered;
        }
