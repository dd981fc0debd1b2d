-- The table of a file, written as a question's table, is read back.
--   table-good   == it is good where its values are within the widths
--   file-read-back == so its words are read back
use mathlib.Core.Path.{◌≡◌, sym, subst}
use mathlib.Core.List.{List, ◌++◌}
use Prim.Native.Nat.{ℕ, ◌≤◌}
use native.Mathlib.Omega.{arith}
use lib.ListN.{length}
use Rattle.boxes.specs.Limits.{max_attributes}
use Rattle.boxes.specs.Fits.{Each, Point}
use Rattle.questions.specs.Questions.{Table, got, table_in}
use Rattle.questions.specs.Good.{Below, widths_at, GoodContents, GoodTable}
use Rattle.questions.specs.Words.{table_words}
use Rattle.questions.proofs.Laws.{table_in-good}
use Rattle.csv_tables.proofs.Taking.{Taken}
use Rattle.csv_tables.proofs.FileRows.{file-contents, file-sorted, file-ascending, file-below, file-some}

pub table-good : {names : List (List ℕ)} {s : List ℕ} {t : Table} (k : Taken names s t) (ws : List ℕ) → length ws ≡ length names
    → Each (Point (widths_at ws t.attributes)) k.rows → GoodTable ws t
table-good {t = t} k ws e within = record {
  some = file-some k;
  below = subst (λ (n : ℕ). Below n t.attributes) (sym e) (file-below k);
  ascending = file-ascending k;
  contents = subst (GoodContents ws t.attributes) (sym (file-contents k)) (record { few = k.few; within = within; sorted = file-sorted k });
}

pub file-read-back : {names : List (List ℕ)} {s : List ℕ} {t : Table} (k : Taken names s t) → length names ≤ max_attributes → (ws : List ℕ) → length ws ≡ length names
    → Each (Point (widths_at ws t.attributes)) k.rows → (rest : List ℕ) → table_in (length ws) ws (table_words t ++ rest) ≡ got t rest
file-read-back k few ws n within rest = table_in-good ws rest (omega (arith, n)) (table-good k ws n within)
