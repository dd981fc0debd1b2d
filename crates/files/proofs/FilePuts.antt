-- A file's table put among the words of a question, from a place on that may lie beyond their end.
--   Starts at w from == the place, but never past the end of the words
--   part-whole       == words from a place on, put back as they were
--   table-room, table_none == whether a table fits into the words from there on
--   table-put        == the words after a table was put into those from there on, if it had room
--   refused-put, made-put == a file that is refused; a table
use mathlib.Core.Path.{◌≡◌, refl, ap, subst, ◌∙◌}
use mathlib.Core.Bool.{true, false}
use mathlib.Core.List.{List, ◌++◌}
use Prim.Native.Nat.{ℕ, ◌+◌, ◌-◌, ◌≤◌, ◌<◌}
use native.Mathlib.Omega.{arith}
use borrow.Author.Tests.{ltb-true, ltb-false, le-leb, lt-leb}
use lib.Dec.{ltb, leb}
use lib.ListN.{length, take, drop, length-drop, take-append-drop}
use Rattle.std.specs.Prelude.{Ok, Err}
use Rattle.boxes.proofs.Tests.{by}
use Rattle.boxes.proofs.Lists.{rest-is, rest_put}
use Rattle.questions.specs.Questions.{Table}
use Rattle.questions.specs.Words.{over, table_words}
use Rattle.questions.proofs.Laws.{length-table_words}
use Rattle.csv_tables.specs.Imports.{Imported, imported}
use Rattle.csv_tables.specs.Importing.{TableRead}
use Rattle.csv_tables.specs.Says.{ImportedSays}
use Rattle.csv_tables.specs.declared.import.Import.{Import}
use Rattle.csv_tables.specs.declared.refusal.Refused.{Refused}
use Rattle.files.specs.Parts.{placed, FilePut}

pub record Starts (at : ℕ) (w : List ℕ) (from : ℕ) : Type 0 where
  pub most : from ≤ length w
  pub within : from < length w → from ≡ at
  pub not-before : from ≤ at

part_length : (from : ℕ) (w : List ℕ) → from ≤ length w → length (take (length w - from) (drop from w)) ≡ length w - from
part_length from w m = ap length (rest-is from w) ∙ length-drop from w

part-whole : (from : ℕ) (w sub : List ℕ) → sub ≡ take (length w - from) (drop from w) → take from w ++ (sub ++ drop (length w - from) (drop from w)) ≡ w
part-whole from w sub e = rest_put from w sub ∙ ap (λ (zs : List ℕ). take from w ++ zs) (e ∙ rest-is from w) ∙ take-append-drop from w

-- the table has words, so that it fits only into a part that has some
table-room : {at from : ℕ} {w : List ℕ} (t : Table) → Starts at w from → length (table_words t) ≤ length w - from → (from ≡ at) × (at + length (table_words t) ≤ length w)
table-room {at} {from} {w} t s fits =
    let some : 1 ≤ length (table_words t) = omega (arith, length-table_words t) in
    let same : from ≡ at = s.within (omega (arith, s.most)) in (same, omega (arith, s.most))

table_none : {at from : ℕ} {w : List ℕ} (t : Table) → Starts at w from → length w - from < length (table_words t) → length w < at + length (table_words t)
table_none t s short = omega (arith, s.not-before, s.most)

module _ {at from : ℕ} (w sub : List ℕ) (s : Starts at w from) where
  abbrev Part : List ℕ
  Part = take (length w - from) (drop from w)

  abbrev After : List ℕ
  After = take from w ++ (sub ++ drop (length w - from) (drop from w))

  -- the table has no room, or it has
  table-put : (t : Table) {r : Import} → ImportedSays (imported t) Part sub r → After ≡ placed (imported t) at w
  table-put t says =
      by (ltb (length Part) (length (table_words t)))
      (λ y.
      let no : leb (at + length (table_words t)) (length w) ≡ false = lt-leb _ _ (table_none t s (omega (arith, ltb-true _ _ y, part_length from w s.most))) in
      part-whole from w sub (says.words ∙ rw y refl) ∙ rw no refl)
      (λ n.
      let there = table-room t s (omega (arith, ltb-false _ _ n, part_length from w s.most)) in
      let yes : leb (at + length (table_words t)) (length w) ≡ true = le-leb _ _ there.1 in
      let words : sub ≡ over (table_words t) Part = says.words ∙ rw n refl in
      rest_put from w sub ∙ ap (λ (zs : List ℕ). take from w ++ zs) (words ∙ ap (over (table_words t)) (rest-is from w))
      ∙ ap (λ (k : ℕ). take k w ++ over (table_words t) (drop k w)) there.0 ∙ rw yes refl)

  pub refused-put : (x : Imported) {r : Refused} → TableRead x Part sub (Err r) → FilePut x at w After (Err r)
  refused-put x {r} says = rw says.0 (record { made = refl; words = part-whole from w sub says.1 })

  pub made-put : (x : Imported) {r : Import} → TableRead x Part sub (Ok r) → FilePut x at w After (Ok r.count)
  made-put x {r} says =
      let t = says.0.0 in
      let table : ImportedSays (imported t) Part sub r = subst (λ (y : Imported). ImportedSays y Part sub r) says.0.1 says.1 in
      rw says.0.1 (record { made = (t, refl, table.count); words = table-put t table })
