-- The files that are lent one after the other, and what they are: tables, or a refusal.
--   Gathered         == a refusal's number, the file that it is of and the record in it, from 1, 0 where there is none; or the files' tables
--   end_check s a e   == the number for a file's end, where the file before ended at a
--   then_table x k f  == a file's table, and then the next ones; a refusal is that of the file k
--   gather_from l s a ts es == the files with the ends es, of which the first begins at a, after the tables ts of those before
--   gather_check l es == the number for the line of names and the number of files
--   gather l s es    == the tables of all files
use Rattle.std.specs.Prelude.{◌||◌, List, [], ◌∷◌, ◌++◌, ℕ, ◌+◌, eqb, ltb, length}
use Rattle.boxes.specs.Intervals.{pick}
use Rattle.questions.specs.Questions.{Table, when, first_of, tables_check}
use Rattle.fields.specs.Parts.{part}
use Rattle.fields.specs.Names.{top_check}
use Rattle.csv_tables.specs.Imports.{Imported, refused, imported, import_csv}

pub data Gathered : Type 0 where
  refused_at : ℕ → ℕ → ℕ → Gathered
  gathered : List Table → Gathered

-- is a file's end within the bytes, and not below the one before? 3
abbrev pub end_check : List ℕ → ℕ → ℕ → ℕ
end_check s a e = when (ltb (length s) e || ltb e a) 3

abbrev pub then_table : Imported → ℕ → (Table → Gathered) → Gathered
then_table (refused n r) k f = refused_at n k r
then_table (imported t) k f = f t

-- file by file: its end, and all that is asked of a file
unfoldable pub gather_from : List ℕ → List ℕ → ℕ → List Table → List ℕ → Gathered
gather_from l s a ts [] = gathered ts
gather_from l s a ts (e ∷ es) = pick (eqb (end_check s a e) 0)
    (then_table (import_csv l (part a e s)) (length ts + 1) (λ t. gather_from l s e (ts ++ (t ∷ [])) es))
    (refused_at (end_check s a e) (length ts + 1) 0)

-- the names 15, 16; the number of files from 1 to 16? 5
abbrev pub gather_check : List ℕ → List ℕ → ℕ
gather_check l es = first_of (top_check l) (tables_check (length es))

unfoldable pub gather : List ℕ → List ℕ → List ℕ → Gathered
gather l s es = pick (eqb (gather_check l es) 0) (gather_from l s 0 [] es) (refused_at (gather_check l es) 0 0)
