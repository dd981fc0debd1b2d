-- How long the file of a join is: no complete run has a join whose file is too long for a count.
--   length-line  == a line of fields of at most k bytes each
--   tuple-short, names-line-short == the line of a tuple; that of the names
--   file-some    == a file has a byte
--   file-short   == the file of tuples within the widths
--   counted-file == its length is counted exactly, where the tuples are those of a complete run
use mathlib.Core.Path.{◌≡◌, sym, ◌∙◌}
use mathlib.Core.List.{List, ◌∷◌, map}
use Prim.Native.Nat.{ℕ, suc, ◌+◌, ◌*◌, ◌≤◌}
use native.Mathlib.Omega.{arith}
use lib.ListN.{length, length-append, length-map}
use Rattle.boxes.specs.Limits.{max_attributes}
use Rattle.boxes.specs.Fits.{Each, more, Point}
use Rattle.boxes.proofs.Lists.{each_map, each2-length, mem-each}
use Rattle.questions.specs.Questions.{Question}
use Rattle.questions.specs.Good.{Good}
use Rattle.questions.specs.Words.{flat}
use Rattle.questions.proofs.Laws.{flat-more, flat-few, point-low}
use Rattle.tables.specs.Joins.{join_of}
use Rattle.tables.proofs.Laws as tables
use Rattle.search.specs.Limits.{max_boxes}
use Rattle.fields.specs.Limits.{max_name}
use Rattle.fields.specs.Decimals.{decimal}
use Rattle.fields.specs.Writing.{joined}
use Rattle.fields.proofs.Laws.{length-value, TopNames, names-short, line-short, at_most-low}
use Rattle.csv_tables.specs.Records.{comma}
use Rattle.csv_tables.specs.Exports.{csv_end, csv_line, value_fields, export_csv}
use Rattle.csv_tables.specs.Says.{highest_count, counted}
use Rattle.csv_tables.proofs.Laws.{export_is}
use Rattle.files.specs.Says.{join_file}

-- at most k bytes
abbrev Short : ℕ → List ℕ → Type 0
Short k f = length f ≤ k

length-line : (k : ℕ) (fs : List (List ℕ)) → 1 ≤ length fs → Each (Short k) fs → length (csv_line fs) ≤ suc (length fs * suc k)
length-line k fs some h = omega (arith, line-short comma csv_end k fs some h)

-- a name for each attribute, with a comma or the line's end, which has one byte more, after each
abbrev line_bytes : ℕ
line_bytes = max_attributes * (max_name + 1) + 1

module _ {q : Question} (good : Good q) where
  tuple-short : (p : List ℕ) → Point q.widths p → Short line_bytes (csv_line (value_fields p))
  tuple-short p h =
      let long : length (value_fields p) ≡ length q.widths = length-map p decimal ∙ sym (each2-length h) in
      omega (arith, good.sound.few, long, length-line 5 (value_fields p) (omega (arith, long, good.sound.some)) (each_map decimal length-value (point-low good.sound.widths h)))

names-line-short : {names : List (List ℕ)} → TopNames names → Short line_bytes (csv_line names)
names-line-short {names} t = omega (arith, t.few, length-line max_name names t.some (names-short t))

file-short : {names : List (List ℕ)} {q : Question} → TopNames names → Good q → length (join_file names q) ≤ suc (length (join_of q)) * line_bytes
file-short {names} {q} top good =
    let lines : Each (λ p. Short line_bytes (csv_line (value_fields p))) (join_of q) = mem-each (join_of q) (λ p m. tuple-short good p ((tables.joined q).of-join p m).0) in
    let all : Each (λ fs. Short line_bytes (csv_line fs)) (names ∷ map value_fields (join_of q)) = more (names-line-short top) (each_map value_fields (λ p h. h) lines) in
    let bytes = flat-few line_bytes (each_map csv_line (λ fs h. h) all) in
    rw (export_is names (join_of q)) (omega (arith, bytes, length-map (names ∷ map value_fields (join_of q)) csv_line, length-map (join_of q) value_fields))

-- each line has its end
pub file-some : (names ps : List (List ℕ)) → 1 ≤ length (export_csv names ps)
file-some names ps =
    let lines = map csv_line (map value_fields ps) in
    rw (export_is names ps, flat-more (csv_line names) lines) (omega (arith, length-append (csv_line names) (flat lines), length-append (joined comma names) csv_end))

pub counted-file : {names : List (List ℕ)} {q : Question} → TopNames names → Good q → length (join_of q) ≤ suc max_boxes → counted (length (join_file names q)) ≡ length (join_file names q)
counted-file {names} {q} top good few = at_most-low highest_count (length (join_file names q)) (omega (arith, few, file-short top good))
