-- The lift firm's copy of what is printed for a text, byte for byte. The numbers h say which attributes are hidden.
--   hidden_field      == what stands in place of a hidden value
--   shown_field b v   == a field: the value, or where b says so what stands in place of it
--   shown_from h i p  == the fields of values of which the first is attribute i's
--   shown_line h p, shown_lines h ts == the line of a tuple; a line for each tuple
--   end_word n, end_line n k == the word that a run with the number n ends in; the last line, with k tuples
--   copy h names x   == the names, a line for each tuple, and the last line
--   refused_copy      == all that is said of a refused text
--   copy_of h b       == the copy of what became of a text
--   copied h s       == the copy of a text
use Rattle.std.specs.Prelude.{Bool, List, [], ◌∷◌, ◌++◌, map, ℕ, suc, eqb, length}
use Rattle.boxes.specs.Intervals.{pick}
use Rattle.questions.specs.Orders.{is_in}
use Rattle.questions.specs.Words.{flat}
use Rattle.course.specs.Runs.{Run}
use Rattle.fields.specs.Decimals.{decimal}
use Rattle.text.specs.Limits.{listing_words}
use Rattle.text.specs.Prints.{line_of, complete_word, stopped_word, refused_word}
use Rattle.text.specs.TextRuns.{Became, refused, ran, became}

-- the byte `-`
abbrev pub hidden_field : List ℕ
hidden_field = 45 ∷ []

abbrev pub shown_field : Bool → ℕ → List ℕ
shown_field b v = pick b hidden_field (decimal v)

-- `-` in each hidden field; a number that is no attribute's hides nothing
unfoldable pub shown_from : List ℕ → ℕ → List ℕ → List (List ℕ)
shown_from h i [] = []
shown_from h i (v ∷ p) = shown_field (is_in i h) v ∷ shown_from h (suc i) p

abbrev pub shown_line : List ℕ → List ℕ → List ℕ
shown_line h p = line_of (shown_from h 0 p)

abbrev pub shown_lines : List ℕ → List (List ℕ) → List ℕ
shown_lines h ts = flat (map (shown_line h) ts)

abbrev pub end_word : ℕ → List ℕ
end_word n = pick (eqb n 0) complete_word stopped_word

-- `complete` or `stopped` and the number of tuples
abbrev pub end_line : ℕ → ℕ → List ℕ
end_line n k = line_of (end_word n ∷ decimal k ∷ [])

-- the same names line, the tuple lines, and a last line
abbrev pub copy : List ℕ → List (List ℕ) → Run → List ℕ
copy h names x = line_of names ++ shown_lines h x.tuples ++ end_line x.number (length x.tuples)

-- or only `refused`
abbrev pub refused_copy : List ℕ
refused_copy = line_of (refused_word ∷ [])

abbrev pub copy_of : List ℕ → Became → List ℕ
copy_of h (refused n) = refused_copy
copy_of h (ran names q x) = copy h names x

-- the run has the listing program's room
unfoldable pub copied : List ℕ → List ℕ → List ℕ
copied h s = copy_of h (became listing_words s)
