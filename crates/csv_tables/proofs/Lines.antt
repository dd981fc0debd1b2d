-- A line that was written is read back as its fields.
--   from-none, follow-none == the file's end
--   from-keep, from-skip, from_cut, from-stop, from-line == what each move of a byte does
--   follow-some        == what follows a line's end is read as a record, where something does
--   TextField f        == every byte may stand in a field without quotes
--   plain-read         == such bytes are read into the open field
--   line_read          == a line's fields, and then what follows it
--   TextLine fs        == a record with a field, each without quotes
--   lines-read, file-read == lines one after the other; a file of them
use mathlib.Core.Path.{◌≡◌, refl, sym, ap, ◌∙◌}
use mathlib.Core.Bool.{true}
use mathlib.Core.List.{List, [], ◌∷◌, ◌++◌, map, append_assoc, append-nil}
use Prim.Native.Nat.{ℕ, ◌≤◌}
use native.Mathlib.Omega.{arith}
use lib.ListN.{length, length-append}
use lib.Seq.{append_snoc}
use Rattle.boxes.specs.Fits.{Each, none, more}
use Rattle.questions.specs.Words.{flat}
use Rattle.fields.specs.Writing.{joined}
use Rattle.fields.proofs.Laws.{line-one, line-more}
use Rattle.csv_tables.specs.Records.{comma, carriage, feed, is_text, kind_of, Mode, start, plain, ending, keep, skip, cut, line, stop, move, ended, broken, next, at_end, records_from, records_of, follow, record_list}
use Rattle.csv_tables.specs.declared.field.Kind.TheVariants.{Return}
use Rattle.csv_tables.specs.Exports.{csv_end, csv_line}
use Rattle.csv_tables.proofs.ByteKinds.{kind_of-text, kind_of-comma, kind_of-return, kind_of-feed}

-- ---- one byte, or none

pub from-none : (m : Mode) (fs : List (List ℕ)) (f : List ℕ) → records_from m fs f [] ≡ at_end m fs f
unfolding records_from
from-none m fs f = refl

pub follow-none : follow [] ≡ ended
unfolding follow
follow-none = refl

module _ (m : Mode) (b : ℕ) (fs : List (List ℕ)) (f s : List ℕ) where
  pub from-keep : {n : Mode} → move m (kind_of b) ≡ keep n → records_from m fs f (b ∷ s) ≡ records_from n fs (f ++ (b ∷ [])) s
  unfolding records_from
  from-keep e = rw (e, records_from)

  pub from-skip : {n : Mode} → move m (kind_of b) ≡ skip n → records_from m fs f (b ∷ s) ≡ records_from n fs f s
  unfolding records_from
  from-skip e = rw (e, records_from)

  pub from_cut : move m (kind_of b) ≡ cut → records_from m fs f (b ∷ s) ≡ records_from start (fs ++ (f ∷ [])) [] s
  unfolding records_from
  from_cut e = rw (e, records_from)

  pub from-stop : move m (kind_of b) ≡ stop → records_from m fs f (b ∷ s) ≡ broken
  unfolding records_from
  from-stop e = rw (e, records_from)

pub from-line : (m : Mode) (b : ℕ) (fs : List (List ℕ)) (f s : List ℕ) → move m (kind_of b) ≡ line → records_from m fs f (b ∷ s) ≡ next (fs ++ (f ∷ [])) (follow s)
unfolding records_from follow
from-line m b fs f [] e = rw (e, records_from)
from-line m b fs f (c ∷ s) e = rw (e, records_from)

-- ---- one field

abbrev pub TextField : List ℕ → Type 0
TextField = Each (λ b. is_text b ≡ true)

module _ (fs : List (List ℕ)) where
  pub plain-read : (f : List ℕ) {g : List ℕ} (s : List ℕ) → TextField g → records_from plain fs f (g ++ s) ≡ records_from plain fs (f ++ g) s
  plain-read f s none = ap (λ (l : List ℕ). records_from plain fs l s) (sym (append-nil f))
  plain-read f s (more {x = b} {xs = g} t r) =
      from-keep plain b fs f (g ++ s) (ap (move plain) (kind_of-text b t)) ∙ plain-read (f ++ (b ∷ [])) s r ∙ ap (λ (l : List ℕ). records_from plain fs l s) (append_snoc f b g)

  field-read : {g : List ℕ} (s : List ℕ) → TextField g → records_from start fs [] (g ++ (comma ∷ s)) ≡ records_from start (fs ++ (g ∷ [])) [] s
  field-read s none = from_cut start comma fs [] s (ap (move start) (kind_of-comma comma refl))
  field-read s (more {x = b} {xs = g} t r) =
      from-keep start b fs [] (g ++ (comma ∷ s)) (ap (move start) (kind_of-text b t)) ∙ plain-read (b ∷ []) (comma ∷ s) r ∙ from_cut plain comma fs (b ∷ g) s (ap (move plain) (kind_of-comma comma refl))

  end_read : (m : Mode) (f s : List ℕ) → move m Return ≡ skip ending → records_from m fs f (carriage ∷ (feed ∷ s)) ≡ next (fs ++ (f ∷ [])) (follow s)
  end_read m f s e = from-skip m carriage fs f (feed ∷ s) (ap (move m) (kind_of-return carriage refl) ∙ e) ∙ from-line ending feed fs f s (ap (move ending) (kind_of-feed feed refl))

  last-read : {g : List ℕ} (s : List ℕ) → TextField g → records_from start fs [] (g ++ (carriage ∷ (feed ∷ s))) ≡ next (fs ++ (g ∷ [])) (follow s)
  last-read s none = end_read start [] s refl
  last-read s (more {x = b} {xs = g} t r) =
      from-keep start b fs [] (g ++ (carriage ∷ (feed ∷ s))) (ap (move start) (kind_of-text b t)) ∙ plain-read (b ∷ []) (carriage ∷ (feed ∷ s)) r ∙ end_read plain (b ∷ g) s refl

-- ---- one line

pub line_read : (fs : List (List ℕ)) (f : List ℕ) (gs : List (List ℕ)) (s : List ℕ) → Each TextField (f ∷ gs)
    → records_from start fs [] (csv_line (f ∷ gs) ++ s) ≡ next (fs ++ (f ∷ gs)) (follow s)
line_read fs f [] s (more t r) = rw (line-one comma csv_end f, append_assoc f csv_end s) (last-read fs s t)
line_read fs f (g ∷ gs) s (more t r) =
    rw (line-more comma csv_end f g gs, append_assoc f (comma ∷ csv_line (g ∷ gs)) s)
    (field-read fs (csv_line (g ∷ gs) ++ s) t ∙ line_read (fs ++ (f ∷ [])) g gs s r ∙ ap (λ (l : List (List ℕ)). next l (follow s)) (append_snoc fs f (g ∷ gs)))

line-some : (f : List ℕ) (gs : List (List ℕ)) → 1 ≤ length (csv_line (f ∷ gs))
line-some f gs = omega (arith, length-append (joined comma (f ∷ gs)) csv_end)

pub follow-some : (s : List ℕ) → 1 ≤ length s → follow s ≡ records_of s
unfolding follow
follow-some [] h = absurd (omega arith)
follow-some (b ∷ s) h = refl

-- ---- many lines

-- a record has a field, and each is read without quotes
pub data TextLine : List (List ℕ) → Type 0 where
  texts : {f : List ℕ} {gs : List (List ℕ)} → Each TextField (f ∷ gs) → TextLine (f ∷ gs)

pub lines-read : {rs : List (List (List ℕ))} → Each TextLine rs → follow (flat (map csv_line rs)) ≡ record_list rs
unfolding flat follow record_list
lines-read none = refl
lines-read (more {xs = rs} (texts {f = f} {gs = gs} t) r) =
    let s : List ℕ = flat (map csv_line rs) in
    follow-some (csv_line (f ∷ gs) ++ s) (omega (arith, line-some f gs, length-append (csv_line (f ∷ gs)) s))
    ∙ line_read [] f gs s t ∙ ap (next (f ∷ gs)) (lines-read r)

pub file-read : {fs : List (List ℕ)} {rs : List (List (List ℕ))} → Each TextLine (fs ∷ rs) → records_of (flat (map csv_line (fs ∷ rs))) ≡ next fs (record_list rs)
unfolding flat
file-read (more {xs = rs} (texts {f = f} {gs = gs} t) r) =
    line_read [] f gs (flat (map csv_line rs)) t ∙ ap (next (f ∷ gs)) (lines-read r)
