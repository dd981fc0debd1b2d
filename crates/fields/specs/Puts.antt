-- Bytes put into a slice. A byte that has no place there is counted and not written.
--   put_at at bs o        == the slice o with the bytes bs from a place on, as far as it goes
--   Puts bs at o o' r    == bytes are put at a place, and r is the next one
--   PrintsWith bs o o' r == bytes are put at the front if they fit, and r counts them
--   PutsWhole g f bs   == what a closure f puts at the front are these bytes
--   PutsLine g f line  == what a closure f puts for a tuple is its line
--   TakesTuples g f n  == the closure may be called at each tuple of n values
use denote.Param.Members.{Shared}
use denote.Ref.{Bor, MutBor}
use Rattle.std.specs.Prelude.{◌≡◌, List, [], ◌∷◌, ℕ, suc, ◌<◌, leb, length, set}
use Rattle.boxes.specs.Intervals.{pick}
use Rattle.questions.specs.Words.{over}
use Rattle.fields.specs.Limits.{farthest, capped, onward}

unfoldable pub put_at : ℕ → List ℕ → List ℕ → List ℕ
put_at at [] o = o
put_at at (b ∷ bs) o = put_at (suc at) bs (set o at b)

pub record Puts (bs : List ℕ) (at : ℕ) (o o' : List ℕ) (r : ℕ) : Type 0 where
  pub next : r ≡ onward at (length bs)
  pub bytes : o' ≡ put_at at bs o
  pub short : length o < farthest

pub record PrintsWith (bs o o' : List ℕ) (r : ℕ) : Type 0 where
  pub count : r ≡ capped (length bs)
  pub bytes : o' ≡ pick (leb (length bs) (length o)) (over bs o) o

-- a call of f puts these bytes at the front
abbrev pub PutsWhole : {F : Type 0} → Shared F (MutBor (List ℕ) × Unit {0}) (ℕ × (MutBor (List ℕ) × Unit {0})) → F → List ℕ → Type 0
PutsWhole g f bs = (o o' : MutBor (List ℕ)) (r : ℕ) → g.post f (o, tt) (r, (o', tt)) → Puts bs 0 o.now o'.now r

-- a call of f at a place and a tuple puts the line of that tuple there
abbrev pub PutsLine : {F : Type 0} → Shared F (MutBor (List ℕ) × (ℕ × (Bor (List ℕ) × Unit {0}))) (ℕ × (MutBor (List ℕ) × Unit {0})) → F → (List ℕ → List ℕ) → Type 0
PutsLine g f line = (o o' : MutBor (List ℕ)) (at r : ℕ) (t : Bor (List ℕ)) → g.post f (o, (at, (t, tt))) (r, (o', tt)) → Puts (line t.now) at o.now o'.now r

-- f may be called at each tuple of n values
abbrev pub TakesTuples : {F : Type 0} → Shared F (MutBor (List ℕ) × (ℕ × (Bor (List ℕ) × Unit {0}))) (ℕ × (MutBor (List ℕ) × Unit {0})) → F → ℕ → Type 0
TakesTuples g f n = (o : MutBor (List ℕ)) (at : ℕ) (t : Bor (List ℕ)) → length t.now ≡ n → g.pre f (o, (at, (t, tt)))
