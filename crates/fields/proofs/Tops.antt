-- The line of names at the top: the number for it, from the tests that the code makes, and what it has where it passes.
--   form-right, first-form == a line that is not refused has its form, also where more is asked of it
--   named n fs b                      == the number for a line of up to n names of which b is to hold
--   named-is                          == the number for a line of up to n names, by whether b holds
--   names_in-many, names_in-wrong, names_in-twice, names_in-are == the answer to a line of up to n names: too many; not all names; a name twice; names
--   NamesIn, NamesTwice; names_in-names, names_in-repeated, names_in-malformed == what it tells of the line
--   names_in-number == its number
--   TopNames fs    == 1 to max_attributes names
--   top_check-names == those of a top line that passed
--   names-short    == each has at most as many letters as a name has
--   top-long       == a line that is longer than max_attributes names with a byte between two does not pass
use mathlib.Core.Path.{◌≡◌, refl, sym, ap}
use Rattle.std.specs.Prelude.{Result, Ok, Err, is_ok}
use Rattle.fields.specs.declared.lines.NamesRefusal.{NamesRefusal}
use Rattle.boxes.specs.Intervals.{pick}
use mathlib.Core.Bool.{Bool, true, false, not, and-false, true≢false}
use mathlib.Core.List.{List}
use Prim.Native.Nat.{ℕ, suc, ◌+◌, ◌*◌, ◌≤◌, ◌<◌}
use native.Mathlib.Omega.{arith}
use borrow.Author.Tests.{leb-true, le-leb, lt-leb}
use lib.Dec.{leb}
use lib.ListN.{length}
use Rattle.boxes.specs.Limits.{max_attributes}
use Rattle.boxes.specs.Fits.{Each, none, more}
use Rattle.boxes.proofs.Tests.{by, and_left, and_right}
use Rattle.boxes.proofs.Lists.{each-imp}
use Rattle.questions.specs.Questions.{when, first_of}
use Rattle.questions.proofs.Laws.{when-yes, first-yes}
use Rattle.fields.specs.Limits.{max_name}
use Rattle.fields.specs.Fields.{space, every, fields_of, is_name, distinct}
use Rattle.fields.specs.Names.{form, are_names, top_check, names_number, names_in}
use Rattle.fields.specs.declared.lines.NamesRefusal.TheVariants.{Malformed, Repeated}
use Rattle.fields.proofs.Parts.{split-some}
use Rattle.boxes.proofs.Every.{every-each}
use Rattle.fields.proofs.Bytes.{bytes_in, split-bytes}

pub form-right : (b : Bool) → form b ≡ 0 → b ≡ true
form-right b e = when-yes b 14 e

pub first-form : (b : Bool) (n : ℕ) → first_of (form b) n ≡ 0 → b ≡ true
first-form b n e = form-right b (first-yes (form b) n e).0

-- ---- a line of names

module _ (n : ℕ) (fs : List (List ℕ)) where
  abbrev pub named : Bool → ℕ
  named b = first_of (form (are_names n fs)) (when (not b) 16)

  module _ (b : Bool) where
    module _ (h : length fs ≤ n) (e : every is_name fs ≡ true) where
      right : are_names n fs ≡ true
      right = rw (le-leb (length fs) n h, e)

      pub named-is : named b ≡ when (not b) 16
      named-is = ap (λ (a : Bool). first_of (form a) (when (not b) 16)) right

-- ---- the answer to a line of names

abbrev count_or : ℕ → Result ℕ NamesRefusal → ℕ
count_or k (Ok n) = n
count_or k (Err r) = k

abbrev repeats : Result ℕ NamesRefusal → Bool
repeats (Ok n) = false
repeats (Err Repeated) = true
repeats (Err Malformed) = false

other : ◌≡◌ {A = Result ℕ NamesRefusal} (Err Malformed) (Err Repeated) → ⊥
other e = true≢false (sym (ap repeats e))

module _ (n : ℕ) (l : List ℕ) where
  pub names_in-many : n < length (fields_of l) → names_in n l ≡ Err Malformed
  names_in-many h = rw (lt-leb (length (fields_of l)) n h)

  pub names_in-wrong : every is_name (fields_of l) ≡ false → names_in n l ≡ Err Malformed
  names_in-wrong e = rw (e, and-false (leb (length (fields_of l)) n))

  module _ (few : length (fields_of l) ≤ n) (right : every is_name (fields_of l) ≡ true) where
    pub names_in-twice : distinct (fields_of l) ≡ false → names_in n l ≡ Err Repeated
    names_in-twice e = rw (le-leb (length (fields_of l)) n few, right, e)

    pub names_in-are : distinct (fields_of l) ≡ true → names_in n l ≡ Ok (length (fields_of l))
    names_in-are e = rw (le-leb (length (fields_of l)) n few, right, e)

  -- and what it tells of the line
  pub record NamesIn (k : ℕ) : Type 0 where
    pub few : length (fields_of l) ≤ n
    pub right : every is_name (fields_of l) ≡ true
    pub distinct : distinct (fields_of l) ≡ true
    pub count : k ≡ length (fields_of l)

  pub record NamesTwice : Type 0 where
    pub few : length (fields_of l) ≤ n
    pub right : every is_name (fields_of l) ≡ true
    pub twice : distinct (fields_of l) ≡ false

  -- b: the form, d: distinct
  told-names : (b d : Bool) (k m : ℕ) → pick b (pick d (Ok k) (Err Repeated)) (Err Malformed) ≡ Ok m → (b ≡ true) × ((d ≡ true) × (m ≡ k))
  told-names true true k m e = (refl, (refl, ap (λ (r : Result ℕ NamesRefusal). count_or k r) (sym e)))
  told-names true false k m e = absurd (true≢false (sym (ap is_ok e)))
  told-names false d k m e = absurd (true≢false (sym (ap is_ok e)))

  told-twice : (b d : Bool) (k : ℕ) → pick b (pick d (Ok k) (Err Repeated)) (Err Malformed) ≡ Err Repeated → (b ≡ true) × (d ≡ false)
  told-twice true true k e = absurd (true≢false (ap is_ok e))
  told-twice true false k e = (refl, refl)
  told-twice false d k e = absurd (other e)

  told-malformed : (b d : Bool) (k : ℕ) → pick b (pick d (Ok k) (Err Repeated)) (Err Malformed) ≡ Err Malformed → b ≡ false
  told-malformed true true k e = absurd (true≢false (ap is_ok e))
  told-malformed true false k e = absurd (other (sym e))
  told-malformed false d k e = refl

  abbrev right-names : are_names n (fields_of l) ≡ true → (length (fields_of l) ≤ n) × (every is_name (fields_of l) ≡ true)
  right-names t =
      (leb-true (length (fields_of l)) n (and_left (leb (length (fields_of l)) n) (every is_name (fields_of l)) t), and_right (leb (length (fields_of l)) n) (every is_name (fields_of l)) t)

  pub names_in-names : {k : ℕ} → names_in n l ≡ Ok k → NamesIn k
  names_in-names {k} e =
      let told = told-names (are_names n (fields_of l)) (distinct (fields_of l)) (length (fields_of l)) k e in
      let right = right-names told.0 in
      record { few = right.0; right = right.1; distinct = told.1.0; count = told.1.1 }

  pub names_in-repeated : names_in n l ≡ Err Repeated → NamesTwice
  names_in-repeated e =
      let told = told-twice (are_names n (fields_of l)) (distinct (fields_of l)) (length (fields_of l)) e in
      let right = right-names told.0 in
      record { few = right.0; right = right.1; twice = told.1 }

  pub names_in-malformed : names_in n l ≡ Err Malformed → (b : Bool) → named n (fields_of l) b ≡ 15
  names_in-malformed e b =
      let told = told-malformed (are_names n (fields_of l)) (distinct (fields_of l)) (length (fields_of l)) e in
      ap (λ (a : Bool). first_of (form a) (when (not b) 16)) told

  -- b: the form, d: distinct
  names-numbers : (b d : Bool) (k : ℕ) → names_number (pick b (pick d (Ok k) (Err Repeated)) (Err Malformed)) ≡ first_of (form b) (when (not d) 16)
  names-numbers true true k = refl
  names-numbers true false k = refl
  names-numbers false d k = refl

  pub names_in-number : names_number (names_in n l) ≡ named n (fields_of l) (distinct (fields_of l))
  names_in-number = names-numbers (are_names n (fields_of l)) (distinct (fields_of l)) (length (fields_of l))

pub record TopNames (fs : List (List ℕ)) : Type 0 where
  pub each : every is_name fs ≡ true
  pub some : 1 ≤ length fs
  pub few : length fs ≤ max_attributes

pub top_check-names : (l : List ℕ) → top_check l ≡ 0 → TopNames (fields_of l)
top_check-names l e =
    let fs : List (List ℕ) = fields_of l in
    let ok : are_names max_attributes fs ≡ true = first-form (are_names max_attributes fs) (when (not (distinct fs)) 16) e in
    record {
      each = and_right (leb (length fs) max_attributes) (every is_name fs) ok;
      some = split-some space l;
      few = leb-true (length fs) max_attributes (and_left (leb (length fs) max_attributes) (every is_name fs) ok);
    }

is_name-short : (f : List ℕ) → is_name f ≡ true → length f ≤ max_name
unfolding is_name
is_name-short f e = leb-true (length f) max_name (and_left (leb (length f) max_name) _ (and_right (leb 1 (length f)) _ e))

pub names-short : {fs : List (List ℕ)} → TopNames fs → Each (λ f. length f ≤ max_name) fs
names-short {fs} t = each-imp is_name-short (every-each is_name fs t.each)

-- ---- a line that is too long

names-bytes : {fs : List (List ℕ)} → Each (λ f. length f ≤ max_name) fs → bytes_in fs ≤ length fs * suc max_name
unfolding bytes_in
names-bytes none = omega arith
names-bytes (more h r) = omega (arith, h, names-bytes r)

pub top-long : (l : List ℕ) → max_attributes * (max_name + 1) ≤ length l → top_check l ≡ 15
top-long l h =
    let fs : List (List ℕ) = fields_of l in
    by (are_names max_attributes fs)
    (λ t.
    let few : length fs ≤ max_attributes = leb-true (length fs) max_attributes (and_left (leb (length fs) max_attributes) (every is_name fs) t) in
    let short : Each (λ f. length f ≤ max_name) fs = each-imp is_name-short (every-each is_name fs (and_right (leb (length fs) max_attributes) (every is_name fs) t)) in
    absurd (omega (arith, few, names-bytes short, split-bytes space l)))
    (λ e. ap (λ (b : Bool). first_of (form b) (when (not (distinct fs)) 16)) e)
