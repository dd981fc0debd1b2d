-- Reading the tables, one after the other, into the directory's entries.
--   TablesSoFar    == i tables are read, up to the place `at`; the rest will be what the definition reads
--   tables-so-far-start, -refused, -read, -end == before the first table, at one that is refused, after one more, and after the last
use mathlib.Core.Path.{◌≡◌, refl, sym, ap, ap₂, ◌∙◌}
use mathlib.Core.List.{List, [], ◌∷◌, ◌++◌, map, map-append}
use Prim.Native.Nat.{ℕ, suc, ◌+◌, ◌-◌, ◌≤◌, ◌<◌}
use native.Mathlib.Omega.{arith}
use lib.ListN.{take, drop, set, replicate}
use Rattle.boxes.specs.Fits.{Each, none}
use Rattle.boxes.proofs.Lists.{each-end}
use Rattle.questions.specs.Limits.{max_tables}
use Rattle.std.specs.Prelude.{Ok}
use Rattle.questions.specs.Questions.{Table, Got, bad, then_g, table_in, tables_in}
use Rattle.questions.specs.Directories.{table_of, entry_end, entry_of, entries_from, Filled, Within, no_entry}
use Rattle.questions.specs.Reads.{TableSays, TablesSay}
use Rattle.questions.specs.declared.directory.TableEntry.{TableEntry}
use Rattle.questions.proofs.Entries.{end_from, entries_from-end, end_from-end}
use Rattle.questions.proofs.Arrays.{filled_none, filled-set, filled-take}
use Rattle.questions.proofs.Reading.{then-refused}

pub record TablesSoFar (s ws : List ℕ) (from n t at i : ℕ) (es : List TableEntry) : Type 0 where
  pub few : t ≤ max_tables
  pub array : Filled max_tables no_entry es i
  pub within : Each (Within s) (take i es)
  pub place : at ≡ end_from from (map (table_of s) (take i es))
  pub entries : take i es ≡ entries_from from (map (table_of s) (take i es))
  pub rest : tables_in (t - i) n ws (map (table_of s) (take i es)) (drop at s) ≡ tables_in t n ws [] (drop from s)

pub tables-so-far-start : (s ws : List ℕ) (from n t : ℕ) → t ≤ max_tables → TablesSoFar s ws from n t from 0 (replicate max_tables no_entry)
unfolding end_from entries_from
tables-so-far-start s ws from n t few =
    let e : t - 0 ≡ t = omega arith in
    record { few = few; array = filled_none; within = none; place = refl; entries = refl; rest = rw e }

module _ {s ws : List ℕ} {from n t at i : ℕ} {es : List TableEntry} (r : TablesSoFar s ws from n t at i es) where
  abbrev whole : Got (List Table)
  whole = tables_in t n ws [] (drop from s)

  module _ (left : i < t) where
    tables-turn : then_g (table_in n ws (drop at s)) (λ q u. tables_in (t - (i + 1)) n ws (map (table_of s) (take i es) ++ (q ∷ [])) u) ≡ whole
    unfolding tables_in
    tables-turn = let e : t - i ≡ suc (t - (i + 1)) = omega arith in rw e at r.rest

    pub tables-so-far-refused : {m : ℕ} → bad m ≡ table_in n ws (drop at s) → bad m ≡ whole
    tables-so-far-refused e = then-refused _ e ∙ tables-turn

    pub tables-so-far-read : {e : TableEntry} {end : ℕ} → TableSays s at n ws (Ok e) → end ≡ entry_end e → TablesSoFar s ws from n t end (i + 1) (set es i e)
    tables-so-far-read {e = e} says ends =
        let below : i < max_tables = omega (arith, r.few) in
        let more : take (i + 1) (set es i e) ≡ take i es ++ (e ∷ []) = filled-take r.array e below in
        let ts : List Table = map (table_of s) (take i es) in
        let tables : map (table_of s) (take (i + 1) (set es i e)) ≡ ts ++ (table_of s e ∷ []) = rw more (map-append (table_of s) (take i es) (e ∷ [])) in
        let entry : e ≡ entry_of (end_from from ts) (table_of s e) = rw r.place at says.entry in
        rw ends record {
          few = r.few;
          array = filled-set r.array e below;
          within = rw more (each-end r.within says.within);
          place = rw (tables, end_from-end from ts (table_of s e)) (ap entry_end entry);
          entries = rw tables (more ∙ ap₂ (λ (l : List TableEntry) (x : TableEntry). l ++ (x ∷ [])) r.entries entry ∙ sym (entries_from-end from ts (table_of s e)));
          rest = rw tables (rw (sym says.is) at tables-turn);
        }

-- after the last table
pub tables-so-far-end : {s ws : List ℕ} {from n t at i : ℕ} {es : List TableEntry} → TablesSoFar s ws from n t at i es → i ≡ t → TablesSay s from n ws t (Ok (es, at))
unfolding tables_in
tables-so-far-end {t = t} r done =
    let z : t - t ≡ 0 = omega arith in
    record { is = rw z at (rw done at r.rest); within = rw done at r.within; array = rw done at r.array; entries = rw done at r.entries }
