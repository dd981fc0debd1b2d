-- Reading what a table has: by its first word k and its number m of rows or pairs, what the definition says of it, from a place in the words s on.
--   said-open        == after the mark of an open table there is nothing
--   pairs-refused, said-pairs == after the mark of a range table: a pair is refused, or all are read
--   rows-first                == the rows, read by the attributes' numbers alone
--   rows-refused, said-rows   == after an arity: a row is refused, or all are read
use mathlib.Core.Path.{◌≡◌, sym, ◌∙◌}
use mathlib.Core.List.{List, []}
use Prim.Native.Nat.{ℕ, ◌+◌, ◌≤◌}
use native.Mathlib.Omega.{arith}
use lib.ListN.{length, get_or, take, drop}
use lib.Seq.{get_or-take, length-take-le}
use Rattle.std.proofs.lemmas.List.{take-take}
use Rattle.questions.specs.Refusals.{Reading}
use Rattle.questions.specs.Limits.{open_mark, range_mark}
use Rattle.std.specs.Prelude.{Ok}
use Rattle.questions.specs.Questions.{Contents, with_rows, with_pairs, Got, bad, got, then_g, rows_in, pairs_in, arity_of, contents_in}
use Rattle.questions.specs.Reads.{Few, RowsSay, PairsSay, ContentsSay}
use Rattle.questions.specs.declared.directory.TableKind.TheVariants.{Rows, Open, Pairs}
use Rattle.questions.proofs.Arities.{arity-mark, arity-plain}
use Rattle.questions.proofs.Contents.{contents-open, contents-rows, contents-pairs}
use Rattle.questions.proofs.Reading.{then-refused}

module _ (s : List ℕ) (from k m : ℕ) (ws xs : List ℕ) where
  abbrev whole : Got Contents
  whole = contents_in k m ws (take (arity_of k) xs) (drop from s)

  pub said-open : m ≡ open_mark → from ≤ length s → ContentsSay s from k m ws xs (Ok Open)
  said-open mark there =
      let e : from + 0 ≡ from = omega arith in
      record { is = rw e (sym (contents-open m k ws (take (arity_of k) xs) (drop from s) mark)); there = omega arith; few = tt }

  -- after the mark of a range table, the pairs
  module _ (mark : k ≡ range_mark) (filled : m ≡ open_mark → ⊥) {w : ℕ} (width : w ≡ get_or ws (get_or xs 0 0) 0) where
    contents-pairs-turn : then_g (pairs_in m w 0 [] (drop from s)) (λ ps t. got (with_pairs ps) t) ≡ whole
    contents-pairs-turn =
        let first : get_or (take (arity_of k) xs) 0 0 ≡ get_or xs 0 0 = rw (arity-mark k mark) (get_or-take 1 xs 0 0 (omega arith)) in
        rw (width, ← first) (sym (contents-pairs m k ws (take (arity_of k) xs) (drop from s) mark filled))

    pub pairs-refused : {n : ℕ} → bad n ≡ pairs_in m w 0 [] (drop from s) → bad n ≡ contents_in k m ws (take (arity_of k) xs) (drop from s)
    pairs-refused e = then-refused _ e ∙ contents-pairs-turn

    pub said-pairs : PairsSay s from m w (Ok tt) → Few m → from ≤ length s → ContentsSay s from k m ws xs (Ok (Pairs m))
    said-pairs says few there = record { is = rw (sym says.is) at contents-pairs-turn; there = says.there there; few = few filled }

  -- after an arity, the rows
  module _ (plain : k ≡ range_mark → ⊥) (filled : m ≡ open_mark → ⊥) where
    contents-rows-turn : then_g (rows_in m ws (take k xs) [] [] (drop from s)) (λ rs t. got (with_rows rs) t) ≡ whole
    contents-rows-turn = rw (arity-plain k plain) (sym (contents-rows m k ws (take k xs) (drop from s) plain filled))

    -- the attributes' numbers are the first of an array
    pub rows-first : {r : Reading Unit} → RowsSay s from m ws (take k xs) (length (take k xs)) r → k ≤ length xs → RowsSay s from m ws xs k r
    rows-first says long =
        let few : length (take k xs) ≡ k = length-take-le k xs long in
        let same : take k (take k xs) ≡ take k xs = take-take k k xs (omega arith) in
        record { is = rw (few, same) at says.is; there = rw few at says.there }

    pub rows-refused : {n : ℕ} → bad n ≡ rows_in m ws (take k xs) [] [] (drop from s) → bad n ≡ contents_in k m ws (take (arity_of k) xs) (drop from s)
    rows-refused e = then-refused _ e ∙ contents-rows-turn

    pub said-rows : RowsSay s from m ws xs k (Ok tt) → Few m → from ≤ length s → ContentsSay s from k m ws xs (Ok (Rows m))
    said-rows says few there = record {
      is = rw (arity-plain k plain) (rw (sym says.is, arity-plain k plain) at contents-rows-turn);
      there = rw (arity-plain k plain) (says.there there);
      few = few filled;
    }
