-- What a caller of `check_listing` has, whoever made the listing and the records: an accepted listing is the join, and every complete run is accepted.
--   RunLeft w q l s == l and s are the tuples and records of a complete run of the accepted question q, whose words are w: what `run_join` or `run_join_with`
--                      leaves in its buffers, cut to its counts
--   CheckDelivered w l s r == what the answer r says of the listing l and the records s
use Rattle.std.specs.Prelude.{◌≡◌, ◌⊎◌, true, false, List, ℕ, ◌*◌, length, take}
use Rattle.questions.specs.Questions.{Question, bad, Refusal, read_question}
use Rattle.questions.specs.Words.{flat}
use Rattle.tables.specs.Joins.{join_of}
use Rattle.search.specs.Limits.{record_words}
use Rattle.search.specs.Says.{RunSays}
use Rattle.search.specs.Claims.{Accepts}
use Rattle.search.specs.declared.run.Counts.{Counts}
use Rattle.checker.specs.Limits.{check_failed}
use Rattle.checker.specs.Checks.{accepts}

pub record RunLeft (w : List ℕ) (q : Question) (l s : List ℕ) : Type 0 where
  -- listing and store before the run and after it, and its counts
  pub listing : List ℕ
  pub listing-after : List ℕ
  pub store : List ℕ
  pub store-after : List ℕ
  pub counts : Counts
  pub run : RunSays w listing listing-after store store-after counts
  pub complete : counts.number ≡ 0
  pub tuples : l ≡ take (counts.tuples * length q.widths) listing-after
  pub records : s ≡ take (counts.boxes * record_words) store-after

pub record CheckDelivered (w l s : List ℕ) (r : ℕ) : Type 0 where
  -- the answer is 0, the number of a refusal, or 22
  pub answered : (r ≡ 0) ⊎ (Refusal r ⊎ (r ≡ check_failed))
  -- a refused question gets its number, whatever the listing and the records are
  pub refused : (n : ℕ) → read_question w ≡ bad n → r ≡ n
  -- 0 exactly if the question is accepted and every check is passed
  pub passed : r ≡ 0 → (q : Question) × Accepts w q × (accepts q l s ≡ true)
  pub passes : {q : Question} → Accepts w q → accepts q l s ≡ true → r ≡ 0
  -- 22 where it is accepted and a check fails
  pub fails : {q : Question} → Accepts w q → accepts q l s ≡ false → r ≡ check_failed
  -- an accepted listing is the join, whoever made it
  pub joins : {q : Question} → Accepts w q → r ≡ 0 → l ≡ flat (join_of q)
  -- every complete run is accepted
  pub runs : {q : Question} → Accepts w q → RunLeft w q l s → r ≡ 0
