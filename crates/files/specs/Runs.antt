-- What running a question and exporting its join asks.
--   RunAsk l n w == a line of n names that passed, and the words of a question over n attributes, whose rows have as many values as their table has attributes
use Rattle.std.specs.Prelude.{◌≡◌, List, ℕ, length}
use Rattle.questions.specs.Questions.{Question}
use Rattle.questions.specs.Words.{words_of, Shaped}
use Rattle.fields.specs.Fields.{fields_of}
use Rattle.fields.specs.Names.{top_check}

pub record RunAsk (l : List ℕ) (n : ℕ) (w : List ℕ) : Type 0 where
  pub named : top_check l ≡ 0
  pub dimension : n ≡ length (fields_of l)
  pub question : Question
  pub over : length question.widths ≡ n
  pub shaped : Shaped question
  pub words : w ≡ words_of question
