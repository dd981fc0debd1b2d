-- The laws of the text that a layer above cites.

-- every text is refused, or what is printed is the join of its tables or its first tuples
pub use Rattle.text.proofs.Demands.{outcome, accepted-printed, accepted-listed, roomy-left}
-- the last line says `complete` only if all of the join is printed, and then it does
pub use Rattle.text.proofs.Relied.{relied, complete-said}
-- with one name at the top, the last line's resolutions are fewer than gap boxes and listed tuples together
pub use Rattle.text.proofs.Quoting.{one_name}
-- no refusal of a text is 1, 2, 3, 6, 11 or 28, and no run of an accepted one is stopped with 13
pub use Rattle.text.proofs.TextNumbers.{text-refusals, never-unlisted}
-- no print is longer than a page
pub use Rattle.text.proofs.Page.{printed-short}
-- what becomes of a text, and what an answer to it says
pub use Rattle.text.proofs.TextRuns.{refused-became, accepted-became, printed-became, text-even, counts-are, run-answers}
-- lines put field by field, and read back
pub use Rattle.text.proofs.PrintedLines.{puts-more, puts-end}
pub use Rattle.text.proofs.Answers.{run-puts}
pub use Rattle.text.proofs.LastLines.{decimals-plain, line_fields-alone, line_fields-after}
pub use Rattle.text.proofs.Relied.{names-plain, complete-plain, stopped-plain, first-is, other_word}
-- what is read: each row has its table's arity, the names are those of the first line
pub use Rattle.text.proofs.Shapes.{read_text-shaped}
pub use Rattle.fields.proofs.Laws.{TopNames}
pub use Rattle.text.proofs.ReadNames.{read_text-top, read_names}
-- what is printed for a number is read back as that number
pub use Rattle.fields.proofs.Laws.{number-decimal, field_number-decimal}
