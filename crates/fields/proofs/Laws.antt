-- The laws of fields that the layers above cite.

-- the tests that `&&` makes
pub use Rattle.fields.proofs.Ands.{and-went, and-stopped}
-- a test on each element of a list
pub use Rattle.boxes.proofs.Every.{every-none, every_append, every-end, every-not-at, every-take-more, every-take-all, each-every, every-each, every-but}
-- a byte between two others, and its class
pub use Rattle.fields.proofs.Classes.{between_is, between_in, letter-is, letter-not, digit-is, digit_not, digit-range}
-- the parts of a text between its separators, and where each ends
pub use Rattle.fields.proofs.Parts.{split-some, length-split, part_none, part-more, length-fields_of, parts_from-all, parts_from-beyond, part_end-beyond, part_end-is, part-ends}
pub use Rattle.fields.proofs.Bytes.{bytes_in, bytes_in-more, split-bytes, HalfFields, names-half, numbers-half}
-- parts without the separator split off whole
pub use Rattle.fields.proofs.Splitting.{Free, Plain, split-free, split-more, fields_of-joined, joined_free, digits-plain, letters-plain}
-- what is printed for a number is read back as that number
pub use Rattle.fields.proofs.Decimals.{length-decimal, decimal-some, length-word, length-value, digits_decimal, value-decimal, number-decimal, field_number-decimal}
-- the place of a field among others
pub use Rattle.fields.proofs.Places.{same-equal, place_none, place-again, place-first, place-past, place-most, place-front, distinct-end}
pub use Rattle.fields.proofs.Known.{member-known, known_at, known_member, distinct-parts, distinct-place}
-- what chains of iterators and std's `==` say, in these words
pub use Rattle.fields.proofs.Cuts.{split-cut, same-pointwise, every-list_all, place-position, fields_cut, Cutting, cut_start, cut_few, cut_at, cut_next, cut_more, cut_wrong, cut_end}
-- what a test gives as an option
pub use Rattle.fields.proofs.Options.{given, given_some, given_none}
-- the number that a field is, by its parts
pub use Rattle.fields.proofs.Numbers.{right-number, value-number}
-- the values of a line in their array, and words put at the front of others
pub use Rattle.fields.proofs.ValueLines.{length_front, filled_to-set, place_line-short, places_in-short, names_in-line, numbers_in-line, places_in-line}
pub use Rattle.fields.proofs.Fronts.{over-long, over-front, over-end, over-paste, over-counted, over-patch, values-front, length-filled}
-- a line of names, and what it has where it passes as the top line
pub use Rattle.fields.proofs.Tops.{form-right, first-form, named, named-is, names_in-many, names_in-wrong, names_in-twice, names_in-are, NamesIn, NamesTwice, names_in-names, names_in-repeated, names_in-malformed, names_in-number}
pub use Rattle.fields.proofs.Names.{name-letters}
pub use Rattle.fields.proofs.Tops.{TopNames, top_check-names, names-short, top-long}
-- places that stop at one that no slice reaches
pub use Rattle.fields.proofs.Onward.{at_most-low, at_most-high, capped-most, capped-within, onward_near, onward-beyond}
-- bytes put into a slice, one after the other, and a print that is counted first
pub use Rattle.fields.proofs.Puts.{length-put_at, put_at-over, puts_none, puts-byte, puts_then, puts-long, puts-same, puts-turn, prints-all, prints-none, prints-counted}
-- lines as they are written, and the tuples of a listing
pub use Rattle.fields.proofs.WrittenLines.{line-one, line-more, line_first, line-short, joined-split, split-joined}
pub use Rattle.fields.proofs.WrittenTuples.{tuples_of-front, tuples_of-flat, flat-whole, tuples_of-more, tuples_of-few}
