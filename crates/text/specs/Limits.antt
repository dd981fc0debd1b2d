-- The limits of document 01 and of request W11 on the listing program alone, each stated once; those that it shares with other readers stand in `fields`.
--   listing_boxes == how many boxes the program has room for
--   listing_words == how many words its listing has
--   spare_words   == by how many words a buffer that a text is read into is longer than the text
--   page_bytes    == no print is longer
use Rattle.std.specs.Prelude.{ℕ, ◌+◌, ◌*◌}
use Rattle.boxes.specs.Limits.{max_attributes}
use Rattle.fields.specs.Limits.{max_name}

abbrev pub listing_boxes : ℕ
listing_boxes = 1000

abbrev pub listing_words : ℕ
listing_words = 30000

abbrev pub spare_words : ℕ
spare_words = 64

-- a line of names, the listing's values with one byte more after each, and the last line
abbrev pub page_bytes : ℕ
page_bytes = max_attributes * (max_name + 1) + listing_words * 6 + 64
