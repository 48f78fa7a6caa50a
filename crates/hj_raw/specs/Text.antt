-- The lines of raw output.
use Rattle.std.specs.Prelude.{ℕ, List, [], ◌∷◌, ◌++◌, decimal}
use Rattle.std.specs.List.{flat_map}
use Rattle.hj_value.specs.declared.field.Field.{Field}
use Rattle.hj_msg.specs.declared.event.Pair.{Pair}
use Rattle.hj_msg.specs.Punctuation.{Mark, up_to, all}
use Rattle.hj_emit.specs.Line.{line_of}
use Rattle.hj_raw.specs.Items.{Item, joined, marked}

abbrev pub comma : ℕ
comma = 44

abbrev pub number_sign : ℕ
number_sign = 35

abbrev pub line_feed : ℕ
line_feed = 10

-- the numbers of both rows, and then the fields of both
abbrev pub pair_text : Pair (List Field) → List ℕ
pair_text pair = decimal pair.left_no.0 ++ comma ∷ decimal pair.right_no.0 ++ comma ∷ line_of pair.left pair.right

-- `#` and the number, or `#all`
abbrev pub mark_text : Mark → List ℕ
mark_text (up_to number) = number_sign ∷ decimal number ++ line_feed ∷ []
mark_text all = number_sign ∷ 97 ∷ 108 ∷ 108 ∷ line_feed ∷ []

abbrev pub item_text : Item (List Field) → List ℕ
item_text (joined pair) = pair_text pair
item_text (marked mark) = mark_text mark

-- the text of items, a line for each
abbrev pub raw_text : List (Item (List Field)) → List ℕ
raw_text items = flat_map item_text items
