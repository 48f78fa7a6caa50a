-- The line of two rows.
use Rattle.std.specs.Prelude.{ℕ, List, ◌++◌, map}
use Rattle.std.specs.Fmt.{signed_decimal}
use Rattle.csv.specs.Writing.{default_writer, row_text}
use Rattle.hj_value.specs.declared.field.Field.{Field}
use Rattle.hj_value.specs.declared.field.Field.TheVariants as field

-- the bytes of a field: a number in decimal, or those of the text
abbrev pub field_bytes : Field → List ℕ
field_bytes (field.Int number) = signed_decimal number
field_bytes (field.Text text) = text

-- the left row's fields, then the right row's, as csv's writer gives one record of them
abbrev pub line_of : List Field → List Field → List ℕ
line_of left right = row_text default_writer (map field_bytes (left ++ right))
