-- The order of fields.
use Rattle.std.specs.Ordering.{nat_cmp, int_cmp}
use Rattle.std.specs.Cmp.Lexicographic.{slice_cmp}
use Rattle.std.specs.declared.cmp.Ordering.{Ordering}
use Rattle.std.specs.declared.cmp.Ordering.TheVariants.{Less, Greater}
use Rattle.hj_value.specs.declared.field.Field.{Field}
use Rattle.hj_value.specs.declared.field.Field.TheVariants.{Int, Text}

-- a number before a text, numbers by value, texts by their bytes
abbrev pub compare_of : Field → Field → Ordering
compare_of (Int a) (Int b) = int_cmp a b
compare_of (Int a) (Text b) = Less
compare_of (Text a) (Int b) = Greater
compare_of (Text a) (Text b) = slice_cmp nat_cmp a b
