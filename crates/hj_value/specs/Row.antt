-- Rows as lists of fields.
use Rattle.std.specs.Prelude.{ℤ, pos, List, [], ◌∷◌}
use Rattle.hj_value.specs.declared.field.Field.{Field}
use Rattle.hj_value.specs.declared.field.Field.TheVariants.{Int, Text}

-- a row's time: its first field; 0 where that is no number
abbrev pub time_of : List Field → ℤ
time_of [] = pos 0
time_of (Int time ∷ fields) = time
time_of (Text text ∷ fields) = pos 0
