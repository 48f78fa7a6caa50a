-- Keys of values: equal values have equal keys.
use Rattle.std.specs.Prelude.{ℕ, ◌*◌, ◌%◌, ◌^◌, bit_xor, List, Option, option_map, slice_get, fold}
use Rattle.std.specs.Int.{w64, cast_unsigned}
use Rattle.hj_value.specs.declared.field.Field.{Field}
use Rattle.hj_value.specs.declared.field.Field.TheVariants.{Int, Text}

-- a key, with a byte mixed in
abbrev pub mixed : ℕ → ℕ → ℕ
mixed key byte = (bit_xor key byte * 1099511628211) % 2 ^ 64

-- a number's bits; of a text its bytes mixed, one after another
abbrev pub key_of : Field → ℕ
key_of (Int number) = cast_unsigned w64 number
key_of (Text bytes) = fold mixed 14695981039346656037 bytes

-- the key of a column's value in a row; none where the row lacks it
abbrev pub key_at : ℕ → List Field → Option ℕ
key_at column row = option_map key_of (slice_get row column)
