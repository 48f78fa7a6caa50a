-- Whole numbers as text: an optional sign and one or more digits, of a value that fits 64 bits with sign.
use Rattle.std.specs.Prelude.{ℕ, ◌^◌, ℤ, pos, negsuc, Bool, not, ◌&&◌, List, nat_lt, length, if◌then◌else◌, Ok, Err}
use Rattle.std.specs.Str.{all_ascii_digits}
use Rattle.std.specs.Str.Parse.{without_leading_sign, signed_digits_value}
use Rattle.std.specs.declared.result.Result.{Result}
use Rattle.hj_value.specs.declared.number.IntFault.{IntFault}
use Rattle.hj_value.specs.declared.number.IntFault.TheVariants as fault

-- an optional `+` or `-` and one or more digits
abbrev pub is_number : List ℕ → Bool
is_number bytes = nat_lt 0 (length (without_leading_sign bytes)) && all_ascii_digits (without_leading_sign bytes)

-- from -9223372036854775808 to 9223372036854775807
abbrev pub fits_i64 : ℤ → Bool
fits_i64 (pos n) = nat_lt n (2 ^ 63)
fits_i64 (negsuc n) = nat_lt n (2 ^ 63)

-- what the bytes of an Int field read as
abbrev pub int_of : List ℕ → Result ℤ IntFault
int_of bytes = if not (is_number bytes) then Err fault.NotNumber
    else if fits_i64 (signed_digits_value 10 bytes) then Ok (signed_digits_value 10 bytes)
    else Err fault.NumberRange
