-- Whole numbers as a sign and digits.
use Rattle.std.specs.Prelude.{ℕ, ◌≡◌, ◌<◌, ◌≤◌, ◌^◌, ℤ, pos, neg_ℤ, Bool, true, false, not, List, Option, Some, None, nat_lt, nat_le, if◌then◌else◌, Ok, Err}
use Rattle.std.specs.Str.{all_ascii_digits}
use Rattle.std.specs.Str.Parse.{digits_value}
use Rattle.std.specs.declared.result.Result.{Result}
use Rattle.hj_value.specs.declared.number.IntFault.{IntFault}
use Rattle.hj_value.specs.declared.number.IntFault.TheVariants as fault

-- a number without sign, where it is below 2 ^ 64
abbrev pub if_small : ℕ → Result ℕ IntFault
if_small n = if nat_lt n (2 ^ 64) then Ok n else Err fault.NumberRange

-- what digits read as, where they write a number below 2 ^ 64
abbrev pub magnitude_of : List ℕ → Result ℕ IntFault
magnitude_of digits = if not (all_ascii_digits digits) then Err fault.NotNumber else if_small (digits_value 10 digits)

-- a number without sign that is known up to 2 ^ 64
abbrev pub IsUpTo : Option ℕ → ℕ → Type 0
IsUpTo None n = 2 ^ 64 ≤ n
IsUpTo (Some value) n = (value ≡ n) × (n < 2 ^ 64)

-- a sign and a number without sign, where they give a number within 64 bits with sign
abbrev pub signed_of : Bool → ℕ → Result ℤ IntFault
signed_of true n = if nat_le n (2 ^ 63) then Ok (neg_ℤ (pos n)) else Err fault.NumberRange
signed_of false n = if nat_lt n (2 ^ 63) then Ok (pos n) else Err fault.NumberRange
