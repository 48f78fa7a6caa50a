-- A number's word: its digits, and their value where `parse` refuses it.
use Rattle.std.proofs.Common.{◌&&◌, ◌≡◌, ℕ, ◌<◌, ◌≤◌, ◌^◌, true, false, List, [], ◌∷◌, length, refl, ap, arith, inl, inr, None, Ok, Err, Result}
use Rattle.std.proofs.lemmas.Str.Parse.{IsNumeralModel, numerals_by_value, tells_all_ascii_digits, parse_digits}
use Rattle.std.specs.Char.{is_ascii_digit}
use Rattle.std.specs.List.{list_all}
use Rattle.std.specs.Result.{result_ok}
use Rattle.std.specs.Str.{all_ascii_digits}
use Rattle.std.specs.Str.Parse.{digits_value, ParsesUnsigned}
use Rattle.std.specs.Prelude.{nat_le}
use Rattle.hj_words.specs.Orders.{is_number, number_of}
use Rattle.std.proofs.lemmas.Bool.{cases_lt, lt-leb, and_right}

pub list_all-digits : (ds : List ℕ) → list_all is_ascii_digit ds ≡ all_ascii_digits ds
list_all-digits [] = refl
list_all-digits (c ∷ cs) = ap (λ b. is_ascii_digit c && b) (list_all-digits cs)

pub digits : IsNumeralModel (λ ds. all_ascii_digits ds ≡ true) (digits_value 10)
digits = numerals_by_value (λ ds. all_ascii_digits ds ≡ true) tells_all_ascii_digits

-- digits that `parse` refuses have a value that does not fit
over : {E : Type 0} (bs : List ℕ) (r : Result ℕ E) → result_ok r ≡ None → ParsesUnsigned 64 10 bs r → all_ascii_digits bs ≡ true → 0 < length bs → 2 ^ 64 ≤ digits_value 10 bs
over bs (Ok n) is h all some = absurd (cc)
over bs (Err e) is h all some =
    elim (cases_lt (digits_value 10 bs) (2 ^ 64)) [ inl fits ↦ absurd (parse_digits digits 64 bs (Err e) h all (some, fits)) | inr wide ↦ wide ]

pub refused : {E : Type 0} (low high : ℕ) (bs : List ℕ) (r : Result ℕ E) → high < 2 ^ 64 → result_ok r ≡ None → ParsesUnsigned 64 10 bs r → all_ascii_digits bs ≡ true → 0 < length bs
    → number_of low high bs ≡ None
refused low high bs r fits is h all some =
    let wide : 2 ^ 64 ≤ digits_value 10 bs = over bs r is h all some in
    let past : (is_number bs && nat_le low (digits_value 10 bs) && nat_le (digits_value 10 bs) high) ≡ false =
    and_right _ _ (lt-leb (digits_value 10 bs) high (omega arith)) in
    rw past refl
