-- A number that is printed reads back.
use Rattle.std.proofs.Common.{◌≡◌, ℕ, suc, ◌<◌, ◌^◌, ℤ, pos, negsuc, ◌==◌, true, false, ltb, List, [], ◌∷◌, length, Ok, refl, arith, FitsSigned, w64}
use Rattle.std.proofs.lemmas.Bool.{ltb-true, lt-ltb, ne_eqb}
use Rattle.std.proofs.lemmas.Fmt.{decimal_is_IsNumeral}
use Rattle.std.proofs.lemmas.Str.Parse.{digit_from_value, numerals_by_value, tells_all_ascii_digits}
use Rattle.std.specs.Fmt.{decimal, signed_decimal}
use Rattle.std.specs.Str.{all_ascii_digits}
use Rattle.std.specs.Str.Parse.{AllDigits, IsNumeral, digits_value, signed_digits_value}
use Rattle.csv.specs.Writing.{default_writer, field_text}
use Rattle.hj_value.specs.Number.{fits_i64, int_of, is_number}
use Rattle.hj_emit.proofs.Plain.{number_text as number_plain}

-- bytes that are a number and whose value fits
reads_as : (bytes : List ℕ) (value : ℤ) → is_number bytes ≡ true → signed_digits_value 10 bytes ≡ value → fits_i64 value ≡ true → int_of bytes ≡ Ok value
reads_as bytes value number is fits = rw (number, is, fits) refl

all_digits : (digits : List ℕ) → AllDigits 10 digits → all_ascii_digits digits ≡ true
all_digits digits all = (numerals_by_value (λ ds. all_ascii_digits ds ≡ true) tells_all_ascii_digits).from digits all

some_digits : (digits : List ℕ) → ltb 0 (suc (length digits)) ≡ true
some_digits digits = lt-ltb 0 (suc (length digits)) (omega arith)

-- digits without a sign
reads_digits : (digits : List ℕ) (n : ℕ) → IsNumeral 10 digits → digits_value 10 digits ≡ n → n < 2 ^ 63 → int_of digits ≡ Ok (pos n)
reads_digits [] n numeral is small = absurd (omega (arith, numeral.0))
reads_digits (c ∷ cs) n numeral is small =
    let digit = digit_from_value c numeral.1.0 in
    let no_minus : (c == 45) ≡ false = ne_eqb c 45 (λ e. omega (arith, digit)) in
    let no_plus : (c == 43) ≡ false = ne_eqb c 43 (λ e. omega (arith, digit)) in
    reads_as (c ∷ cs) (pos n) (rw (no_minus, no_plus, some_digits cs, all_digits (c ∷ cs) numeral.1) refl) (rw (no_minus, no_plus, is) refl) (lt-ltb n (2 ^ 63) small)

-- digits behind a minus
reads_minus : (digits : List ℕ) (n : ℕ) → IsNumeral 10 digits → digits_value 10 digits ≡ suc n → n < 2 ^ 63 → int_of (45 ∷ digits) ≡ Ok (negsuc n)
reads_minus [] n numeral is small = absurd (omega (arith, numeral.0))
reads_minus (c ∷ cs) n numeral is small = reads_as (45 ∷ c ∷ cs) (negsuc n) (rw (some_digits cs, all_digits (c ∷ cs) numeral.1) refl) (rw is refl) (lt-ltb n (2 ^ 63) small)

-- A number of 64 bits with sign is printed as text that reads as it.
pub printed_reads : (value : ℤ) → fits_i64 value ≡ true → int_of (signed_decimal value) ≡ Ok value
printed_reads (pos n) fits =
    let small : n < 2 ^ 63 = ltb-true n (2 ^ 63) fits in
    let numeral = decimal_is_IsNumeral n (omega (arith, small)) in
    reads_digits (decimal n) n numeral.0 numeral.1 small
printed_reads (negsuc n) fits =
    let small : n < 2 ^ 63 = ltb-true n (2 ^ 63) fits in
    let numeral = decimal_is_IsNumeral (suc n) (omega (arith, small)) in
    reads_minus (decimal (suc n)) n numeral.0 numeral.1 small

-- ---- it needs no quotes

signed_fits : (value : ℤ) → fits_i64 value ≡ true → FitsSigned w64 value
signed_fits (pos n) fits = omega (arith, ltb-true n (2 ^ 63) fits)
signed_fits (negsuc n) fits = omega (arith, ltb-true n (2 ^ 63) fits)

-- A number is the text of a field as it is.
pub number_text : (value : ℤ) → fits_i64 value ≡ true → field_text default_writer (signed_decimal value) ≡ signed_decimal value
number_text value fits = number_plain value (signed_fits value fits)
