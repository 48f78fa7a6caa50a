-- Digits in front of some bytes.
use Rattle.std.proofs.Common.{◌≡◌, ℕ, ◌+◌, ◌*◌, ◌-◌, ◌<◌, ◌≤◌, ◌==◌, ◌^◌, true, false, subst, List, [], ◌∷◌, length, take, get_or, pos, All, Ok, refl, sym, ap, ◌∙◌, arith, lit<}
use Rattle.std.proofs.lemmas.Bool.Decides.{nat_tests}
use Rattle.std.proofs.lemmas.Bool.{lt-ltb}
use Rattle.std.proofs.lemmas.Int.Digits.{digits_value_more}
use Rattle.std.proofs.lemmas.List.Elements.{All-head, All-tail}
use Rattle.std.proofs.Math.Nat.{pow-le-pow_right}
use Rattle.std.specs.Char.{digit_value}
use Rattle.std.specs.Str.{all_ascii_digits}
use Rattle.std.specs.Str.Parse.{digits_value}
use Rattle.hj_value.specs.Number.{int_of}
use Rattle.hj_value.proofs.Numbers.{more_digits}
use Rattle.hj_event.specs.Lines.{IsDigit}

digit_is : (c : ℕ) → IsDigit c → digit_value c ≡ c - 48
digit_is c h = grind (arith, nat_tests)

pub value_more : (bytes : List ℕ) (at value : ℕ) → at < length bytes → IsDigit (get_or bytes at 0) → value ≡ digits_value 10 (take at bytes) → value * 10 + (get_or bytes at 0 - 48) ≡ digits_value 10 (take (at + 1) bytes)
value_more bytes at value lt digit is =
    ap (λ (n : ℕ). n * 10 + (get_or bytes at 0 - 48)) is
    ∙ (ap (λ (d : ℕ). digits_value 10 (take at bytes) * 10 + d) (sym (digit_is (get_or bytes at 0) digit))
    ∙ sym (digits_value_more 10 bytes at lt))

no_minus : (c : ℕ) → IsDigit c → (c == 45) ≡ false
no_minus c h = grind (arith, nat_tests)

no_plus : (c : ℕ) → IsDigit c → (c == 43) ≡ false
no_plus c h = grind (arith, nat_tests)

all_digits : (digits : List ℕ) → All IsDigit digits → all_ascii_digits digits ≡ true
all_digits [] all = refl
all_digits (c ∷ cs) all = rw (All-head IsDigit c cs all, all_digits cs (All-tail IsDigit c cs all)) refl

pub int_of-digits : (digits : List ℕ) (value : ℕ) → 0 < length digits → All IsDigit digits → value ≡ digits_value 10 digits → value < 2 ^ 63 → int_of digits ≡ Ok (pos value)
int_of-digits [] value some all is small = absurd (omega arith)
int_of-digits (c ∷ cs) value some all is small =
    let first : IsDigit c = All-head IsDigit c cs all in
    let fits = lt-ltb (digits_value 10 (c ∷ cs)) (2 ^ 63) (subst (λ n. n < 2 ^ 63) is small) in
    let none = lt-ltb 0 (length (c ∷ cs)) some in
    rw (no_minus c first, no_plus c first, all_digits (c ∷ cs) all, none, fits) (ap (λ (n : ℕ). Ok (pos n)) (sym is))

-- at most 18 digits
pub below_all : (value at : ℕ) → value < 10 ^ at → at ≤ 18 → value < 2 ^ 63
below_all value at below few =
    let most : 10 ^ at ≤ 10 ^ 18 = pow-le-pow_right (lit< tt) few in
    omega arith

-- a digit behind at most 18 others
pub fits_more : (value c at : ℕ) → IsDigit c → value < 10 ^ at → at < 19 → value * 10 + (c - 48) < 2 ^ 64
fits_more value c at digit below few =
    let next = more_digits value c at digit below in
    let longest : at + 1 ≤ 19 = omega arith in
    let most : 10 ^ (at + 1) ≤ 10 ^ 19 = pow-le-pow_right (lit< tt) longest in
    omega arith
