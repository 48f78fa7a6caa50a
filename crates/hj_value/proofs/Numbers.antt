-- Digits are read from the left.
use Rattle.std.proofs.Common.{◌&&◌, ◌≡◌, ℕ, ◌+◌, ◌*◌, ◌-◌, ◌<◌, ◌≤◌, ◌^◌, Bool, true, false, cond, not, ltb, List, [], ◌∷◌, length, drop, refl, sym, ap, ◌∙◌, arith, get_or, add-one, lit<, Ok, Err, Result, Option, Some, None}
use Rattle.std.proofs.lemmas.Bool.Decides.{nat_tests}
use Rattle.std.proofs.lemmas.Bool.{lt-ltb, le-ltb, cond-true, cond-false}
use Rattle.std.proofs.lemmas.List.{at_drop_more, at_drop_all}
use Rattle.std.proofs.Math.Nat.{pow-le-pow_right, pow-succ'}
use Rattle.std.specs.Char.{is_ascii_digit, digit_value}
use Rattle.std.specs.List.{list_all}
use Rattle.std.specs.Option.{ok_or}
use Rattle.std.specs.Str.{all_ascii_digits}
use Rattle.std.specs.Str.Parse.{digits_value_after}
use Rattle.hj_value.specs.Magnitude.{if_small, magnitude_of, IsUpTo}
use Rattle.hj_value.specs.declared.number.IntFault.{IntFault}
use Rattle.hj_value.specs.declared.number.IntFault.TheVariants as fault

-- `all_ascii_digits` in the words of a test of each byte
pub list_all-digits : (ds : List ℕ) → list_all is_ascii_digit ds ≡ all_ascii_digits ds
list_all-digits [] = refl
list_all-digits (c ∷ cs) = ap (λ b. is_ascii_digit c && b) (list_all-digits cs)

-- digits read from the left, behind those that gave n
abbrev pub read_on : ℕ → List ℕ → Result ℕ IntFault
read_on n [] = if_small n
read_on n (c ∷ cs) = cond (is_ascii_digit c) (read_on (n * 10 + (c - 48)) cs) (Err fault.NotNumber)

digit_is : (c : ℕ) → is_ascii_digit c ≡ true → digit_value c ≡ c - 48
digit_is c h = grind (arith, nat_tests)

read_on-first : (n c : ℕ) (cs : List ℕ) (digit : Bool) → digit ≡ is_ascii_digit c → ((m : ℕ) → read_on m cs ≡ cond (not (all_ascii_digits cs)) (Err fault.NotNumber) (if_small (digits_value_after 10 m cs))) → cond digit (read_on (n * 10 + (c - 48)) cs) (Err fault.NotNumber) ≡ cond (not (digit && all_ascii_digits cs)) (Err fault.NotNumber) (if_small (digits_value_after 10 (n * 10 + digit_value c) cs))
read_on-first n c cs true e rest = rw (digit_is c (sym e)) (rest (n * 10 + (c - 48)))
read_on-first n c cs false e rest = refl

pub read_on-is : (n : ℕ) (ds : List ℕ) → read_on n ds ≡ cond (not (all_ascii_digits ds)) (Err fault.NotNumber) (if_small (digits_value_after 10 n ds))
read_on-is n [] = refl
read_on-is n (c ∷ cs) = read_on-first n c cs (is_ascii_digit c) refl (λ m. read_on-is m cs)

read_on-whole : (ds : List ℕ) → read_on 0 ds ≡ magnitude_of ds
read_on-whole ds = read_on-is 0 ds

pub read_on-stop : (ds : List ℕ) (i n : ℕ) → i < length ds → is_ascii_digit (get_or ds i 0) ≡ false → read_on n (drop i ds) ≡ read_on 0 ds → Err fault.NotNumber ≡ magnitude_of ds
read_on-stop ds i n h d so_far =
    sym (cond-false (is_ascii_digit (get_or ds i 0)) (read_on (n * 10 + (get_or ds i 0 - 48)) (drop (i + 1) ds)) (Err fault.NotNumber) d) ∙ sym (at_drop_more (read_on n) ds i 0 h) ∙ so_far ∙ read_on-whole ds

pub read_on-end : (ds : List ℕ) (i n : ℕ) → length ds ≤ i → read_on n (drop i ds) ≡ read_on 0 ds → if_small n ≡ magnitude_of ds
read_on-end ds i n h so_far = sym (at_drop_all (read_on n) ds i h) ∙ so_far ∙ read_on-whole ds

pub digit_below : (c : ℕ) → is_ascii_digit c ≡ true → c - 48 < 10
digit_below c d = grind (arith, nat_tests)

-- a digit more makes a number that has a digit more
pub more_digits : (n c i : ℕ) → is_ascii_digit c ≡ true → n < 10 ^ i → n * 10 + (c - 48) < 10 ^ (i + 1)
more_digits n c i d h =
    let below : c - 48 < 10 = digit_below c d in
    let power : 10 ^ (i + 1) ≡ 10 * 10 ^ i = ap (λ k. 10 ^ k) (add-one i) ∙ pow-succ' 10 i in
    omega arith

-- a number of at most 18 digits
few_below : (n i : ℕ) → n < 10 ^ i → i ≤ 18 → n < 10 ^ 18
few_below n i h l =
    let most : 10 ^ i ≤ 10 ^ 18 = pow-le-pow_right (lit< tt) l in
    omega arith

pub few_digits : (n c i : ℕ) → is_ascii_digit c ≡ true → n < 10 ^ i → i < 18 → n * 10 + (c - 48) < 10 ^ 18
few_digits n c i d h l = few_below (n * 10 + (c - 48)) (i + 1) (more_digits n c i d h) (omega arith)

pub read_on-few : (ds : List ℕ) (i n : ℕ) → length ds ≤ i → i ≤ 18 → n < 10 ^ i → read_on n (drop i ds) ≡ read_on 0 ds → Ok n ≡ magnitude_of ds
read_on-few ds i n e l h so_far =
    sym (cond-true (ltb n (2 ^ 64)) (Ok n) (Err fault.NumberRange) (lt-ltb n (2 ^ 64) (omega (arith, few_below n i h l)))) ∙ read_on-end ds i n e so_far

pub read_on-long : (ds : List ℕ) (i n : ℕ) (value : Option ℕ) → length ds ≤ i → IsUpTo value n → read_on n (drop i ds) ≡ read_on 0 ds → ok_or value fault.NumberRange ≡ magnitude_of ds
read_on-long ds i n None e h so_far =
    sym (cond-false (ltb n (2 ^ 64)) (Ok n) (Err fault.NumberRange) (le-ltb n (2 ^ 64) h)) ∙ read_on-end ds i n e so_far
read_on-long ds i n (Some value) e h so_far =
    ap (λ m. Ok m) h.0 ∙ sym (cond-true (ltb n (2 ^ 64)) (Ok n) (Err fault.NumberRange) (lt-ltb n (2 ^ 64) h.1)) ∙ read_on-end ds i n e so_far
