-- A number needs no quotes.
use Rattle.std.proofs.Common.{◌≡◌, ℕ, suc, ◌+◌, ◌%◌, ◌<◌, ◌≤◌, ◌^◌, ℤ, pos, negsuc, false, ◌||◌, cond, List, [], ◌∷◌, ◌++◌, ap, ap₂, ◌∙◌, arith, FitsSigned, w64}
use Rattle.std.proofs.lemmas.Bool.Decides.{nat_tests}
use Rattle.std.proofs.lemmas.Fmt.{decimal_by_steps}
use Rattle.std.proofs.lemmas.List.Folds.{list_any-append}
use Rattle.std.specs.Fmt.{decimal, signed_decimal}
use Rattle.std.specs.List.{list_any}
use Rattle.csv.specs.Writing.{default_writer, field_text, needs_byte, needs_quotes, quoted}

digit_plain : (d : ℕ) → d < 10 → needs_byte default_writer (48 + d) ≡ false
digit_plain d h = grind (arith, nat_tests)

last_digit : (n : ℕ) → n % 10 < 10
last_digit n = omega arith

plain_decimal : (n : ℕ) → n < 2 ^ 64 → list_any (needs_byte default_writer) (decimal n) ≡ false
plain_decimal n h = decimal_by_steps (λ n ds. list_any (needs_byte default_writer) ds ≡ false) one more n h
  where
    one : (n : ℕ) → n < 10 → list_any (needs_byte default_writer) ((48 + n) ∷ []) ≡ false
    one n h = ap (λ b. b || false) (digit_plain n h)

    more : (n : ℕ) (ds : List ℕ) → 10 ≤ n → list_any (needs_byte default_writer) ds ≡ false → list_any (needs_byte default_writer) (ds ++ ((48 + n % 10) ∷ [])) ≡ false
    more n ds h so_far =
        list_any-append (needs_byte default_writer) ds ((48 + n % 10) ∷ [])
        ∙ ap₂ (λ a b. a || (b || false)) so_far (digit_plain (n % 10) (last_digit n))

plain_signed : (z : ℤ) → FitsSigned w64 z → list_any (needs_byte default_writer) (signed_decimal z) ≡ false
plain_signed (pos n) fits = plain_decimal n (omega arith)
plain_signed (negsuc n) fits = plain_decimal (suc n) (omega arith)

pub number_text : (z : ℤ) → FitsSigned w64 z → field_text default_writer (signed_decimal z) ≡ signed_decimal z
number_text z fits = ap (λ b. cond b (quoted default_writer (signed_decimal z)) (signed_decimal z)) (plain_signed z fits)

pub plain_text : (bytes : List ℕ) → needs_quotes default_writer bytes ≡ false → field_text default_writer bytes ≡ bytes
plain_text bytes plain = ap (λ b. cond b (quoted default_writer bytes) bytes) plain
