-- The decimal text of a core's number is read back.
use Rattle.std.proofs.Common.{◌≡◌, ℕ, ◌-◌, ◌<◌, ◌≤◌, ◌^◌, Bool, true, false, not, List, [], ◌∷◌, length, get_or, Ok, Err, Result, sym, ap, subst, ◌∙◌, arith, nat_eq}
use Rattle.std.proofs.lemmas.Fmt.{IsAscii-decimal, decimal_digit, parse-decimal}
use Rattle.std.proofs.lemmas.Str.{IsUtf8-from_ascii}
use Rattle.std.specs.Cmp.Lexicographic.{pointwise, bytes_decides}
use Rattle.std.specs.Fmt.{decimal}
use Rattle.std.specs.Str.{IsAscii, IsUtf8}
use Rattle.std.specs.Str.Parse.{ParsesUnsigned}

pub no_decimal : (digits : List ℕ) → ¬ (IsUtf8 digits) → (n : ℕ) → n < 2 ^ 16 → digits ≡ decimal n → ⊥
no_decimal digits broken n small e = broken (IsUtf8-from_ascii digits (subst IsAscii (sym e) (IsAscii-decimal n (omega arith))))

not_both : {E : Type 0} (n : ℕ) (fault : E) → Err fault ≡ Ok n → ⊥
not_both n fault e = cc

pub not_parsed : {E : Type 0} (digits text : List ℕ) (fault : E) → text ≡ digits → ParsesUnsigned 16 10 text (Err fault) → (n : ℕ) → n < 2 ^ 16 → digits ≡ decimal n → ⊥
not_parsed digits text fault same parses n small e = not_both n fault (parse-decimal 16 n text (Err fault) small (omega arith) (same ∙ e) parses)

same_number : {E : Type 0} (n number : ℕ) (answer : Result ℕ E) → answer ≡ Ok number → answer ≡ Ok n → number ≡ n
same_number n number answer one other = cc

pub not_printed : {E : Type 0} (digits text : List ℕ) (number : ℕ) (answer : Result ℕ E) → answer ≡ Ok number → text ≡ digits → ParsesUnsigned 16 10 text answer
    → (digits ≡ decimal number → ⊥) → (n : ℕ) → n < 2 ^ 16 → digits ≡ decimal n → ⊥
not_printed digits text number answer is same parses differs n small e =
    let read : number ≡ n = same_number n number answer is (parse-decimal 16 n text answer small (omega arith) (same ∙ e) parses) in
    differs (subst (λ (k : ℕ). digits ≡ decimal k) (sym read) e)

unequal : true ≡ false → ⊥
unequal e = cc

-- two lists of bytes that compare as different are no equal ones
pub apart : (xs ys : List ℕ) (differs : Bool) → differs ≡ not (pointwise nat_eq xs ys) → differs ≡ true → ys ≡ xs → ⊥
apart xs ys differs is holds same = unequal (sym holds ∙ is ∙ ap not ((bytes_decides xs ys).1 (sym same)))

-- the text of one digit
pub one_digit : (digits : List ℕ) (n : ℕ) → length digits ≡ 1 → 48 ≤ get_or digits 0 0 → get_or digits 0 0 ≤ 57 → n ≡ get_or digits 0 0 - 48 → digits ≡ decimal n
one_digit [] n one low high is = cc
one_digit (digit ∷ []) n one low high is = ap (λ d. d ∷ []) (omega (arith, is, low)) ∙ sym (decimal_digit n (omega (arith, is, low, high)))
one_digit (digit ∷ (next ∷ rest)) n one low high is = absurd (omega (arith, one))
