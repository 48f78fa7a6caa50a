-- What begins the rest of a text: names, numbers, texts and bad bytes.
use Rattle.std.proofs.Common.{◌≡◌, ℕ, suc, zero, ◌+◌, ◌<◌, ◌≤◌, ◌-◌, Bool, true, false, not, ◌||◌, cond, eqb, ltb, List, [], ◌∷◌, ◌++◌, length, take, drop, refl, sym, ap, ◌∙◌, subst, arith, length-append, pos, Ok, Err, Result, MatchResult, ℤ, neg_ℤ, is_err, Option, None, Some, MatchOption, ok_or}
use Rattle.std.proofs.lemmas.Bool.{and_from, and_parts, false≢true, true≢false, ltb-true, ltb-false, lt-ltb, not-true, not-false}
use Rattle.std.proofs.lemmas.Bool.Decides.{nat_tests}
use Rattle.std.proofs.lemmas.List.Sums.{prefix_len-le-length}
use Rattle.std.proofs.lemmas.List.{append_assoc, take_at, drop-drop, length-drop}
use Rattle.std.specs.Char.{is_ascii_alphabetic, is_ascii_digit}
use Rattle.std.specs.Int.{is_in_range}
use Rattle.std.specs.List.{list_all, prefix_len, take_while}
use Rattle.std.specs.Str.{IsUtf8, all_ascii_digits}
use Rattle.std.specs.Str.Lossy.{utf8_valid_len}
use Rattle.std.specs.Str.Parse.{without_leading_sign, digits_value, signed_digits_value}
use Rattle.hj_value.proofs.Numbers.{list_all-digits}
use Rattle.hj_value.specs.Number.{fits_i64, int_of, is_number}
use Rattle.hj_value.specs.declared.number.IntFault.{IntFault}
use Rattle.hj_value.specs.declared.number.IntFault.TheVariants as int_fault
use Rattle.hj_lex.proofs.Runs.{list_all-run, begins-after_run}
use Rattle.hj_lex.specs.Fronts.{BeginsClosedText, BeginsToken, IsFirstByte}
use Rattle.hj_lex.specs.Tokens.{BeginsLongNumber, BeginsNothing, HasFault, IsBadByte, IsTokenOf, begins, begins_sign, begins_nothing, behind_number, doubled, inside_text, is_blank, is_digits, is_quote, is_word, number_end, number_value, quote, quoted}
use Rattle.hj_lex.specs.declared.fault.LexFault.TheVariants as fault
use Rattle.hj_lex.specs.declared.token.Token.{Token}
use Rattle.hj_lex.specs.declared.token.TokenKind.{TokenKind}
use Rattle.hj_lex.specs.declared.token.TokenKind.TheVariants as kind

pub begins-take : (p : ℕ → Bool) (n : ℕ) (xs : List ℕ) → 0 < n → begins p (take n xs) ≡ begins p xs
begins-take p zero xs h = absurd (omega arith)
begins-take p (suc n) [] h = refl
begins-take p (suc n) (x ∷ xs) h = refl

letter_cases : (digit upper lower other : Bool) → (upper || lower) ≡ true → (((digit || upper) || lower) || other) ≡ true
letter_cases true upper lower other h = refl
letter_cases false true lower other h = refl
letter_cases false false true other h = refl
letter_cases false false false other h = absurd (false≢true h)

pub letter_word : (x : ℕ) → is_ascii_alphabetic x ≡ true → is_word x ≡ true
letter_word x h = letter_cases (is_ascii_digit x) (is_in_range 65 90 x) (is_in_range 97 122 x) (eqb x 95) h

digit_cases : (digit upper lower other : Bool) → digit ≡ true → (((digit || upper) || lower) || other) ≡ true
digit_cases true upper lower other h = refl
digit_cases false upper lower other h = absurd (false≢true h)

pub digit_word : (x : ℕ) → is_ascii_digit x ≡ true → is_word x ≡ true
digit_word x h = digit_cases (is_ascii_digit x) (is_in_range 65 90 x) (is_in_range 97 122 x) (eqb x 95) h

-- a run that begins with a byte that passes isn't empty
pub run_some : (p : ℕ → Bool) (xs : List ℕ) → begins p xs ≡ true → 0 < prefix_len p xs
run_some p [] h = absurd (false≢true h)
run_some p (x ∷ xs) h =
    let e : prefix_len p (x ∷ xs) ≡ 1 + prefix_len p xs = ap (λ b. cond b (1 + prefix_len p xs) 0) h in
    omega (arith, e)

begins_word : (xs : List ℕ) → begins is_ascii_alphabetic xs ≡ true → begins is_word xs ≡ true
begins_word [] h = h
begins_word (x ∷ xs) h = letter_word x h

pub name_front : (bytes : List ℕ) → begins is_ascii_alphabetic bytes ≡ true → BeginsToken kind.Name bytes (prefix_len is_word bytes)
name_front bytes h =
    let some : 0 < prefix_len is_word bytes = run_some is_word bytes (begins_word bytes h) in
    record {
      some = some;
      within = prefix_len-le-length is_word bytes;
      form = (and_from _ _ (begins-take is_ascii_alphabetic (prefix_len is_word bytes) bytes some ∙ h) (list_all-run is_word bytes), begins-after_run is_word bytes);
    }

pub digits_front : (bytes : List ℕ) → begins is_ascii_digit bytes ≡ true → is_digits (take (prefix_len is_ascii_digit bytes) bytes) ≡ true
digits_front bytes h =
    and_from _ _ (begins-take is_ascii_digit (prefix_len is_ascii_digit bytes) bytes (run_some is_ascii_digit bytes h) ∙ h) (list_all-run is_ascii_digit bytes)

digit_no_minus : (x : ℕ) → is_ascii_digit x ≡ true → eqb x 45 ≡ false
digit_no_minus x h = grind (arith, nat_tests)

digit_no_plus : (x : ℕ) → is_ascii_digit x ≡ true → eqb x 43 ≡ false
digit_no_plus x h = grind (arith, nat_tests)

unsigned_at : (minus plus : Bool) (x : ℕ) (xs : List ℕ) → minus ≡ false → plus ≡ false → cond minus xs (drop (cond plus 1 0) (x ∷ xs)) ≡ x ∷ xs
unsigned_at true plus x xs m p = absurd (true≢false m)
unsigned_at false true x xs m p = absurd (true≢false p)
unsigned_at false false x xs m p = refl

read_as : Bool → ℤ → Result ℤ IntFault
read_as number value = cond (not number) (Err int_fault.NotNumber) (cond (fits_i64 value) (Ok value) (Err int_fault.NumberRange))

-- digits read as the number that they write, where it is in range
pub int_of-digits : (bytes : List ℕ) → is_digits bytes ≡ true → int_of bytes ≡ cond (ltb (number_value bytes) number_end) (Ok (pos (number_value bytes))) (Err int_fault.NumberRange)
unfolding read_as
int_of-digits [] h = absurd (false≢true h)
int_of-digits (x ∷ xs) h =
    let bytes : List ℕ = x ∷ xs in
    let p : (is_ascii_digit x ≡ true) × (list_all is_ascii_digit bytes ≡ true) = and_parts _ _ h in
    let minus : eqb x 45 ≡ false = digit_no_minus x p.0 in
    let plain : without_leading_sign bytes ≡ bytes = unsigned_at (eqb x 45) (eqb x 43) x xs minus (digit_no_plus x p.0) in
    let all : all_ascii_digits bytes ≡ true = sym (list_all-digits bytes) ∙ p.1 in
    let number : is_number bytes ≡ true = and_from _ _ (ap (λ ds. ltb 0 (length ds)) plain ∙ lt-ltb 0 (length bytes) (omega arith)) (ap all_ascii_digits plain ∙ all) in
    let value : signed_digits_value 10 bytes ≡ pos (number_value bytes) =
    ap (λ b. cond b (neg_ℤ (pos (digits_value 10 (without_leading_sign bytes)))) (pos (digits_value 10 (without_leading_sign bytes)))) minus ∙ ap (λ ds. pos (digits_value 10 ds)) plain in
    ap (λ n. read_as n (signed_digits_value 10 bytes)) number ∙ ap (λ z. read_as true z) value

is_err-cond : (b : Bool) (z : ℤ) (e : IntFault) → is_err (cond b (Ok z) (Err e)) ≡ not b
is_err-cond true z e = refl
is_err-cond false z e = refl

is_err-digits : (bytes : List ℕ) (r : Result ℤ IntFault) → is_digits bytes ≡ true → r ≡ int_of bytes → is_err r ≡ not (ltb (number_value bytes) number_end)
is_err-digits bytes r h e =
    ap is_err (e ∙ int_of-digits bytes h) ∙ is_err-cond (ltb (number_value bytes) number_end) (pos (number_value bytes)) int_fault.NumberRange

pub in_range : (bytes : List ℕ) (r : Result ℤ IntFault) → is_digits bytes ≡ true → r ≡ int_of bytes → is_err r ≡ false → number_value bytes < number_end
in_range bytes r h e k = ltb-true _ _ (not-false _ (sym (is_err-digits bytes r h e) ∙ k))

pub out_of_range : (bytes : List ℕ) (r : Result ℤ IntFault) → is_digits bytes ≡ true → r ≡ int_of bytes → is_err r ≡ true → number_end ≤ number_value bytes
out_of_range bytes r h e k = ltb-false _ _ (not-true _ (sym (is_err-digits bytes r h e) ∙ k))

-- the number that begins the bytes, in range and with no word behind it
pub number_front : (bytes : List ℕ) → begins is_ascii_digit bytes ≡ true → number_value (take_while is_ascii_digit bytes) < number_end → begins is_word (drop (prefix_len is_ascii_digit bytes) bytes) ≡ false → BeginsToken kind.Number bytes (prefix_len is_ascii_digit bytes)
number_front bytes h low alone = record {
  some = run_some is_ascii_digit bytes h;
  within = prefix_len-le-length is_ascii_digit bytes;
  form = ((digits_front bytes h, low), alone);
}

closed_inside : (bytes value rest : List ℕ) (count : ℕ) → bytes ≡ quoted value ++ rest → count ≡ length (quoted value) → take (count - 1 - 1) (drop 1 bytes) ≡ doubled value
closed_inside bytes value rest count e n =
    let from : drop 1 bytes ≡ doubled value ++ (quote ∷ rest) = ap (drop 1) e ∙ append_assoc (doubled value) (quote ∷ []) rest in
    let size : count - 1 - 1 ≡ length (doubled value) = omega (arith, n, length-append (doubled value) (quote ∷ [])) in
    ap (λ k. take k (drop 1 bytes)) size ∙ ap (take (length (doubled value))) from ∙ take_at (doubled value) (quote ∷ rest) (length (doubled value)) refl

-- the text that begins the bytes isn't UTF-8
pub ill_formed : (bytes inside : List ℕ) (count valid : ℕ) → BeginsClosedText bytes count → inside ≡ take (count - 1 - 1) (drop 1 bytes) → ¬ (IsUtf8 inside) → valid ≡ utf8_valid_len inside → IsBadByte bytes (1 + valid)
ill_formed bytes inside count valid t e bad v =
    inside_text inside (t.value, t.rest, e ∙ closed_inside bytes t.value t.rest count t.split t.size, t.split, t.longest, bad) (ap (λ n. 1 + n) v)

-- a byte that no token begins with
kind_cases : (letter digit quotes : Bool) → kind.Sign ≡ cond letter kind.Name (cond digit kind.Number (cond quotes kind.Text kind.Sign)) → (letter ≡ false) × (digit ≡ false) × (quotes ≡ false)
kind_cases true digit quotes e = cc
kind_cases false true quotes e = cc
kind_cases false false true e = cc
kind_cases false false false e = (refl, refl, refl)

black_cases : (blank digit upper lower quotes : Bool) → blank ≡ false → (upper || lower) ≡ false → digit ≡ false → quotes ≡ false → not ((blank || ((digit || upper) || lower)) || quotes) ≡ true
black_cases false false false false false b l d q = refl
black_cases true digit upper lower quotes b l d q = cc
black_cases false true upper lower quotes b l d q = cc
black_cases false false true lower quotes b l d q = cc
black_cases false false false true quotes b l d q = cc
black_cases false false false false true b l d q = cc

pub nothing_front : (bytes : List ℕ) → IsFirstByte kind.Sign bytes → begins_sign bytes ≡ false → BeginsNothing bytes
nothing_front [] f s = absurd f
nothing_front (x ∷ xs) f s =
    let p = kind_cases (is_ascii_alphabetic x) (is_ascii_digit x) (is_quote x) f.0 in
    (black_cases (is_blank x) (is_ascii_digit x) (is_in_range 65 90 x) (is_in_range 97 122 x) (is_quote x) f.1 p.0 p.1 p.2, s)

name_cases : (letter digit quotes : Bool) → kind.Name ≡ cond letter kind.Name (cond digit kind.Number (cond quotes kind.Text kind.Sign)) → letter ≡ true
name_cases true digit quotes e = refl
name_cases false true quotes e = cc
name_cases false false true e = cc
name_cases false false false e = cc

pub first_letter : (bytes : List ℕ) → IsFirstByte kind.Name bytes → begins is_ascii_alphabetic bytes ≡ true
first_letter [] f = absurd f
first_letter (x ∷ xs) f = name_cases (is_ascii_alphabetic x) (is_ascii_digit x) (is_quote x) f.0

-- The answers of the functions that measure a token.

pub long_number : (rest : List ℕ) (count : ℕ) (r : Result ℤ IntFault) → begins is_ascii_digit rest ≡ true → count ≡ prefix_len is_ascii_digit rest → r ≡ int_of (take count rest) → is_err r ≡ true → BeginsLongNumber rest
long_number rest count r h n e k =
    out_of_range (take_while is_ascii_digit rest) r (digits_front rest h) (e ∙ ap (λ m. int_of (take m rest)) n) k

short_number : (rest : List ℕ) (count : ℕ) (r : Result ℤ IntFault) → begins is_ascii_digit rest ≡ true → count ≡ prefix_len is_ascii_digit rest → r ≡ int_of (take count rest) → is_err r ≡ false → number_value (take_while is_ascii_digit rest) < number_end
short_number rest count r h n e k =
    in_range (take_while is_ascii_digit rest) r (digits_front rest h) (e ∙ ap (λ m. int_of (take m rest)) n) k

pub run_on_number : (rest : List ℕ) (count : ℕ) (r : Result ℤ IntFault) → begins is_ascii_digit rest ≡ true → count ≡ prefix_len is_ascii_digit rest → r ≡ int_of (take count rest) → is_err r ≡ false → begins is_word (drop count rest) ≡ true → IsBadByte rest count
run_on_number rest count r h n e k w =
    behind_number (h, short_number rest count r h n e k, ap (λ m. begins is_word (drop m rest)) (sym n) ∙ w) n

pub whole_number : (rest : List ℕ) (count : ℕ) (r : Result ℤ IntFault) → begins is_ascii_digit rest ≡ true → count ≡ prefix_len is_ascii_digit rest → r ≡ int_of (take count rest) → is_err r ≡ false → begins is_word (drop count rest) ≡ false → BeginsToken kind.Number rest count
whole_number rest count r h n e k w =
    subst (λ m. BeginsToken kind.Number rest m) (sym n) (number_front rest h (short_number rest count r h n e k) (ap (λ m. begins is_word (drop m rest)) (sym n) ∙ w))

pub whole_name : (k : TokenKind) (rest : List ℕ) (count : ℕ) → k ≡ kind.Name → IsFirstByte k rest → count ≡ prefix_len is_word rest → BeginsToken k rest count
whole_name k rest count e f n =
    subst (λ (k : TokenKind). BeginsToken k rest count) (sym e)
    (subst (λ m. BeginsToken kind.Name rest m) (sym n) (name_front rest (first_letter rest (subst (λ (k : TokenKind). IsFirstByte k rest) e f))))

pub whole_sign : (k : TokenKind) (rest : List ℕ) (from : ℕ) (r : Option ℕ) → k ≡ kind.Sign → IsFirstByte k rest → MatchOption r (begins_sign rest ≡ false) (BeginsToken kind.Sign rest) → MatchResult (ok_or r (fault.BadByte from)) (BeginsToken k rest) (HasFault from rest)
whole_sign k rest from None e f h =
    (0, begins_nothing (nothing_front rest (subst (λ (k : TokenKind). IsFirstByte k rest) e f) h) refl, omega arith)
whole_sign k rest from (Some count) e f h = subst (λ (k : TokenKind). BeginsToken k rest count) (sym e) h

-- what begins the bytes of a text from a place on is a token of the text
pub token_from : (text : List ℕ) (token : Token) (count : ℕ) → token.to ≡ token.from + count → BeginsToken token.kind (drop token.from text) count → IsTokenOf text token
token_from text token count e b =
    let same : token.to - token.from ≡ count = omega (arith, e) in
    let rest : drop token.to text ≡ drop count (drop token.from text) = ap (λ n. drop n text) e ∙ sym (drop-drop count token.from text) in
    (omega (arith, e, b.some), omega (arith, e, b.within, length-drop token.from text), rw (same, rest) b.form)
