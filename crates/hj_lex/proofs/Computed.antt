-- What begins the bytes from a place on, computed: the one token or the one fault.
use Rattle.std.proofs.Common.{◌≡◌, ℕ, ◌+◌, ◌≤◌, Bool, true, false, not, ◌||◌, cond, ltb, List, [], ◌∷◌, ◌++◌, length, take, drop, refl, sym, ap, ◌∙◌, subst, arith, Ok, Err, Result, MatchResult, Option, None, Some, MatchOption, length-append}
use Rattle.std.proofs.lemmas.Bool.{and_parts, false≢true, ltb-true, ltb-false, eqb-true, le-ltb, lt-ltb, false_from_ne_true}
use Rattle.std.proofs.lemmas.Bool.Decides.{nat_tests}
use Rattle.std.proofs.lemmas.List.{append_assoc, append-nil, take_at, drop_at}
use Rattle.std.proofs.lemmas.Str.{IsUtf8-from_is_utf8, is_utf8-from_IsUtf8}
use Rattle.std.specs.Char.{is_ascii_alphabetic, is_ascii_digit}
use Rattle.std.specs.Int.{is_in_range}
use Rattle.std.specs.List.{list_all, prefix_len, take_while}
use Rattle.std.specs.Str.{IsUtf8, is_utf8}
use Rattle.std.specs.Str.Lossy.{utf8_valid_len}
use Rattle.hj_lex.proofs.Fronts.{name_front, number_front, nothing_front, digit_word}
use Rattle.hj_lex.proofs.Runs.{run_is}
use Rattle.hj_lex.proofs.Signs.{sign_first, sign_front, sign_len, sign_len-none, sign_len-token}
use Rattle.hj_lex.proofs.Texts.{IsSplit, split_text, split_text-closed, split_text-gives, split_text-open}
use Rattle.hj_lex.specs.Fronts.{BeginsToken, IsFirstByte, kind_of}
use Rattle.hj_lex.specs.Tokens.{BeginsIllFormedText, BeginsNothing, BeginsRunOnNumber, HasFault, IsBadByte, IsToken, begins, begins_nothing, behind_number, begins_sign, doubled, inside_text, is_blank, is_quote, is_word, number_end, number_value, quote, quoted}
use Rattle.hj_lex.specs.declared.fault.LexFault.{LexFault}
use Rattle.hj_lex.specs.declared.fault.LexFault.TheVariants as fault
use Rattle.hj_lex.specs.declared.token.TokenKind.{TokenKind}
use Rattle.hj_lex.specs.declared.token.TokenKind.TheVariants as kind

-- a token's kind and length, or a fault
abbrev pub Front : Type 0
Front = Result (TokenKind × ℕ) LexFault

abbrev pub number_at : ℕ → ℕ → List ℕ → List ℕ → Front
number_at at count digits rest =
    cond (ltb (number_value digits) number_end) (cond (begins is_word rest) (Err (fault.BadByte (at + count))) (Ok (kind.Number, count))) (Err (fault.NumberRange at))

abbrev pub text_at : ℕ → List ℕ → Option (List ℕ) → Front
text_at at value None = Err (fault.OpenText at)
text_at at value (Some rest) =
    cond (is_utf8 (doubled value)) (Ok (kind.Text, length (quoted value))) (Err (fault.BadByte (at + (1 + utf8_valid_len (doubled value)))))

abbrev pub sign_at : ℕ → Option ℕ → Front
sign_at at None = Err (fault.BadByte (at + 0))
sign_at at (Some count) = Ok (kind.Sign, count)

abbrev pub front_of : TokenKind → ℕ → List ℕ → Front
front_of kind.Name at bytes = Ok (kind.Name, prefix_len is_word bytes)
front_of kind.Number at bytes =
    number_at at (prefix_len is_ascii_digit bytes) (take_while is_ascii_digit bytes) (drop (prefix_len is_ascii_digit bytes) bytes)
front_of kind.Text at bytes = text_at at (split_text false (drop 1 bytes)).0 (split_text false (drop 1 bytes)).1
front_of kind.Sign at bytes = sign_at at (sign_len bytes)

abbrev pub front : ℕ → List ℕ → Front
front at [] = Err fault.Memory
front at (x ∷ xs) = front_of (kind_of x) at (x ∷ xs)

-- the kind by the first byte

kind_letter : (x : ℕ) → is_ascii_alphabetic x ≡ true → kind_of x ≡ kind.Name
kind_letter x h = ap (λ b. cond b kind.Name (cond (is_ascii_digit x) kind.Number (cond (is_quote x) kind.Text kind.Sign))) h

digit_no_letter : (x : ℕ) → is_ascii_digit x ≡ true → is_ascii_alphabetic x ≡ false
digit_no_letter x h = grind (arith, nat_tests)

kind_digit : (x : ℕ) → is_ascii_digit x ≡ true → kind_of x ≡ kind.Number
kind_digit x h =
    ap (λ b. cond b kind.Name (cond (is_ascii_digit x) kind.Number (cond (is_quote x) kind.Text kind.Sign))) (digit_no_letter x h)
    ∙ ap (λ b. cond b kind.Number (cond (is_quote x) kind.Text kind.Sign)) h

-- each token is the front

name_token : (at x : ℕ) (xs rest : List ℕ) → IsToken kind.Name (x ∷ xs) rest → front at (x ∷ xs ++ rest) ≡ Ok (kind.Name, length (x ∷ xs))
name_token at x xs rest t =
    let p : (is_ascii_alphabetic x ≡ true) × (list_all is_word (x ∷ xs) ≡ true) = and_parts _ _ t.0 in
    ap (λ (k : TokenKind). front_of k at (x ∷ xs ++ rest)) (kind_letter x p.0) ∙ ap (λ n. Ok (kind.Name, n)) (run_is is_word (x ∷ xs) rest p.1 t.1)

digit_only : (rest : List ℕ) → begins is_word rest ≡ false → begins is_ascii_digit rest ≡ false
digit_only [] h = refl
digit_only (x ∷ xs) h = false_from_ne_true (is_ascii_digit x) (λ d. false≢true (sym h ∙ digit_word x d))

number_parts : (at : ℕ) (bytes rest : List ℕ) → prefix_len is_ascii_digit (bytes ++ rest) ≡ length bytes → front_of kind.Number at (bytes ++ rest) ≡ number_at at (length bytes) bytes rest
number_parts at bytes rest e =
    ap (λ n. number_at at n (take n (bytes ++ rest)) (drop n (bytes ++ rest))) e
    ∙ ap (λ digits. number_at at (length bytes) digits (drop (length bytes) (bytes ++ rest))) (take_at bytes rest (length bytes) refl)
    ∙ ap (λ more. number_at at (length bytes) bytes more) (drop_at bytes rest (length bytes) refl)

number_token : (at x : ℕ) (xs rest : List ℕ) → IsToken kind.Number (x ∷ xs) rest → front at (x ∷ xs ++ rest) ≡ Ok (kind.Number, length (x ∷ xs))
number_token at x xs rest t =
    let bytes : List ℕ = x ∷ xs in
    let p : (is_ascii_digit x ≡ true) × (list_all is_ascii_digit bytes ≡ true) = and_parts _ _ t.0.0 in
    ap (λ (k : TokenKind). front_of k at (bytes ++ rest)) (kind_digit x p.0)
    ∙ number_parts at bytes rest (run_is is_ascii_digit bytes rest p.1 (digit_only rest t.1))
    ∙ ap (λ b. cond b (cond (begins is_word rest) (Err (fault.BadByte (at + length bytes))) (Ok (kind.Number, length bytes))) (Err (fault.NumberRange at))) (lt-ltb _ _ t.0.1)
    ∙ ap (λ b. cond b (Err (fault.BadByte (at + length bytes))) (Ok (kind.Number, length bytes))) t.1

text_split : (at : ℕ) (value rest : List ℕ) → begins is_quote rest ≡ false → front at (quoted value ++ rest) ≡ text_at at value (Some rest)
text_split at value rest h =
    let e : split_text false ((doubled value ++ quote ∷ []) ++ rest) ≡ (value, Some rest) =
    ap (split_text false) (append_assoc (doubled value) (quote ∷ []) rest) ∙ split_text-closed value rest h in
    ap (λ (p : List ℕ × Option (List ℕ)). text_at at p.0 p.1) e

text_token : (at : ℕ) (bytes rest : List ℕ) → IsToken kind.Text bytes rest → front at (bytes ++ rest) ≡ Ok (kind.Text, length bytes)
text_token at bytes rest t =
    ap (λ all. front at (all ++ rest)) t.0.1 ∙ text_split at t.0.0 rest t.1
    ∙ ap (λ b. cond b (Ok (kind.Text, length (quoted t.0.0))) (Err (fault.BadByte (at + (1 + utf8_valid_len (doubled t.0.0)))))) (is_utf8-from_IsUtf8 (doubled t.0.0) t.0.2)
    ∙ ap (λ all. Ok (kind.Text, length all)) (sym t.0.1)

sign_token : (at x : ℕ) (xs rest : List ℕ) → IsToken kind.Sign (x ∷ xs) rest → front at (x ∷ xs ++ rest) ≡ Ok (kind.Sign, length (x ∷ xs))
sign_token at x xs rest t =
    ap (λ (k : TokenKind). front_of k at (x ∷ xs ++ rest)) (sign_first (x ∷ xs) t.0).0 ∙ ap (sign_at at) (sign_len-token (x ∷ xs) rest t)

pub front-token : (at : ℕ) (k : TokenKind) (bytes rest : List ℕ) → IsToken k bytes rest → front at (bytes ++ rest) ≡ Ok (k, length bytes)
front-token at kind.Name [] rest t = absurd (false≢true t.0)
front-token at kind.Name (x ∷ xs) rest t = name_token at x xs rest t
front-token at kind.Number [] rest t = absurd (false≢true t.0.0)
front-token at kind.Number (x ∷ xs) rest t = number_token at x xs rest t
front-token at kind.Text bytes rest t = text_token at bytes rest t
front-token at kind.Sign [] rest t = absurd (sign_first [] t.0)
front-token at kind.Sign (x ∷ xs) rest t = sign_token at x xs rest t

-- each fault is the front

no_digits : (x : ℕ) (xs : List ℕ) → is_ascii_digit x ≡ false → number_value (take_while is_ascii_digit (x ∷ xs)) ≡ 0
no_digits x xs h = ap (λ b. number_value (take (cond b (1 + prefix_len is_ascii_digit xs) 0) (x ∷ xs))) h

long_digit_at : (b : Bool) (x : ℕ) (xs : List ℕ) → is_ascii_digit x ≡ b → number_end ≤ number_value (take_while is_ascii_digit (x ∷ xs)) → is_ascii_digit x ≡ true
long_digit_at true x xs d h = d
long_digit_at false x xs d h = absurd (omega (arith, h, no_digits x xs d))

-- a number out of range begins with a digit
pub long_digit : (bytes : List ℕ) → number_end ≤ number_value (take_while is_ascii_digit bytes) → begins is_ascii_digit bytes ≡ true
long_digit [] h = absurd (omega (arith, h))
long_digit (x ∷ xs) h = long_digit_at (is_ascii_digit x) x xs refl h

long_front : (at : ℕ) (bytes : List ℕ) → number_end ≤ number_value (take_while is_ascii_digit bytes) → front at bytes ≡ Err (fault.NumberRange at)
long_front at [] h = absurd (omega (arith, h))
long_front at (x ∷ xs) h =
    let count = prefix_len is_ascii_digit (x ∷ xs) in
    ap (λ (k : TokenKind). front_of k at (x ∷ xs)) (kind_digit x (long_digit (x ∷ xs) h))
    ∙ ap (λ b. cond b (cond (begins is_word (drop count (x ∷ xs))) (Err (fault.BadByte (at + count))) (Ok (kind.Number, count))) (Err (fault.NumberRange at))) (le-ltb _ _ h)

open_front : (at : ℕ) (value : List ℕ) → front at (quote ∷ doubled value) ≡ Err (fault.OpenText at)
open_front at value =
    ap (λ (p : List ℕ × Option (List ℕ)). text_at at p.0 p.1) (ap (split_text false) (sym (append-nil (doubled value))) ∙ split_text-open value)

nothing_cases : (blank digit upper lower quotes : Bool) → not ((blank || ((digit || upper) || lower)) || quotes) ≡ true → cond (upper || lower) kind.Name (cond digit kind.Number (cond quotes kind.Text kind.Sign)) ≡ kind.Sign
nothing_cases false false false false false h = refl
nothing_cases true digit upper lower quotes h = cc
nothing_cases false true upper lower quotes h = cc
nothing_cases false false true lower quotes h = cc
nothing_cases false false false true quotes h = cc
nothing_cases false false false false true h = cc

nothing_at : (at : ℕ) (bytes : List ℕ) → BeginsNothing bytes → front at bytes ≡ Err (fault.BadByte (at + 0))
nothing_at at [] n = absurd (false≢true n.0)
nothing_at at (x ∷ xs) n =
    let sign : kind_of x ≡ kind.Sign = nothing_cases (is_blank x) (is_ascii_digit x) (is_in_range 65 90 x) (is_in_range 97 122 x) (is_quote x) n.0 in
    ap (λ (k : TokenKind). front_of k at (x ∷ xs)) sign ∙ ap (sign_at at) (sign_len-none (x ∷ xs) n.1)

run_on_at : (at : ℕ) (bytes : List ℕ) → BeginsRunOnNumber bytes → front at bytes ≡ Err (fault.BadByte (at + prefix_len is_ascii_digit bytes))
run_on_at at [] n = absurd (false≢true n.0)
run_on_at at (x ∷ xs) n =
    let count = prefix_len is_ascii_digit (x ∷ xs) in
    ap (λ (k : TokenKind). front_of k at (x ∷ xs)) (kind_digit x n.0)
    ∙ ap (λ b. cond b (cond (begins is_word (drop count (x ∷ xs))) (Err (fault.BadByte (at + count))) (Ok (kind.Number, count))) (Err (fault.NumberRange at))) (lt-ltb _ _ n.1)
    ∙ ap (λ b. cond b (Err (fault.BadByte (at + count))) (Ok (kind.Number, count))) n.2

ill_formed_at : (at : ℕ) (bytes inside : List ℕ) → BeginsIllFormedText bytes inside → front at bytes ≡ Err (fault.BadByte (at + (1 + utf8_valid_len inside)))
ill_formed_at at bytes inside n =
    let value = n.0 in
    let bad : is_utf8 (doubled value) ≡ false = false_from_ne_true (is_utf8 (doubled value)) (λ u. n.5 (subst IsUtf8 (sym n.2) (IsUtf8-from_is_utf8 (doubled value) u))) in
    ap (front at) n.3 ∙ text_split at value n.1 n.4
    ∙ ap (λ b. cond b (Ok (kind.Text, length (quoted value))) (Err (fault.BadByte (at + (1 + utf8_valid_len (doubled value)))))) bad
    ∙ ap (λ all. Err (fault.BadByte (at + (1 + utf8_valid_len all)))) (sym n.2)

bad_front : (at : ℕ) (bytes : List ℕ) (offset : ℕ) → IsBadByte bytes offset → front at bytes ≡ Err (fault.BadByte (at + offset))
bad_front at bytes offset (begins_nothing n e) = nothing_at at bytes n ∙ ap (λ m. Err (fault.BadByte (at + m))) (sym e)
bad_front at bytes offset (behind_number n e) = run_on_at at bytes n ∙ ap (λ m. Err (fault.BadByte (at + m))) (sym e)
bad_front at bytes offset (inside_text inside n e) = ill_formed_at at bytes inside n ∙ ap (λ m. Err (fault.BadByte (at + m))) (sym e)

pub front-fault : (at : ℕ) (bytes : List ℕ) (found : LexFault) → HasFault at bytes found → front at bytes ≡ Err found
front-fault at bytes (fault.BadByte place) h = bad_front at bytes h.0 h.1 ∙ ap (λ p. Err (fault.BadByte p)) (sym h.2)
front-fault at bytes (fault.OpenText place) h =
    ap (front at) h.0.1 ∙ open_front at h.0.0 ∙ ap (λ p. Err (fault.OpenText p)) (sym h.1)
front-fault at bytes (fault.NumberRange place) h = long_front at bytes h.0 ∙ ap (λ p. Err (fault.NumberRange p)) (sym h.1)
front-fault at bytes fault.Memory h = absurd h

-- and the front is a token or a fault

abbrev Found : ℕ → List ℕ → Front → Type 0
Found at bytes found = MatchResult found (λ p. BeginsToken p.0 bytes p.1) (HasFault at bytes)

number_found : (at : ℕ) (bytes : List ℕ) (low word : Bool) → begins is_ascii_digit bytes ≡ true → ltb (number_value (take_while is_ascii_digit bytes)) number_end ≡ low → begins is_word (drop (prefix_len is_ascii_digit bytes) bytes) ≡ word → Found at bytes (cond low (cond word (Err (fault.BadByte (at + prefix_len is_ascii_digit bytes))) (Ok (kind.Number, prefix_len is_ascii_digit bytes))) (Err (fault.NumberRange at)))
number_found at bytes true true d l w =
    (prefix_len is_ascii_digit bytes, behind_number (d, ltb-true _ _ l, w) refl, refl)
number_found at bytes true false d l w = number_front bytes d (ltb-true _ _ l) w
number_found at bytes false word d l w = (ltb-false _ _ l, refl)

closed_found : (at : ℕ) (bytes value rest : List ℕ) (utf8 : Bool) → bytes ≡ quoted value ++ rest → begins is_quote rest ≡ false → is_utf8 (doubled value) ≡ utf8 → Found at bytes (cond utf8 (Ok (kind.Text, length (quoted value))) (Err (fault.BadByte (at + (1 + utf8_valid_len (doubled value))))))
closed_found at bytes value rest true e q u =
    let count = length (quoted value) in
    record {
      some = omega arith;
      within = omega (arith, ap length e, length-append (quoted value) rest);
      form = ((value, ap (take count) e ∙ take_at (quoted value) rest count refl, IsUtf8-from_is_utf8 (doubled value) u), ap (begins is_quote) (ap (drop count) e ∙ drop_at (quoted value) rest count refl) ∙ q);
    }
closed_found at bytes value rest false e q u =
    (1 + utf8_valid_len (doubled value), inside_text (doubled value) (value, rest, refl, e, q, λ w. false≢true (sym u ∙ is_utf8-from_IsUtf8 (doubled value) w)) refl, refl)

text_found : (at : ℕ) (xs value : List ℕ) (end : Option (List ℕ)) → IsSplit xs (value, end) → Found at (quote ∷ xs) (text_at at value end)
text_found at xs value None h = ((value, ap (λ rest. quote ∷ rest) h), refl)
text_found at xs value (Some rest) h =
    closed_found at (quote ∷ xs) value rest (is_utf8 (doubled value)) (ap (λ more. quote ∷ more) h.0 ∙ ap (λ more. quote ∷ more) (sym (append_assoc (doubled value) (quote ∷ []) rest))) h.1 refl

sign_found : (at : ℕ) (bytes : List ℕ) (found : Option ℕ) → IsFirstByte kind.Sign bytes → MatchOption found (begins_sign bytes ≡ false) (BeginsToken kind.Sign bytes) → Found at bytes (sign_at at found)
sign_found at bytes None f h = (0, begins_nothing (nothing_front bytes f h) refl, refl)
sign_found at bytes (Some count) f h = h

found_at : (at x : ℕ) (xs : List ℕ) (letter digit quotes : Bool) → is_blank x ≡ false → is_ascii_alphabetic x ≡ letter → is_ascii_digit x ≡ digit → is_quote x ≡ quotes → Found at (x ∷ xs) (front_of (cond letter kind.Name (cond digit kind.Number (cond quotes kind.Text kind.Sign))) at (x ∷ xs))
found_at at x xs true digit quotes b l d q = name_front (x ∷ xs) l
found_at at x xs false true quotes b l d q = number_found at (x ∷ xs) _ _ d refl refl
found_at at x xs false false true b l d q =
    subst (λ y. Found at (y ∷ xs) (text_at at (split_text false xs).0 (split_text false xs).1)) (sym (eqb-true x quote q)) (text_found at xs (split_text false xs).0 (split_text false xs).1 (split_text-gives xs))
found_at at x xs false false false b l d q =
    let other : kind_of x ≡ kind.Sign =
    ap (λ c. cond c kind.Name (cond (is_ascii_digit x) kind.Number (cond (is_quote x) kind.Text kind.Sign))) l
    ∙ ap (λ c. cond c kind.Number (cond (is_quote x) kind.Text kind.Sign)) d
    ∙ ap (λ c. cond c kind.Text kind.Sign) q in
    sign_found at (x ∷ xs) (sign_len (x ∷ xs)) (sym other, b) (sign_front (x ∷ xs))

pub front_gives : (at x : ℕ) (xs : List ℕ) → is_blank x ≡ false → Found at (x ∷ xs) (front at (x ∷ xs))
front_gives at x xs b =
    found_at at x xs (is_ascii_alphabetic x) (is_ascii_digit x) (is_quote x) b refl refl refl
