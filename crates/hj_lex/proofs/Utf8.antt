-- What is UTF-8 with its quotes doubled is UTF-8.
use Rattle.std.proofs.Common.{◌≡◌, ℕ, suc, zero, ◌<◌, ◌≤◌, Bool, true, false, not, cond, List, [], ◌∷◌, ◌++◌, length, get_or, refl, sym, ap, ◌∙◌, subst, arith, length-append}
use Rattle.std.proofs.lemmas.List.{append-nil, get_or_default}
use Rattle.std.proofs.lemmas.List.Sums.{list_all-from_AllPass}
use Rattle.std.proofs.lemmas.Bool.{and_parts, and_from, eqb-true, false≢true, false_from_ne_true}
use Rattle.std.proofs.lemmas.Str.{IsCharBoundary-after_ascii, IsUtf8-append, IsUtf8-drop, IsUtf8-from_ascii, IsUtf8-nil, encode_ascii, inside_one, len_utf8_bounds, length-encode}
use Rattle.std.proofs.lemmas.Str.Ascii.{IsAscii-cons, IsAscii-nil}
use Rattle.std.specs.List.{list_all}
use Rattle.std.specs.Str.{IsUtf8}
use Rattle.hj_lex.specs.Tokens.{doubled, is_quote, quote}
use lib.Utf8.{encode, encodes, scalar, scalars}

abbrev is_plain : ℕ → Bool
is_plain byte = not (is_quote byte)

cons_nil : (x : ℕ) (xs : List ℕ) → x ∷ xs ≡ [] → ⊥
cons_nil x xs e = cc

plain_true : (b : Bool) → not b ≡ true → b ≡ false
plain_true true h = absurd (false≢true h)
plain_true false h = refl

plain_at : (b : Bool) (x y : ℕ) (xs ys : List ℕ) → is_quote x ≡ false → x ∷ xs ≡ cond b (quote ∷ quote ∷ ys) (y ∷ ys) → (x ≡ y) × (xs ≡ ys)
plain_at true x y xs ys p e =
    let q : x ≡ quote = cc in
    absurd (false≢true (sym p ∙ ap is_quote q))
plain_at false x y xs ys p e = (cc, cc)

-- bytes that hold no quote stand for themselves
split_plain : (front rest value : List ℕ) → list_all is_plain front ≡ true → front ++ rest ≡ doubled value → (left : List ℕ) × (value ≡ front ++ left) × (doubled left ≡ rest)
split_plain [] rest value p e = (value, refl, sym e)
split_plain (x ∷ xs) rest [] p e = absurd (cons_nil x (xs ++ rest) e)
split_plain (x ∷ xs) rest (y ∷ ys) p e =
    let q : (is_plain x ≡ true) × (list_all is_plain xs ≡ true) = and_parts _ _ p in
    let m = plain_at (is_quote y) x y (xs ++ rest) (doubled ys) (plain_true _ q.0) e in
    let t = split_plain xs rest ys q.1 m.1 in
    (t.0, ap (λ b. b ∷ ys) (sym m.0) ∙ ap (λ more. x ∷ more) t.1, t.2)

-- a character whose first byte is no quote holds none
plain_char : (c x : ℕ) (xs : List ℕ) → encode c ≡ x ∷ xs → is_quote x ≡ false → list_all is_plain (encode c) ≡ true
plain_char c x xs e p =
    list_all-from_AllPass is_plain (encode c) (λ k d h. ap not (false_from_ne_true (is_quote (get_or (encode c) k d)) (λ q.
    let b : get_or (encode c) k 0 ≡ quote = get_or_default (encode c) k 0 d h ∙ eqb-true _ _ q in
    let small : get_or (encode c) k 0 < 128 = omega (arith, b) in
    let one : c ≡ quote = inside_one c [] (encode c) k (sym (append-nil (encode c))) h small ∙ b in
    let shape : x ∷ xs ≡ quote ∷ [] = sym e ∙ ap encode one ∙ encode_ascii quote (omega arith) in
    let first : x ≡ quote = cc in
    false≢true (sym p ∙ ap is_quote first))))

char_some : (c : ℕ) → 1 ≤ length (encode c)
char_some c = omega (arith, length-encode c, (len_utf8_bounds c).0)

-- the first byte of a character
first_of : (front rest : List ℕ) (x : ℕ) (xs : List ℕ) → 1 ≤ length front → front ++ rest ≡ x ∷ xs → (ys : List ℕ) × (front ≡ x ∷ ys)
first_of [] rest x xs h e = absurd (omega arith)
first_of (y ∷ ys) rest x xs h e = (ys, let f : y ≡ x = cc in ap (λ b. b ∷ ys) f)

quote_first : (x : ℕ) (xs : List ℕ) → is_quote x ≡ true → IsUtf8 xs → IsUtf8 (x ∷ xs)
quote_first x xs q u =
    let small : x < 128 = omega (arith, eqb-true x quote q) in
    IsUtf8-append (x ∷ []) xs (IsUtf8-from_ascii (x ∷ []) (IsAscii-cons x [] small IsAscii-nil)) u

behind_quotes : (bytes : List ℕ) → IsUtf8 (quote ∷ quote ∷ bytes) → IsUtf8 bytes
behind_quotes bytes u =
    IsUtf8-drop (quote ∷ quote ∷ bytes) 2 u (IsCharBoundary-after_ascii (quote ∷ quote ∷ bytes) 1 u (omega arith) (omega arith))

char_first : (cs : List ℕ) (fuel x : ℕ) (xs : List ℕ) → is_quote x ≡ false → ((value : List ℕ) → length value ≤ fuel → IsUtf8 (doubled value) → IsUtf8 value) → length xs ≤ fuel → scalars cs ≡ true → encodes cs ≡ x ∷ doubled xs → IsUtf8 (x ∷ xs)
char_first [] fuel x xs q more l s e = absurd (cons_nil x (doubled xs) (sym e))
char_first (c ∷ cs) fuel x xs q more l s e =
    let f = first_of (encode c) (encodes cs) x (doubled xs) (char_some c) e in
    let whole : encode c ++ encodes cs ≡ doubled (x ∷ xs) = e ∙ sym (ap (λ b. cond b (quote ∷ quote ∷ doubled xs) (x ∷ doubled xs)) q) in
    let p = split_plain (encode c) (encodes cs) (x ∷ xs) (plain_char c x f.0 f.1 q) whole in
    let t : (scalar c ≡ true) × (scalars cs ≡ true) = and_parts _ _ s in
    let one : IsUtf8 (encode c) = (c ∷ [], (and_from _ _ t.0 refl, append-nil (encode c))) in
    let short : length p.0 ≤ fuel = omega (arith, l, char_some c, ap length p.1, length-append (encode c) p.0) in
    subst IsUtf8 (sym p.1) (IsUtf8-append (encode c) p.0 one (more p.0 short (cs, (t.1, sym p.2))))

step : (b : Bool) (fuel x : ℕ) (xs : List ℕ) → is_quote x ≡ b → ((value : List ℕ) → length value ≤ fuel → IsUtf8 (doubled value) → IsUtf8 value) → length xs ≤ fuel → IsUtf8 (cond b (quote ∷ quote ∷ doubled xs) (x ∷ doubled xs)) → IsUtf8 (x ∷ xs)
step true fuel x xs q more l u = quote_first x xs q (more xs l (behind_quotes (doubled xs) u))
step false fuel x xs q more l u = char_first u.0 fuel x xs q more l u.1.0 u.1.1

undoubled : (fuel : ℕ) (value : List ℕ) → length value ≤ fuel → IsUtf8 (doubled value) → IsUtf8 value
undoubled fuel [] l u = IsUtf8-nil
undoubled zero (x ∷ xs) l u = absurd (omega arith)
undoubled (suc fuel) (x ∷ xs) l u =
    step (is_quote x) fuel x xs refl (undoubled fuel) (omega arith) u

pub IsUtf8-undoubled : (value : List ℕ) → IsUtf8 (doubled value) → IsUtf8 value
IsUtf8-undoubled value u = undoubled (length value) value (omega arith) u
