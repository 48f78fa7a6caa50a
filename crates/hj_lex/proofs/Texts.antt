-- Texts in quotes, with each quote inside doubled.
use Rattle.std.proofs.Common.{◌≡◌, ℕ, ◌+◌, ◌<◌, ◌≤◌, Bool, true, false, cond, List, [], ◌∷◌, ◌++◌, length, drop, get_or, refl, sym, ap, ◌∙◌, subst, arith, length-append, inl, inr, Option, None, Some, MatchOption}
use Rattle.std.proofs.lemmas.List.{append_assoc, drop_more, length-drop, drop_all}
use Rattle.std.proofs.lemmas.Bool.{eqb-true, false≢true, cases_lt}
use Rattle.hj_lex.specs.Tokens.{begins, is_quote, quote, doubled, quoted}
use Rattle.hj_lex.specs.Fronts.{BeginsClosedText}

-- what follows the first quote of a text, up to a place
abbrev pub Inside : List ℕ → ℕ → Type 0
Inside bytes at = (value : List ℕ) × (bytes ≡ quote ∷ (doubled value ++ drop at bytes))

one_on : (n : ℕ) → n + 2 ≡ n + 1 + 1
one_on n = omega arith

append_both : (b : Bool) (x : ℕ) (xs ys : List ℕ) → cond b (quote ∷ quote ∷ (xs ++ ys)) (x ∷ (xs ++ ys)) ≡ cond b (quote ∷ quote ∷ xs) (x ∷ xs) ++ ys
append_both true x xs ys = refl
append_both false x xs ys = refl

pub doubled-append : (xs ys : List ℕ) → doubled (xs ++ ys) ≡ doubled xs ++ doubled ys
doubled-append [] ys = refl
doubled-append (x ∷ xs) ys = ap (λ rest. cond (is_quote x) (quote ∷ quote ∷ rest) (x ∷ rest)) (doubled-append xs ys) ∙ append_both (is_quote x) x (doubled xs) (doubled ys)

plain_more : (value rest : List ℕ) (x : ℕ) → is_quote x ≡ false → doubled value ++ x ∷ rest ≡ doubled (value ++ x ∷ []) ++ rest
plain_more value rest x e =
    let one : doubled (x ∷ []) ≡ x ∷ [] = ap (λ b. cond b (quote ∷ quote ∷ []) (x ∷ [])) e in
    sym (ap (λ d. d ++ rest) (doubled-append value (x ∷ []) ∙ ap (λ d. doubled value ++ d) one) ∙ append_assoc (doubled value) (x ∷ []) rest)

quote_more : (value rest : List ℕ) → doubled value ++ quote ∷ quote ∷ rest ≡ doubled (value ++ quote ∷ []) ++ rest
quote_more value rest =
    sym (ap (λ d. d ++ rest) (doubled-append value (quote ∷ [])) ∙ append_assoc (doubled value) (quote ∷ quote ∷ []) rest)

-- where a quote begins what stands from a place on, it is the byte there
pub begins_within : (bytes : List ℕ) (at : ℕ) → begins is_quote (drop at bytes) ≡ true → at < length bytes
begins_within bytes at h = elim (cases_lt at (length bytes)) [ inl l ↦ l | inr g ↦ absurd (false≢true (ap (begins is_quote) (sym (drop_all at bytes g)) ∙ h)) ]

quote_at : (bytes : List ℕ) (at : ℕ) → begins is_quote (drop at bytes) ≡ true → drop at bytes ≡ quote ∷ drop (at + 1) bytes
quote_at bytes at h =
    let d : drop at bytes ≡ get_or bytes at 0 ∷ drop (at + 1) bytes = drop_more bytes at 0 (begins_within bytes at h) in
    let q : get_or bytes at 0 ≡ quote = eqb-true (get_or bytes at 0) quote (ap (begins is_quote) (sym d) ∙ h) in
    d ∙ ap (λ x. x ∷ drop (at + 1) bytes) q

pub inside_plain : (bytes : List ℕ) (at : ℕ) → at < length bytes → begins is_quote (drop at bytes) ≡ false → Inside bytes at → Inside bytes (at + 1)
inside_plain bytes at h other p =
    let x = get_or bytes at 0 in
    let d : drop at bytes ≡ x ∷ drop (at + 1) bytes = drop_more bytes at 0 h in
    (p.0 ++ x ∷ [], p.1 ∙ ap (λ rest. quote ∷ (doubled p.0 ++ rest)) d ∙ ap (λ rest. quote ∷ rest) (plain_more p.0 (drop (at + 1) bytes) x (ap (begins is_quote) (sym d) ∙ other)))

pub inside_quotes : (bytes : List ℕ) (at : ℕ) → begins is_quote (drop at bytes) ≡ true → begins is_quote (drop (at + 1) bytes) ≡ true → Inside bytes at → Inside bytes (at + 2)
inside_quotes bytes at one two p =
    let d : drop at bytes ≡ quote ∷ quote ∷ drop (at + 2) bytes = quote_at bytes at one ∙ ap (λ rest. quote ∷ rest) (rw one_on (quote_at bytes (at + 1) two)) in
    (p.0 ++ quote ∷ [], p.1 ∙ ap (λ rest. quote ∷ (doubled p.0 ++ rest)) d ∙ ap (λ rest. quote ∷ rest) (quote_more p.0 (drop (at + 2) bytes)))

pub closed : (bytes : List ℕ) (at : ℕ) → 1 ≤ at → at < length bytes → begins is_quote (drop at bytes) ≡ true → begins is_quote (drop (at + 1) bytes) ≡ false → Inside bytes at → BeginsClosedText bytes (at + 1)
closed bytes at some h one none p =
    let d = quote_at bytes at one in
    let e : bytes ≡ quoted p.0 ++ drop (at + 1) bytes =
    p.1 ∙ ap (λ rest. quote ∷ (doubled p.0 ++ rest)) d ∙ ap (λ rest. quote ∷ rest) (sym (append_assoc (doubled p.0) (quote ∷ []) (drop (at + 1) bytes))) in
    record {
      value = p.0;
      rest = drop (at + 1) bytes;
      split = e;
      longest = none;
      size = omega (arith, ap length e, length-append (quoted p.0) (drop (at + 1) bytes), length-drop (at + 1) bytes);
    }

-- Splitting what follows the first quote: the value up to the quote that ends the text, and what stands behind it.
-- `pending` says that a quote was read just before.
abbrev pub with_front : ℕ → List ℕ × Option (List ℕ) → List ℕ × Option (List ℕ)
with_front byte found = (byte ∷ found.0, found.1)

abbrev pub split_text : Bool → List ℕ → List ℕ × Option (List ℕ)
split_text false [] = ([], None)
split_text true [] = ([], Some [])
split_text false (x ∷ xs) = cond (is_quote x) (split_text true xs) (with_front x (split_text false xs))
split_text true (x ∷ xs) = cond (is_quote x) (with_front quote (split_text false xs)) ([], Some (x ∷ xs))

plain_bytes : (x : ℕ) → is_quote x ≡ true → x ≡ quote
plain_bytes x h = eqb-true x quote h

split_step : (b : Bool) (x : ℕ) (value xs more : List ℕ) (end : Option (List ℕ)) → is_quote x ≡ b → split_text false (xs ++ more) ≡ (value, end) → split_text false (cond b (quote ∷ quote ∷ xs) (x ∷ xs) ++ more) ≡ (x ∷ value, end)
split_step true x value xs more end q h = ap (with_front quote) h ∙ ap (λ (y : ℕ). (y ∷ value, end)) (sym (plain_bytes x q))
split_step false x value xs more end q h =
    ap (λ b. cond b (split_text true (xs ++ more)) (with_front x (split_text false (xs ++ more)))) q ∙ ap (with_front x) h

pub split_text-closed : (value rest : List ℕ) → begins is_quote rest ≡ false → split_text false (doubled value ++ quote ∷ rest) ≡ (value, Some rest)
split_text-closed [] [] h = refl
split_text-closed [] (x ∷ xs) h = ap (λ b. cond b (with_front quote (split_text false xs)) ([], Some (x ∷ xs))) h
split_text-closed (x ∷ xs) rest h =
    split_step (is_quote x) x xs (doubled xs) (quote ∷ rest) (Some rest) refl (split_text-closed xs rest h)

pub split_text-open : (value : List ℕ) → split_text false (doubled value ++ []) ≡ (value, None)
split_text-open [] = refl
split_text-open (x ∷ xs) = split_step (is_quote x) x xs (doubled xs) [] None refl (split_text-open xs)

-- what a split found is there
abbrev pub IsSplit : List ℕ → List ℕ × Option (List ℕ) → Type 0
IsSplit bytes found = MatchOption found.1 (bytes ≡ doubled found.0) (λ rest. (bytes ≡ doubled found.0 ++ quote ∷ rest) × (begins is_quote rest ≡ false))

abbrev with_pending : Bool → List ℕ → List ℕ
with_pending true bytes = quote ∷ bytes
with_pending false bytes = bytes

split_plain : (x : ℕ) (xs value : List ℕ) (end : Option (List ℕ)) → is_quote x ≡ false → IsSplit xs (value, end) → IsSplit (x ∷ xs) (x ∷ value, end)
split_plain x xs value None q h =
    ap (λ rest. x ∷ rest) h ∙ sym (ap (λ b. cond b (quote ∷ quote ∷ doubled value) (x ∷ doubled value)) q)
split_plain x xs value (Some rest) q h =
    (ap (λ more. x ∷ more) h.0 ∙ sym (ap (λ b. cond b (quote ∷ quote ∷ doubled value) (x ∷ doubled value) ++ quote ∷ rest) q), h.1)

split_quotes : (xs value : List ℕ) (end : Option (List ℕ)) → IsSplit xs (value, end) → IsSplit (quote ∷ quote ∷ xs) (quote ∷ value, end)
split_quotes xs value None h = ap (λ rest. quote ∷ quote ∷ rest) h
split_quotes xs value (Some rest) h = (ap (λ more. quote ∷ quote ∷ more) h.0, h.1)

split_at : (b : Bool) (x : ℕ) (xs : List ℕ) → is_quote x ≡ b → IsSplit (quote ∷ xs) (split_text true xs) → IsSplit xs (split_text false xs) → IsSplit (x ∷ xs) (cond b (split_text true xs) (with_front x (split_text false xs)))
split_at true x xs q h k =
    subst (λ y. IsSplit (y ∷ xs) (split_text true xs)) (sym (plain_bytes x q)) h
split_at false x xs q h k = split_plain x xs (split_text false xs).0 (split_text false xs).1 q k

split_behind : (b : Bool) (x : ℕ) (xs : List ℕ) → is_quote x ≡ b → IsSplit xs (split_text false xs) → IsSplit (quote ∷ x ∷ xs) (cond b (with_front quote (split_text false xs)) ([], Some (x ∷ xs)))
split_behind true x xs q k =
    subst (λ y. IsSplit (quote ∷ y ∷ xs) (with_front quote (split_text false xs))) (sym (plain_bytes x q)) (split_quotes xs (split_text false xs).0 (split_text false xs).1 k)
split_behind false x xs q k = (refl, q)

is_split : (pending : Bool) (bytes : List ℕ) → IsSplit (with_pending pending bytes) (split_text pending bytes)
is_split false [] = refl
is_split true [] = (refl, refl)
is_split false (x ∷ xs) = split_at (is_quote x) x xs refl (is_split true xs) (is_split false xs)
is_split true (x ∷ xs) = split_behind (is_quote x) x xs refl (is_split false xs)

pub split_text-gives : (bytes : List ℕ) → IsSplit bytes (split_text false bytes)
split_text-gives bytes = is_split false bytes
