-- The tokens of a text from a place among them on.
use Rattle.std.proofs.Common.{◌≡◌, ℕ, zero, suc, ◌+◌, ◌<◌, ◌≤◌, Bool, true, false, ◌&&◌, List, [], ◌∷◌, length, drop, Some, None, refl, sym, ap, subst, ◌∙◌, arith, inl, inr, ◌⊎◌}
use Rattle.std.specs.List.{slice_get}
use Rattle.std.specs.Str.{bytes_eq}
use Rattle.std.proofs.lemmas.Bool.{and_parts, cases_lt, false≢true}
use Rattle.std.proofs.lemmas.Slice.Eq.{bytes_eq-Decides}
use Rattle.hj_lex.specs.declared.token.Token.{Token}
use Rattle.hj_lex.specs.declared.token.TokenKind.{TokenKind}
use Rattle.hj_lex.specs.declared.token.TokenKind.TheVariants as kinds
use Rattle.hj_lex.specs.Tokens.{CutsTokens, IsToken, IsTokenOf}
use Rattle.hj_query.specs.Lexemes.{Lexeme, behind, end_of, is_same_kind, lexeme, lexeme_of, lexemes, next_has, next_is, place, IsNextToken, SuitsKind}

some_is : {A : Type 0} (x y : A) → Some x ≡ Some y → x ≡ y
some_is x y e = cc

-- the token at a place is the next from there on
at_token : (text : List ℕ) (tokens : List Token) (at : ℕ) (token : Token) → Some token ≡ slice_get tokens at → drop at (lexemes text tokens) ≡ lexeme_of text token ∷ drop (suc at) (lexemes text tokens)
at_token text [] at token e = absurd cc
at_token text (first ∷ tokens) zero token e = ap (λ (t : Token). lexeme_of text t ∷ lexemes text tokens) (sym (some_is token first e))
at_token text (first ∷ tokens) (suc at) token e = at_token text tokens at token e

at_end : (text : List ℕ) (tokens : List Token) (at : ℕ) → at ≤ length tokens → None ≡ slice_get tokens at → drop at (lexemes text tokens) ≡ end_of text ∷ []
at_end text [] zero le e = refl
at_end text [] (suc at) le e = absurd (omega arith)
at_end text (first ∷ tokens) zero le e = absurd cc
at_end text (first ∷ tokens) (suc at) le e = at_end text tokens at (omega arith) e

behind_is : (here : List Lexeme) (next : Lexeme) (rest : List Lexeme) → here ≡ next ∷ rest → behind here ≡ rest
unfolding behind
behind_is here next rest e = ap behind e

pub peek_token : (text : List ℕ) (tokens : List Token) (at : ℕ) (token : Token) (here : List Lexeme) → here ≡ drop at (lexemes text tokens) → Some token ≡ slice_get tokens at
    → here ≡ lexeme_of text token ∷ behind here
peek_token text tokens at token here e g =
    let h = e ∙ at_token text tokens at token g in
    h ∙ ap (λ (rest : List Lexeme). lexeme_of text token ∷ rest) (sym (behind_is here _ _ h))

pub peek_end : (text : List ℕ) (tokens : List Token) (at : ℕ) (here : List Lexeme) → here ≡ drop at (lexemes text tokens) → at ≤ length tokens → None ≡ slice_get tokens at
    → here ≡ end_of text ∷ behind here
peek_end text tokens at here e le g =
    let h = e ∙ at_end text tokens at le g in
    h ∙ ap (λ (rest : List Lexeme). end_of text ∷ rest) (sym (behind_is here _ _ h))

-- each token of a text is one
pub token_at : (text : List ℕ) (from : ℕ) (tokens : List Token) (at : ℕ) (token : Token) → CutsTokens text from tokens None → Some token ≡ slice_get tokens at → IsTokenOf text token
token_at text from [] at token cut e = absurd cc
token_at text from (first ∷ tokens) zero token cut e = subst (IsTokenOf text) (sym (some_is token first e)) cut.1
token_at text from (first ∷ tokens) (suc at) token cut e = token_at text first.to tokens at token cut.2 e

pub suits : (kind : TokenKind) (bytes rest : List ℕ) → IsToken kind bytes rest → SuitsKind kind bytes
suits kinds.Name bytes rest t = t.0
suits kinds.Number bytes rest t = t.0
suits kinds.Text bytes rest t = t.0
suits kinds.Sign bytes rest t = tt

pub same_kind : (a b : TokenKind) → is_same_kind a b ≡ true → a ≡ b
same_kind kinds.Name kinds.Name e = refl
same_kind kinds.Name kinds.Number e = absurd cc
same_kind kinds.Name kinds.Text e = absurd cc
same_kind kinds.Name kinds.Sign e = absurd cc
same_kind kinds.Number kinds.Name e = absurd cc
same_kind kinds.Number kinds.Number e = refl
same_kind kinds.Number kinds.Text e = absurd cc
same_kind kinds.Number kinds.Sign e = absurd cc
same_kind kinds.Text kinds.Name e = absurd cc
same_kind kinds.Text kinds.Number e = absurd cc
same_kind kinds.Text kinds.Text e = refl
same_kind kinds.Text kinds.Sign e = absurd cc
same_kind kinds.Sign kinds.Name e = absurd cc
same_kind kinds.Sign kinds.Number e = absurd cc
same_kind kinds.Sign kinds.Text e = absurd cc
same_kind kinds.Sign kinds.Sign e = refl

pub kind_same : (a : TokenKind) → is_same_kind a a ≡ true
kind_same kinds.Name = refl
kind_same kinds.Number = refl
kind_same kinds.Text = refl
kind_same kinds.Sign = refl

-- what the next token is

pub place_is : (here : List Lexeme) (at : ℕ) (kind : TokenKind) (bytes : List ℕ) → here ≡ lexeme at kind bytes ∷ behind here → at ≡ place here
unfolding place
place_is here at kind bytes e = sym (ap place e)

pub next_is_at : (wanted : TokenKind) (word : List ℕ) (here : List Lexeme) (at : ℕ) (kind : TokenKind) (bytes : List ℕ) → here ≡ lexeme at kind bytes ∷ behind here
    → next_is wanted word here ≡ (is_same_kind kind wanted && bytes_eq bytes word)
unfolding next_is
next_is_at wanted word here at kind bytes e = ap (next_is wanted word) e

pub next_has_at : (wanted : TokenKind) (here : List Lexeme) (at : ℕ) (kind : TokenKind) (bytes : List ℕ) → here ≡ lexeme at kind bytes ∷ behind here
    → next_has wanted here ≡ is_same_kind kind wanted
unfolding next_has
next_has_at wanted here at kind bytes e = ap (next_has wanted) e

and_false : (a b : Bool) → a ≡ false → (a && b) ≡ false
and_false true b e = absurd cc
and_false false b e = refl

-- another kind than a sign isn't the end
pub has_no_end : (kind : TokenKind) (here : List Lexeme) → is_same_kind kind kinds.Sign ≡ false → next_has kind here ≡ true → next_is kinds.Sign [] here ≡ false
unfolding next_has next_is
has_no_end kind [] k h = refl
has_no_end kind (next ∷ rest) k h =
    and_false (is_same_kind next.kind kinds.Sign) (bytes_eq next.bytes []) (ap (λ (a : TokenKind). is_same_kind a kinds.Sign) (same_kind next.kind kind h) ∙ k)

pub is_has : (kind : TokenKind) (bytes : List ℕ) (here : List Lexeme) → next_is kind bytes here ≡ true → next_has kind here ≡ true
unfolding next_has next_is
is_has kind bytes [] h = h
is_has kind bytes (next ∷ rest) h = let p : (is_same_kind next.kind kind ≡ true) × (bytes_eq next.bytes bytes ≡ true) = and_parts _ _ h in p.0

same_bytes : (a b : List ℕ) → bytes_eq a b ≡ true → a ≡ b
same_bytes a b h = (bytes_eq-Decides a b).0 h

pub bytes_same : (a : List ℕ) → bytes_eq a a ≡ true
bytes_same a = (bytes_eq-Decides a a).1 refl

longer : (bytes : List ℕ) → 0 < length bytes → bytes_eq bytes [] ≡ false
longer [] h = absurd (omega arith)
longer (byte ∷ bytes) h = refl

and_false_right : (a b : Bool) → b ≡ false → (a && b) ≡ false
and_false_right true b e = e
and_false_right false b e = refl

pub sign_no_end : (sign : List ℕ) (here : List Lexeme) → 0 < length sign → next_is kinds.Sign sign here ≡ true → next_is kinds.Sign [] here ≡ false
unfolding next_is
sign_no_end sign [] lt h = refl
sign_no_end sign (next ∷ rest) lt h =
    let p : (is_same_kind next.kind kinds.Sign ≡ true) × (bytes_eq next.bytes sign ≡ true) = and_parts _ _ h in
    and_false_right (is_same_kind next.kind kinds.Sign) (bytes_eq next.bytes [])
    (ap (λ bytes. bytes_eq bytes []) (same_bytes next.bytes sign p.1) ∙ longer sign lt)

pub word_no_end : (word : List ℕ) (here : List Lexeme) → next_is kinds.Name word here ≡ true → next_is kinds.Sign [] here ≡ false
word_no_end word here h = has_no_end kinds.Name here refl (is_has kinds.Name word here h)

-- the token that was looked at was taken
pub taken : (wanted : TokenKind) (here rest : List Lexeme) (at : ℕ) (kind : TokenKind) (bytes : List ℕ) → here ≡ lexeme at kind bytes ∷ behind here
    → is_same_kind kind wanted ≡ true → rest ≡ behind here → IsNextToken wanted bytes here rest
taken wanted here rest at kind bytes e k r = record {
  found = next_is_at wanted bytes here at kind bytes e ∙ ap (λ b. b && bytes_eq bytes bytes) k ∙ bytes_same bytes;
  left = r;
}

-- Going on by one place.

end_next : (text : List ℕ) (tokens : List Token) (at : ℕ) → at ≤ length tokens → length tokens ≤ at → drop at (lexemes text tokens) ≡ end_of text ∷ []
end_next text [] zero le ge = refl
end_next text [] (suc at) le ge = absurd (omega arith)
end_next text (first ∷ tokens) zero le ge = absurd (omega arith)
end_next text (first ∷ tokens) (suc at) le ge = end_next text tokens at (omega arith) (omega arith)

pub not_last : (text : List ℕ) (tokens : List Token) (at : ℕ) (here : List Lexeme) → here ≡ drop at (lexemes text tokens) → at ≤ length tokens → next_is kinds.Sign [] here ≡ false → at < length tokens
unfolding next_is
not_last text tokens at here e le h = decide (at_or_below at (length tokens) le)
  where
    at_or_below : (a b : ℕ) → a ≤ b → (a < b) ⊎ (b ≤ a)
    at_or_below a b l = cases_lt a b

    decide : (at < length tokens) ⊎ (length tokens ≤ at) → at < length tokens
    decide (inl lt) = lt
    decide (inr ge) = absurd (false≢true (sym h ∙ ap (next_is kinds.Sign []) (e ∙ end_next text tokens at le ge)))

drop_next : (tokens : List Lexeme) (at : ℕ) → drop (suc at) tokens ≡ behind (drop at tokens)
unfolding behind
drop_next [] zero = refl
drop_next [] (suc at) = refl
drop_next (first ∷ rest) zero = refl
drop_next (first ∷ rest) (suc at) = drop_next rest at

pub stepped : (text : List ℕ) (tokens : List Token) (at next : ℕ) (here : List Lexeme) → next ≡ at + 1 → here ≡ drop at (lexemes text tokens) → drop next (lexemes text tokens) ≡ behind here
stepped text tokens at next here n e =
    let m : next ≡ suc at = omega arith in
    ap (λ k. drop k (lexemes text tokens)) m ∙ drop_next (lexemes text tokens) at ∙ sym (ap behind e)

pub behind_shorter : (here : List Lexeme) → 0 < length here → length (behind here) < length here
unfolding behind
behind_shorter [] h = absurd (omega arith)
behind_shorter (next ∷ rest) h = omega arith

pub next_shorter : (kind : TokenKind) (bytes : List ℕ) (here rest : List Lexeme) → IsNextToken kind bytes here rest
    → length rest < length here
unfolding next_is
next_shorter kind bytes [] rest n = absurd (false≢true n.found)
next_shorter kind bytes (next ∷ more) rest n = omega (arith, ap length n.left, behind_shorter (next ∷ more) (omega arith))

-- each token has a byte of its own
pub tokens_fit : (text : List ℕ) (from : ℕ) (tokens : List Token) → CutsTokens text from tokens None → from + length tokens ≤ length text
tokens_fit text from [] cut = omega (arith, cut.0)
tokens_fit text from (first ∷ tokens) cut = omega (arith, cut.0.0, cut.1.0, tokens_fit text first.to tokens cut.2)
