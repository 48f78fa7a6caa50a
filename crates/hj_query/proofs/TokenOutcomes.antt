-- Reading one token: it is the one that is wanted, or the fault is that it isn't.
use Rattle.std.proofs.Common.{◌≡◌, ℕ, Bool, true, false, ◌&&◌, List, [], ◌∷◌, ap, refl, sym, ◌∙◌}
use Rattle.std.specs.Str.{bytes_eq}
use Rattle.std.proofs.lemmas.Bool.{and_parts, false≢true}
use Rattle.std.proofs.lemmas.Slice.Eq.{bytes_eq-Decides}
use Rattle.hj_lex.specs.declared.token.TokenKind.{TokenKind}
use Rattle.hj_lex.specs.declared.token.TokenKind.TheVariants as kinds
use Rattle.hj_lex.specs.Tokens.{number_value}
use Rattle.hj_query.specs.declared.fault.QueryFault.{QueryFault}
use Rattle.hj_query.specs.declared.fault.QueryFault.TheVariants as faults
use Rattle.hj_query.specs.declared.fault.Wanted.{Wanted}
use Rattle.hj_query.specs.Faults.{IsExpected}
pub use Rattle.hj_query.specs.Grammar.{AreSuited}
use Rattle.hj_query.specs.Lexemes.{Lexeme, behind, is_same_kind, next_has, next_is, place, IsNextToken, IsNumber, IsSign, IsWord, LacksKind, LacksSign, LacksWord}
use Rattle.hj_query.proofs.Lists.{bytes_same, is_has, kind_same, same_kind}
use Rattle.hj_query.proofs.Outcomes.{IsOne, Outcome, fault, read}
pub use Rattle.hj_query.proofs.Suited.{suited_next, suited_rest, suited_tokens}

-- What the next token is.

true_false : (b : Bool) → b ≡ true → b ≡ false → ⊥
true_false b t f = false≢true (sym f ∙ t)

-- nor does its kind
pub is_not_lacking_kind : (kind : TokenKind) (bytes : List ℕ) (here rest : List Lexeme) → IsNextToken kind bytes here rest → next_has kind here ≡ false → ⊥
is_not_lacking_kind kind bytes here rest n h = true_false _ (is_has kind bytes here n.found) h

same_bytes : (a b : List ℕ) → bytes_eq a b ≡ true → a ≡ b
same_bytes a b h = (bytes_eq-Decides a b).0 h

-- what a first token that is wanted is
first_is : (kind : TokenKind) (bytes : List ℕ) (next : Lexeme) (more : List Lexeme) → next_is kind bytes (next ∷ more) ≡ true → (next.kind ≡ kind) × (next.bytes ≡ bytes)
unfolding next_is
first_is kind bytes next more h =
    let p : (is_same_kind next.kind kind ≡ true) × (bytes_eq next.bytes bytes ≡ true) = and_parts _ _ h in
    (same_kind next.kind kind p.0, same_bytes next.bytes bytes p.1)

-- two kinds or bytes that the next token has are the same
pub next_same : (kind other : TokenKind) (bytes more : List ℕ) (here : List Lexeme) → next_is kind bytes here ≡ true → next_is other more here ≡ true
    → (other ≡ kind) × (more ≡ bytes)
unfolding next_is
next_same kind other bytes more [] h g = absurd (false≢true h)
next_same kind other bytes more (next ∷ rest) h g =
    let a = first_is kind bytes next rest h in
    let b = first_is other more next rest g in
    (sym b.0 ∙ a.0, sym b.1 ∙ a.1)

not_true : (b : Bool) → (b ≡ true → ⊥) → b ≡ false
not_true true h = absurd (h refl)
not_true false h = refl

-- a token with other bytes doesn't come
pub next_other : (kind : TokenKind) (bytes more : List ℕ) (here rest : List Lexeme) → IsNextToken kind bytes here rest → bytes_eq more bytes ≡ false → next_is kind more here ≡ false
next_other kind bytes more here rest n h = not_true _ (λ g.
    true_false _ (ap (λ b. bytes_eq b bytes) (next_same kind kind bytes more here n.found g).1 ∙ bytes_same bytes) h)

-- a token of another kind doesn't come
pub next_other_kind : (kind other : TokenKind) (bytes more : List ℕ) (here rest : List Lexeme) → IsNextToken kind bytes here rest → is_same_kind other kind ≡ false → next_is other more here ≡ false
next_other_kind kind other bytes more here rest n h = not_true _ (λ g.
    true_false _ (ap (λ (k : TokenKind). is_same_kind k kind) (next_same kind other bytes more here n.found g).0 ∙ kind_same kind) h)

-- a next token of a kind has some bytes
pub has_bytes : (kind : TokenKind) (here : List Lexeme) → next_has kind here ≡ true → (bytes : List ℕ) × IsNextToken kind bytes here (behind here)
unfolding next_has next_is
has_bytes kind [] h = absurd (false≢true h)
has_bytes kind (next ∷ rest) h = (next.bytes, record { found = ap (λ b. b && bytes_eq next.bytes next.bytes) h ∙ bytes_same next.bytes; left = refl })

-- A given token, or the fault that it doesn't come.

abbrev pub TokenGives : TokenKind → List ℕ → Wanted → List Lexeme → Outcome (Unit {0}) → Type 0
TokenGives kind bytes wanted here (read token rest) = IsNextToken kind bytes here rest
TokenGives kind bytes wanted here (fault found) = (next_is kind bytes here ≡ false) × IsExpected wanted here found

token_decided : (kind : TokenKind) (bytes : List ℕ) (wanted : Wanted) (here : List Lexeme) (b : Bool) → next_is kind bytes here ≡ b → IsOne (TokenGives kind bytes wanted here)
token_decided kind bytes wanted here true e = record { value = read tt (behind here); gives = record { found = e; left = refl }; only = only }
  where
    only : (other : Outcome (Unit {0})) → TokenGives kind bytes wanted here other → other ≡ read tt (behind here)
    only (read token rest) h = ap (λ (r : List Lexeme). read token r) h.left
    only (fault found) h = absurd (true_false _ e h.0)
token_decided kind bytes wanted here false e = record { value = fault (faults.Expected wanted (place here)); gives = (e, refl); only = only }
  where
    only : (other : Outcome (Unit {0})) → TokenGives kind bytes wanted here other → other ≡ fault (faults.Expected wanted (place here))
    only (read token rest) h = absurd (true_false _ h.found e)
    only (fault found) h = ap (λ (f : QueryFault). fault f) h.1

pub token_one : (kind : TokenKind) (bytes : List ℕ) (wanted : Wanted) (here : List Lexeme) → IsOne (TokenGives kind bytes wanted here)
token_one kind bytes wanted here = token_decided kind bytes wanted here (next_is kind bytes here) refl

-- a given word
abbrev pub WordGives : List ℕ → Wanted → List Lexeme → Outcome (Unit {0}) → Type 0
WordGives word wanted here (read token rest) = IsWord word here rest
WordGives word wanted here (fault found) = LacksWord word here × IsExpected wanted here found

pub word_one : (word : List ℕ) (wanted : Wanted) (here : List Lexeme) → IsOne (WordGives word wanted here)
word_one word wanted here = token_one kinds.Name word wanted here

-- a given sign
abbrev pub SignGives : List ℕ → Wanted → List Lexeme → Outcome (Unit {0}) → Type 0
SignGives sign wanted here (read token rest) = IsSign sign here rest
SignGives sign wanted here (fault found) = LacksSign sign here × IsExpected wanted here found

pub sign_one : (sign : List ℕ) (wanted : Wanted) (here : List Lexeme) → IsOne (SignGives sign wanted here)
sign_one sign wanted here = token_one kinds.Sign sign wanted here

-- A token of a given kind with its bytes, or the fault that none comes.

abbrev pub KindGives : TokenKind → Wanted → List Lexeme → Outcome (List ℕ) → Type 0
KindGives kind wanted here (read bytes rest) = IsNextToken kind bytes here rest
KindGives kind wanted here (fault found) = LacksKind kind here × IsExpected wanted here found

kind_decided : (kind : TokenKind) (wanted : Wanted) (here : List Lexeme) (b : Bool) → next_has kind here ≡ b → IsOne (KindGives kind wanted here)
kind_decided kind wanted here true e =
    let p = has_bytes kind here e in
    record { value = read p.0 (behind here); gives = p.1; only = only p.0 p.1 }
  where
    only : (bytes : List ℕ) → IsNextToken kind bytes here (behind here) → (other : Outcome (List ℕ)) → KindGives kind wanted here other → other ≡ read bytes (behind here)
    only bytes n (read more rest) h =
        ap (λ (r : List Lexeme). read more r) h.left ∙ ap (λ (b : List ℕ). read b (behind here)) (next_same kind kind bytes more here n.found h.found).1
    only bytes n (fault found) h = absurd (true_false _ e h.0)
kind_decided kind wanted here false e = record { value = fault (faults.Expected wanted (place here)); gives = (e, refl); only = only }
  where
    only : (other : Outcome (List ℕ)) → KindGives kind wanted here other → other ≡ fault (faults.Expected wanted (place here))
    only (read bytes rest) h = absurd (is_not_lacking_kind kind bytes here rest h e)
    only (fault found) h = ap (λ (f : QueryFault). fault f) h.1

pub kind_one : (kind : TokenKind) (wanted : Wanted) (here : List Lexeme) → IsOne (KindGives kind wanted here)
kind_one kind wanted here = kind_decided kind wanted here (next_has kind here) refl

-- some name
abbrev pub NameGives : Wanted → List Lexeme → Outcome (List ℕ) → Type 0
NameGives wanted here (read name rest) = IsWord name here rest
NameGives wanted here (fault found) = LacksKind kinds.Name here × IsExpected wanted here found

pub name_one : (wanted : Wanted) (here : List Lexeme) → IsOne (NameGives wanted here)
name_one wanted here = kind_one kinds.Name wanted here

-- some number, by what it stands for
abbrev pub NumberGives : Wanted → List Lexeme → Outcome ℕ → Type 0
NumberGives wanted here (read value rest) = IsNumber value here rest
NumberGives wanted here (fault found) = LacksKind kinds.Number here × IsExpected wanted here found

-- two numbers that come are the same
pub number_same : (value other : ℕ) (here rest more : List Lexeme) → IsNumber value here rest → IsNumber other here more → (other ≡ value) × (more ≡ rest)
number_same value other here rest more a b =
    let bytes : b.bytes ≡ a.bytes = (next_same kinds.Number kinds.Number a.bytes b.bytes here a.found.found b.found.found).1 in
    (b.stands_for ∙ ap number_value bytes ∙ sym a.stands_for, b.found.left ∙ sym a.found.left)

number_decided : (wanted : Wanted) (here : List Lexeme) (b : Bool) → next_has kinds.Number here ≡ b → IsOne (NumberGives wanted here)
number_decided wanted here true e =
    let p = has_bytes kinds.Number here e in
    let n : IsNumber (number_value p.0) here (behind here) = record { bytes = p.0; stands_for = refl; found = p.1 } in
    record { value = read (number_value p.0) (behind here); gives = n; only = only (number_value p.0) n }
  where
    only : (value : ℕ) → IsNumber value here (behind here) → (other : Outcome ℕ) → NumberGives wanted here other → other ≡ read value (behind here)
    only value n (read more rest) h =
        let same = number_same value more here (behind here) rest n h in
        ap (λ (r : List Lexeme). read more r) same.1 ∙ ap (λ (k : ℕ). read k (behind here)) same.0
    only value n (fault found) h = absurd (true_false _ e h.0)
number_decided wanted here false e = record { value = fault (faults.Expected wanted (place here)); gives = (e, refl); only = only }
  where
    only : (other : Outcome ℕ) → NumberGives wanted here other → other ≡ fault (faults.Expected wanted (place here))
    only (read value rest) h = absurd (is_not_lacking_kind kinds.Number h.bytes here rest h.found e)
    only (fault found) h = ap (λ (f : QueryFault). fault f) h.1

pub number_one : (wanted : Wanted) (here : List Lexeme) → IsOne (NumberGives wanted here)
number_one wanted here = number_decided wanted here (next_has kinds.Number here) refl
