-- Tokens with bytes of their kinds: those of a text are, and what is read from such tokens is one.
use Rattle.std.proofs.Common.{◌≡◌, ℕ, true, List, [], ◌∷◌, None, sym, subst}
use Rattle.std.proofs.lemmas.Bool.{and_parts, false≢true}
use Rattle.std.proofs.lemmas.Slice.Eq.{bytes_eq-Decides}
use Rattle.std.specs.Str.{bytes_eq}
use Rattle.hj_lex.specs.declared.token.Token.{Token}
use Rattle.hj_lex.specs.declared.token.TokenKind.{TokenKind}
use Rattle.hj_lex.specs.Tokens.{CutsTokens, bytes_of}
use Rattle.hj_query.specs.Grammar.{AreSuited}
use Rattle.hj_query.specs.Lexemes.{Lexeme, IsNextToken, SuitsKind, behind, is_same_kind, lexemes, next_is}
use Rattle.hj_query.proofs.Lists.{same_kind, suits}

-- the next token and what stands behind it
pub record SuitedNext (kind : TokenKind) (bytes : List ℕ) (rest : List Lexeme) : Type 0 where
  pub next : SuitsKind kind bytes
  pub others : AreSuited rest

pub next_suited : (kind : TokenKind) (bytes : List ℕ) (here rest : List Lexeme) → AreSuited here → IsNextToken kind bytes here rest → SuitedNext kind bytes rest
unfolding next_is behind
next_suited kind bytes [] rest s n = absurd (false≢true n.found)
next_suited kind bytes (first ∷ others) rest s n =
    let p : (is_same_kind first.kind kind ≡ true) × (bytes_eq first.bytes bytes ≡ true) = and_parts _ _ n.found in
    let same : first.bytes ≡ bytes = (bytes_eq-Decides first.bytes bytes).0 p.1 in
    record {
      next = subst (SuitsKind kind) same (subst (λ (k : TokenKind). SuitsKind k first.bytes) (same_kind first.kind kind p.0) s.0);
      others = subst AreSuited (sym n.left) s.1;
    }

pub suited_next : (kind : TokenKind) (bytes : List ℕ) (here rest : List Lexeme) → IsNextToken kind bytes here rest → AreSuited here → SuitsKind kind bytes
suited_next kind bytes here rest n s = (next_suited kind bytes here rest s n).next

pub suited_rest : (kind : TokenKind) (bytes : List ℕ) (here rest : List Lexeme) → IsNextToken kind bytes here rest → AreSuited here → AreSuited rest
suited_rest kind bytes here rest n s = (next_suited kind bytes here rest s n).others

-- the tokens of a text
pub suited_tokens : (text : List ℕ) (from : ℕ) (tokens : List Token) → CutsTokens text from tokens None → AreSuited (lexemes text tokens)
suited_tokens text from [] cut = (tt, tt)
suited_tokens text from (first ∷ tokens) cut = (suits first.kind (bytes_of text first) _ cut.1.2, suited_tokens text first.to tokens cut.2)
