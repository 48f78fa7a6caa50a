-- Tokens with their bytes. The end of a text is one more: a sign of no bytes, behind the last byte.
use Rattle.std.specs.Prelude.{◌≡◌, ℕ, ◌<◌, Bool, true, false, ◌&&◌, IsTrue, List, [], ◌∷◌, ◌++◌, length, map}
use Rattle.std.specs.Str.{bytes_eq, IsUtf8}
use Rattle.hj_lex.specs.declared.token.Token.{Token}
use Rattle.hj_lex.specs.declared.token.TokenKind.{TokenKind}
use Rattle.hj_lex.specs.declared.token.TokenKind.TheVariants as kinds
use Rattle.hj_lex.specs.Tokens.{bytes_of, doubled, is_digits, is_name, number_end, number_value, quoted}

pub record Lexeme : Type 0 where
  pub place : ℕ
  pub kind : TokenKind
  pub bytes : List ℕ

abbrev pub lexeme : ℕ → TokenKind → List ℕ → Lexeme
lexeme place kind bytes = record { place = place; kind = kind; bytes = bytes }

abbrev pub lexeme_of : List ℕ → Token → Lexeme
lexeme_of text token = lexeme token.from token.kind (bytes_of text token)

abbrev pub end_of : List ℕ → Lexeme
end_of text = lexeme (length text) kinds.Sign []

-- the tokens of a text and its end
abbrev pub lexemes : List ℕ → List Token → List Lexeme
lexemes text tokens = map (lexeme_of text) tokens ++ end_of text ∷ []

abbrev pub is_same_kind : TokenKind → TokenKind → Bool
is_same_kind kinds.Name kinds.Name = true
is_same_kind kinds.Number kinds.Number = true
is_same_kind kinds.Text kinds.Text = true
is_same_kind kinds.Sign kinds.Sign = true
is_same_kind _ _ = false

-- the bytes are those of a token of this kind
abbrev pub SuitsKind : TokenKind → List ℕ → Type 0
SuitsKind kinds.Name bytes = IsTrue (is_name bytes)
SuitsKind kinds.Number bytes = IsTrue (is_digits bytes) × (number_value bytes < number_end)
SuitsKind kinds.Text bytes = (value : List ℕ) × (bytes ≡ quoted value) × IsUtf8 (doubled value)
SuitsKind kinds.Sign bytes = Unit {0}

-- Where reading goes on.

-- the place of the next token
unfoldable pub place : List Lexeme → ℕ
place [] = 0
place (lexeme ∷ rest) = lexeme.place

-- what stands behind the next token
unfoldable pub behind : List Lexeme → List Lexeme
behind [] = []
behind (lexeme ∷ rest) = rest

-- the next token is of this kind
unfoldable pub next_has : TokenKind → List Lexeme → Bool
next_has kind [] = false
next_has kind (lexeme ∷ rest) = is_same_kind lexeme.kind kind

-- the next token is of this kind and has these bytes
unfoldable pub next_is : TokenKind → List ℕ → List Lexeme → Bool
next_is kind bytes [] = false
next_is kind bytes (lexeme ∷ rest) = is_same_kind lexeme.kind kind && bytes_eq lexeme.bytes bytes

-- such a token is the next, and what stands behind it is rest
pub record IsNextToken (kind : TokenKind) (bytes : List ℕ) (here rest : List Lexeme) : Type 0 where
  pub found : IsTrue (next_is kind bytes here)
  pub left : rest ≡ behind here

-- a number that stands for a value
pub record IsNumber (value : ℕ) (here rest : List Lexeme) : Type 0 where
  pub bytes : List ℕ
  pub stands_for : value ≡ number_value bytes
  pub found : IsNextToken kinds.Number bytes here rest

abbrev pub IsWord : List ℕ → List Lexeme → List Lexeme → Type 0
IsWord word here rest = IsNextToken kinds.Name word here rest

abbrev pub IsSign : List ℕ → List Lexeme → List Lexeme → Type 0
IsSign sign here rest = IsNextToken kinds.Sign sign here rest

-- a text that stands for a value
abbrev pub IsText : List ℕ → List Lexeme → List Lexeme → Type 0
IsText value here rest = IsNextToken kinds.Text (quoted value) here rest

-- the next token is something else
abbrev pub LacksWord : List ℕ → List Lexeme → Type 0
LacksWord word here = next_is kinds.Name word here ≡ false

abbrev pub LacksSign : List ℕ → List Lexeme → Type 0
LacksSign sign here = next_is kinds.Sign sign here ≡ false

abbrev pub LacksKind : TokenKind → List Lexeme → Type 0
LacksKind kind here = next_has kind here ≡ false
