-- What begins the rest of a text.
use Rattle.std.specs.Prelude.{◌≡◌, ℕ, ◌<◌, ◌≤◌, false, List, [], ◌∷◌, ◌++◌, length, take, drop, if◌then◌else◌}
use Rattle.std.specs.Char.{is_ascii_digit, is_ascii_alphabetic}
use Rattle.hj_lex.specs.Tokens.{IsToken, begins, is_blank, is_quote, quoted}
use Rattle.hj_lex.specs.declared.token.TokenKind.{TokenKind}
use Rattle.hj_lex.specs.declared.token.TokenKind.TheVariants as kind

-- the kind of the token that a byte begins, where it begins one
abbrev pub kind_of : ℕ → TokenKind
kind_of byte = if is_ascii_alphabetic byte then kind.Name
    else if is_ascii_digit byte then kind.Number
    else if is_quote byte then kind.Text
    else kind.Sign

-- the first byte begins a token of this kind, or none, and isn't blank
abbrev pub IsFirstByte : TokenKind → List ℕ → Type 0
IsFirstByte kind [] = ⊥
IsFirstByte kind (byte ∷ bytes) = (kind ≡ kind_of byte) × (is_blank byte ≡ false)

-- a token of this kind begins the bytes, and it takes so many of them
pub record BeginsToken (kind : TokenKind) (bytes : List ℕ) (count : ℕ) : Type 0 where
  pub some : 0 < count
  pub within : count ≤ length bytes
  pub form : IsToken kind (take count bytes) (drop count bytes)

-- a text begins the bytes, and with its end it takes so many of them
pub record BeginsClosedText (bytes : List ℕ) (count : ℕ) : Type 0 where
  pub value : List ℕ
  pub rest : List ℕ
  pub split : bytes ≡ quoted value ++ rest
  pub longest : begins is_quote rest ≡ false
  pub size : count ≡ length (quoted value)
