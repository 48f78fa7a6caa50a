-- The tokens of a query text, or its first fault. A place in the text is the number of the bytes before it.
use Rattle.std.specs.Prelude.{◌≡◌, ◌⊎◌, ℕ, ◌+◌, ◌^◌, ◌<◌, ◌≤◌, Bool, false, not, ◌&&◌, ◌||◌, ◌==◌, nat_eq, IsTrue, List, [], ◌∷◌, ◌++◌, length, drop, slice_range, codes, if◌then◌else◌}
use Rattle.std.specs.Char.{is_ascii_digit, is_ascii_alphabetic, is_ascii_alphanumeric}
use Rattle.std.specs.List.{list_all, list_any, starts_with, prefix_len, take_while}
use Rattle.std.specs.Str.{bytes_eq, IsUtf8}
use Rattle.std.specs.Str.Lossy.{utf8_valid_len}
use Rattle.std.specs.Str.Parse.{digits_value}
use Rattle.std.specs.declared.option.Option.{Option}
use Rattle.std.specs.declared.option.Option.TheVariants as option
use Rattle.hj_lex.specs.declared.fault.LexFault.{LexFault}
use Rattle.hj_lex.specs.declared.fault.LexFault.TheVariants as fault
use Rattle.hj_lex.specs.declared.token.Token.{Token}
use Rattle.hj_lex.specs.declared.token.TokenKind.{TokenKind}
use Rattle.hj_lex.specs.declared.token.TokenKind.TheVariants as kind

-- a space, a tab, a CR or an LF
abbrev pub is_blank : ℕ → Bool
is_blank byte = byte == 32 || byte == 9 || byte == 13 || byte == 10

-- a letter, a digit or `_`
abbrev pub is_word : ℕ → Bool
is_word byte = is_ascii_alphanumeric byte || byte == 95

-- `'`
abbrev pub quote : ℕ
quote = 39

abbrev pub is_quote : ℕ → Bool
is_quote byte = byte == quote

-- there is a first byte, and it passes
abbrev pub begins : (ℕ → Bool) → List ℕ → Bool
begins p [] = false
begins p (byte ∷ bytes) = p byte

-- Names, numbers, signs and texts as bytes.

-- a letter, then letters, digits and `_`
abbrev pub is_name : List ℕ → Bool
is_name bytes = begins is_ascii_alphabetic bytes && list_all is_word bytes

-- one or more digits
abbrev pub is_digits : List ℕ → Bool
is_digits bytes = begins is_ascii_digit bytes && list_all is_ascii_digit bytes

-- from here on a number is out of range
abbrev pub number_end : ℕ
number_end = 2 ^ 63

-- what digits stand for
abbrev pub number_value : List ℕ → ℕ
number_value bytes = digits_value 10 bytes

abbrev pub signs : List (List ℕ)
signs = codes "(" ∷ codes ")" ∷ codes "," ∷ codes "." ∷ codes "+" ∷ codes "-"
    ∷ codes "=" ∷ codes "!=" ∷ codes "<" ∷ codes "<=" ∷ codes ">" ∷ codes ">=" ∷ []

abbrev pub is_sign : List ℕ → Bool
is_sign bytes = list_any (bytes_eq bytes) signs

-- some sign begins the bytes
abbrev pub begins_sign : List ℕ → Bool
begins_sign bytes = list_any (starts_with nat_eq bytes) signs

-- each quote twice
abbrev pub doubled : List ℕ → List ℕ
doubled [] = []
doubled (byte ∷ bytes) = if is_quote byte then quote ∷ quote ∷ doubled bytes else byte ∷ doubled bytes

-- the token of a text that stands for these bytes
abbrev pub quoted : List ℕ → List ℕ
quoted value = quote ∷ (doubled value ++ quote ∷ [])

-- one or more digits, of a number in range
abbrev pub IsNumber : List ℕ → Type 0
IsNumber bytes = IsTrue (is_digits bytes) × (number_value bytes < number_end)

-- a text in its quotes, which is UTF-8
abbrev pub IsText : List ℕ → Type 0
IsText bytes = (value : List ℕ) × (bytes ≡ quoted value) × IsUtf8 (doubled value)

-- Bytes are a token of this kind, and with the byte behind them they aren't one: the longest. Behind a number stands no letter and no `_`.
abbrev pub IsToken : TokenKind → List ℕ → List ℕ → Type 0
IsToken kind.Name bytes rest = IsTrue (is_name bytes) × (begins is_word rest ≡ false)
IsToken kind.Number bytes rest = IsNumber bytes × (begins is_word rest ≡ false)
IsToken kind.Text bytes rest = IsText bytes × (begins is_quote rest ≡ false)
IsToken kind.Sign bytes rest = IsTrue (is_sign bytes) × (begins (λ next. is_sign (bytes ++ next ∷ [])) rest ≡ false)

-- Faults, where the bytes begin with no token.

-- the first byte begins nothing: no blank, no name, no number, no text and no sign
abbrev pub BeginsNothing : List ℕ → Type 0
BeginsNothing bytes =
    IsTrue (begins (λ byte. not (is_blank byte || is_ascii_alphanumeric byte || is_quote byte)) bytes) × (begins_sign bytes ≡ false)

-- a number out of range begins them
abbrev pub BeginsLongNumber : List ℕ → Type 0
BeginsLongNumber bytes = number_end ≤ number_value (take_while is_ascii_digit bytes)

-- a number in range begins them, with a letter or `_` directly behind
abbrev pub BeginsRunOnNumber : List ℕ → Type 0
BeginsRunOnNumber bytes =
    IsTrue (begins is_ascii_digit bytes) × (number_value (take_while is_ascii_digit bytes) < number_end)
    × IsTrue (begins is_word (drop (prefix_len is_ascii_digit bytes) bytes))

-- a text begins them, and has no end
abbrev pub BeginsOpenText : List ℕ → Type 0
BeginsOpenText bytes = (value : List ℕ) × (bytes ≡ quote ∷ doubled value)

-- a text begins them, has its end, and isn't UTF-8 between its quotes
abbrev pub BeginsIllFormedText : List ℕ → List ℕ → Type 0
BeginsIllFormedText bytes inside =
    (value : List ℕ) × (rest : List ℕ) × (inside ≡ doubled value) × (bytes ≡ quoted value ++ rest)
    × (begins is_quote rest ≡ false) × ¬ (IsUtf8 inside)

-- how far behind the first of these bytes a bad byte stands
pub data IsBadByte (bytes : List ℕ) (offset : ℕ) : Type 0 where
  begins_nothing : BeginsNothing bytes → offset ≡ 0 → IsBadByte bytes offset
  behind_number : BeginsRunOnNumber bytes → offset ≡ prefix_len is_ascii_digit bytes → IsBadByte bytes offset
  -- the first byte of the first ill-formed sequence
  inside_text : (inside : List ℕ) → BeginsIllFormedText bytes inside → offset ≡ 1 + utf8_valid_len inside → IsBadByte bytes offset

-- the fault of the bytes that stand from a place on
abbrev pub HasFault : ℕ → List ℕ → LexFault → Type 0
HasFault at bytes (fault.BadByte place) = (offset : ℕ) × IsBadByte bytes offset × (place ≡ at + offset)
HasFault at bytes (fault.OpenText place) = BeginsOpenText bytes × (place ≡ at)
HasFault at bytes (fault.NumberRange place) = BeginsLongNumber bytes × (place ≡ at)
HasFault at bytes fault.Memory = ⊥

-- The text as a whole.

-- only blanks stand from a place up to another
abbrev pub IsBlankBetween : List ℕ → ℕ → ℕ → Type 0
IsBlankBetween text from to = (from ≤ to) × (to ≤ length text) × IsTrue (list_all is_blank (slice_range text from to))

-- the bytes of a token
abbrev pub bytes_of : List ℕ → Token → List ℕ
bytes_of text token = slice_range text token.from token.to

-- a token stands in the text
abbrev pub IsTokenOf : List ℕ → Token → Type 0
IsTokenOf text token =
    (token.from < token.to) × (token.to ≤ length text) × IsToken token.kind (bytes_of text token) (drop token.to text)

-- From a place on the text is these tokens, with only blanks before, between and behind them, to its end or up to a fault.
abbrev pub CutsTokens : List ℕ → ℕ → List Token → Option LexFault → Type 0
CutsTokens text at [] option.None = IsBlankBetween text at (length text)
CutsTokens text at [] (option.Some found) = (from : ℕ) × IsBlankBetween text at from × HasFault from (drop from text) found
CutsTokens text at (token ∷ tokens) end = IsBlankBetween text at token.from × IsTokenOf text token × CutsTokens text token.to tokens end

-- the text is these tokens
abbrev pub AreTokens : List ℕ → List Token → Type 0
AreTokens text tokens = CutsTokens text 0 tokens option.None

-- the text is tokens up to this fault
abbrev pub IsFirstFault : List ℕ → LexFault → Type 0
IsFirstFault text found = (tokens : List Token) × CutsTokens text 0 tokens (option.Some found)

-- why a text wasn't cut
abbrev pub Explains : List ℕ → LexFault → Type 0
Explains text (fault.BadByte place) = IsFirstFault text (fault.BadByte place)
Explains text (fault.OpenText place) = IsFirstFault text (fault.OpenText place)
Explains text (fault.NumberRange place) = IsFirstFault text (fault.NumberRange place)
Explains text fault.Memory = Unit {0}

-- tokens in order, none of which is empty or overlaps another, from a place up to another
abbrev pub AreInOrder : ℕ → ℕ → List Token → Type 0
AreInOrder from to [] = from ≤ to
AreInOrder from to (token ∷ tokens) = (from ≤ token.from) × (token.from < token.to) × AreInOrder token.to to tokens

-- Each text is tokens, or has a first fault, in one way.
abbrev pub HasReading : List ℕ → Type 0
HasReading text = ((tokens : List Token) × AreTokens text tokens) ⊎ ((found : LexFault) × IsFirstFault text found)

abbrev pub HasOneReading : List ℕ → Type 0
HasOneReading text =
    ((tokens others : List Token) → AreTokens text tokens → AreTokens text others → others ≡ tokens)
    × ((found other : LexFault) → IsFirstFault text found → IsFirstFault text other → other ≡ found)
    × ((tokens : List Token) (found : LexFault) → AreTokens text tokens → IsFirstFault text found → ⊥)
