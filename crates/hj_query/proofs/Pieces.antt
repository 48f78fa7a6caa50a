-- Pieces of a text that are read in a row.
use Rattle.std.proofs.Common.{◌≡◌, ℕ, ◌+◌, ◌<◌, Bool, true, false, ◌&&◌, ◌||◌, ◌==◌, bytes_eq, List, [], ◌∷◌, ◌++◌, length, refl, sym, ap, subst, ◌∙◌, arith, append_assoc, length-append}
use Rattle.std.proofs.lemmas.Bool.{false≢true, eqb-true}
use Rattle.std.proofs.lemmas.Bool.Decides.{nat_tests}
use Rattle.hj_lex.specs.declared.token.TokenKind.{TokenKind}
use Rattle.hj_lex.specs.declared.token.TokenKind.TheVariants as kinds
use Rattle.hj_lex.specs.Tokens.{IsToken, begins, is_blank, is_name, is_quote, is_sign, is_word, quoted}
use Rattle.hj_query.specs.Grammar.{AreSuited}
use Rattle.hj_query.specs.Lexemes.{Lexeme, IsNextToken, IsSign, IsText, IsWord, SuitsKind, behind, lexeme, next_is}
use Rattle.hj_query.proofs.Lists.{bytes_same, kind_same}
use Rattle.hj_query.proofs.Spelling.{Reads, blank, token}

-- bytes whose tokens stand in a relation to those behind them
pub record HasFront (Stands : List Lexeme → List Lexeme → Type 0) (at : ℕ) (bytes : List ℕ) (rest : List Lexeme) : Type 0 where
  pub here : List Lexeme
  pub reads : Reads at bytes here
  pub stands : Stands here rest

-- Wherever such bytes and tokens stand behind the text, its tokens are in this relation to them.
pub record Spelled (Behind : List ℕ → List Lexeme → Type 0) (Stands : List Lexeme → List Lexeme → Type 0) (text : List ℕ) : Type 0 where
  pub read : (at : ℕ) (more : List ℕ) (rest : List Lexeme) → Behind more rest → Reads (at + length text) more rest → HasFront Stands at (text ++ more) rest

-- anything may stand behind
abbrev pub Anything : List ℕ → List Lexeme → Type 0
Anything more rest = Unit {0}

-- one behind the other
abbrev pub Then : (List Lexeme → List Lexeme → Type 0) → (List Lexeme → List Lexeme → Type 0) → List Lexeme → List Lexeme → Type 0
Then First Second here rest = (mid : List Lexeme) × First here mid × Second mid rest

pub spelled_then : {Behind More : List ℕ → List Lexeme → Type 0} {First Second : List Lexeme → List Lexeme → Type 0} (text next : List ℕ)
    → Spelled Behind First text → Spelled More Second next → ((more : List ℕ) (rest mid : List Lexeme) → More more rest → Second mid rest → Behind (next ++ more) mid)
    → Spelled More (Then First Second) (text ++ next)
spelled_then {Behind} {More} {First} {Second} text next first second fits = record {
  read = λ at more rest h r.
      let size : at + length (text ++ next) ≡ at + length text + length next = omega (arith, length-append text next) in
      let tail : HasFront Second (at + length text) (next ++ more) rest = second.read (at + length text) more rest h (subst (λ k. Reads k more rest) size r) in
      let front : HasFront First at (text ++ (next ++ more)) tail.here = first.read at (next ++ more) tail.here (fits more rest tail.here h tail.stands) tail.reads in
      record {
        here = front.here;
        reads = subst (λ bytes. Reads at bytes front.here) (sym (append_assoc text next more)) front.reads;
        stands = (tail.here, front.stands, tail.stands);
      };
}

-- the same, told in another way
pub spelled_as : {Behind More : List ℕ → List Lexeme → Type 0} {First Second : List Lexeme → List Lexeme → Type 0} (text : List ℕ)
    → ((more : List ℕ) (rest : List Lexeme) → More more rest → Behind more rest)
    → ((more : List ℕ) (here rest : List Lexeme) → More more rest → First here rest → Second here rest) → Spelled Behind First text → Spelled More Second text
spelled_as {Behind} {More} {First} {Second} text fits tells spelled = record {
  read = λ at more rest h r.
      let front : HasFront First at (text ++ more) rest = spelled.read at more rest (fits more rest h) r in
      record { here = front.here; reads = front.reads; stands = tells more front.here rest h front.stands };
}

pub blank_before : {Behind : List ℕ → List Lexeme → Type 0} {Stands : List Lexeme → List Lexeme → Type 0} (byte : ℕ) (text : List ℕ) → is_blank byte ≡ true
    → Spelled Behind Stands text → Spelled Behind Stands (byte ∷ text)
blank_before {Behind} {Stands} byte text is spelled = record {
  read = λ at more rest h r.
      let size : at + length (byte ∷ text) ≡ at + 1 + length text = omega arith in
      let front : HasFront Stands (at + 1) (text ++ more) rest = spelled.read (at + 1) more rest h (subst (λ k. Reads k more rest) size r) in
      record { here = front.here; reads = blank at byte (text ++ more) front.here is front.reads; stands = front.stands };
}

pub blank_behind : {Behind More : List ℕ → List Lexeme → Type 0} {Stands : List Lexeme → List Lexeme → Type 0} (byte : ℕ) (text : List ℕ) → is_blank byte ≡ true
    → ((more : List ℕ) (rest : List Lexeme) → More more rest → Behind (byte ∷ more) rest) → Spelled Behind Stands text → Spelled More Stands (text ++ byte ∷ [])
blank_behind {Behind} {More} {Stands} byte text is fits spelled = record {
  read = λ at more rest h r.
      let size : at + length (text ++ byte ∷ []) ≡ at + length text + 1 = omega (arith, length-append text (byte ∷ [])) in
      let front : HasFront Stands at (text ++ byte ∷ more) rest =
      spelled.read at (byte ∷ more) rest (fits more rest h) (blank (at + length text) byte more rest is (subst (λ k. Reads k more rest) size r)) in
      record { here = front.here; reads = subst (λ bytes. Reads at bytes front.here) (sym (append_assoc text (byte ∷ []) more)) front.reads; stands = front.stands };
}

next_found : (at : ℕ) (kind : TokenKind) (bytes : List ℕ) (rest : List Lexeme) → IsNextToken kind bytes (lexeme at kind bytes ∷ rest) rest
unfolding next_is behind
next_found at kind bytes rest = record {
  found = ap (λ b. b && bytes_eq bytes bytes) (kind_same kind) ∙ bytes_same bytes;
  left = refl;
}

-- one token
pub token_spelled : (Behind : List ℕ → List Lexeme → Type 0) (kind : TokenKind) (word : List ℕ) → 0 < length word
    → ((more : List ℕ) (rest : List Lexeme) → Behind more rest → IsToken kind word more) → Spelled Behind (IsNextToken kind word) word
token_spelled Behind kind word some form = record {
  read = λ at more rest h r. record {
    here = lexeme at kind word ∷ rest;
    reads = token at kind word more rest some (form more rest h) r;
    stands = next_found at kind word rest;
  };
}

-- What ends a token.

-- a blank, a `)` or a `,`
abbrev pub is_break : ℕ → Bool
is_break byte = is_blank byte || byte == 41 || byte == 44

abbrev pub EndsToken : List ℕ → List Lexeme → Type 0
EndsToken more rest = begins is_break more ≡ true

break_no_word : (byte : ℕ) → is_break byte ≡ true → is_word byte ≡ false
break_no_word byte h = grind (arith, nat_tests)

break_no_quote : (byte : ℕ) → is_break byte ≡ true → is_quote byte ≡ false
break_no_quote byte h = grind (arith, nat_tests)

pub no_word : (more : List ℕ) → begins is_break more ≡ true → begins is_word more ≡ false
no_word [] h = refl
no_word (byte ∷ more) h = break_no_word byte h

no_quote : (more : List ℕ) → begins is_break more ≡ true → begins is_quote more ≡ false
no_quote [] h = refl
no_quote (byte ∷ more) h = break_no_quote byte h

some_name : (word : List ℕ) → is_name word ≡ true → 0 < length word
some_name [] h = absurd (false≢true h)
some_name (byte ∷ word) h = omega arith

pub name_spelled : (word : List ℕ) → is_name word ≡ true → Spelled EndsToken (IsWord word) word
name_spelled word h = token_spelled EndsToken kinds.Name word (some_name word h) (λ more rest b. (h, no_word more b))

-- a word, and a blank behind it
pub word_spelled : (word : List ℕ) → is_name word ≡ true → Spelled Anything (IsWord word) (word ++ 32 ∷ [])
word_spelled word h = blank_behind 32 word refl (λ more rest b. refl) (name_spelled word h)

pub text_spelled : (value : List ℕ) → SuitsKind kinds.Text (quoted value) → Spelled EndsToken (IsText value) (quoted value)
text_spelled value s = token_spelled EndsToken kinds.Text (quoted value) (omega arith) (λ more rest b. (s, no_quote more b))

-- a sign with which no other begins
begins_none : (p : ℕ → Bool) → ((byte : ℕ) → p byte ≡ false) → (bytes : List ℕ) → begins p bytes ≡ false
begins_none p none [] = refl
begins_none p none (byte ∷ bytes) = none byte

pub sign_spelled : (byte : ℕ) → is_sign (byte ∷ []) ≡ true → ((next : ℕ) → is_sign (byte ∷ next ∷ []) ≡ false) → Spelled Anything (IsSign (byte ∷ [])) (byte ∷ [])
sign_spelled byte is lone = token_spelled Anything kinds.Sign (byte ∷ []) (omega arith) (λ more rest b. (is, begins_none _ lone more))

-- a sign, and a blank behind it
abbrev pub Spaced : List ℕ → List Lexeme → Type 0
Spaced more rest = begins (λ byte. byte == 32) more ≡ true

spaced_sign : (sign more : List ℕ) → is_sign (sign ++ 32 ∷ []) ≡ false → begins (λ byte. byte == 32) more ≡ true → begins (λ next. is_sign (sign ++ next ∷ [])) more ≡ false
spaced_sign sign [] lone b = refl
spaced_sign sign (byte ∷ more) lone b = ap (λ next. is_sign (sign ++ next ∷ [])) (eqb-true byte 32 b) ∙ lone

pub spaced_spelled : (sign : List ℕ) → 0 < length sign → is_sign sign ≡ true → is_sign (sign ++ 32 ∷ []) ≡ false → Spelled Spaced (IsSign sign) sign
spaced_spelled sign some is lone = token_spelled Spaced kinds.Sign sign some (λ more rest b. (is, spaced_sign sign more lone b))

-- A text is spelled so, and the tokens behind the ones that it was read from have bytes of their kinds.
pub record Told (Behind : List ℕ → List Lexeme → Type 0) (Stands : List Lexeme → List Lexeme → Type 0) (text : List ℕ) (rest : List Lexeme) : Type 0 where
  pub spelled : Spelled Behind Stands text
  pub others : AreSuited rest
