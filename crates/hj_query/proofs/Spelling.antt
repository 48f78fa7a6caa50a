-- Texts as tokens, from their end to their front.
use Rattle.std.proofs.Common.{◌≡◌, ℕ, ◌+◌, ◌-◌, ◌<◌, ◌≤◌, true, ◌&&◌, List, [], ◌∷◌, ◌++◌, length, take, drop, None, refl, sym, ap, subst, ◌∙◌, arith, append_assoc, length-append}
use Rattle.std.proofs.lemmas.List.{append-nil, drop_at, drop-drop, length-drop, take_at}
use Rattle.std.proofs.lemmas.List.Folds.{list_all-append}
use Rattle.std.specs.List.{list_all}
use Rattle.hj_lex.proofs.Spelling.{spells_end, spells_token, token_behind}
use Rattle.hj_lex.specs.declared.token.Token.{Token}
use Rattle.hj_lex.specs.declared.token.TokenKind.{TokenKind}
use Rattle.hj_lex.specs.declared.token.TokenKind.TheVariants as kinds
use Rattle.hj_lex.specs.Tokens.{CutsTokens, IsToken, bytes_of, is_blank}
use Rattle.hj_query.specs.Lexemes.{Lexeme, lexeme, lexeme_of, lexemes}

-- The bytes that stand from a place on are these tokens.
pub data Reads : ℕ → List ℕ → List Lexeme → Type 0 where
  at_end : (at : ℕ) → Reads at [] (lexeme at kinds.Sign [] ∷ [])
  blank : (at byte : ℕ) (more : List ℕ) (here : List Lexeme) → is_blank byte ≡ true → Reads (at + 1) more here → Reads at (byte ∷ more) here
  token : (at : ℕ) (kind : TokenKind) (word more : List ℕ) (rest : List Lexeme)
      → 0 < length word → IsToken kind word more → Reads (at + length word) more rest → Reads at (word ++ more) (lexeme at kind word ∷ rest)

-- From a place on the text is cut into these tokens.
pub record IsCut (text : List ℕ) (from : ℕ) (here : List Lexeme) : Type 0 where
  pub tokens : List Token
  pub cut : CutsTokens text from tokens None
  pub same : here ≡ lexemes text tokens

-- the bytes of a token behind blanks
bytes_behind : (text blanks word more : List ℕ) (from : ℕ) (kind : TokenKind) → drop from text ≡ blanks ++ (word ++ more) → bytes_of text (token_behind from (length blanks) kind word) ≡ word
bytes_behind text blanks word more from kind e =
    let at = from + length blanks in
    let size : at + length word - at ≡ length word = omega arith in
    let here : drop at text ≡ word ++ more = sym (drop-drop (length blanks) from text) ∙ ap (drop (length blanks)) e ∙ drop_at blanks (word ++ more) (length blanks) refl in
    ap (λ n. take n (drop at text)) size ∙ ap (take (length word)) here ∙ take_at word more (length word) refl

token_cut : (text blanks word more : List ℕ) (from : ℕ) (kind : TokenKind) (rest : List Lexeme) → from ≤ length text → drop from text ≡ blanks ++ (word ++ more) → list_all is_blank blanks ≡ true
    → 0 < length word → IsToken kind word more → IsCut text (from + length blanks + length word) rest → IsCut text from (lexeme (from + length blanks) kind word ∷ rest)
token_cut text blanks word more from kind rest le e b some form tail = record {
  tokens = token_behind from (length blanks) kind word ∷ tail.tokens;
  cut = spells_token text blanks word more from kind tail.tokens None le e b some form tail.cut;
  same = ap (λ bytes. lexeme (from + length blanks) kind bytes ∷ rest) (sym (bytes_behind text blanks word more from kind e))
      ∙ ap (λ (others : List Lexeme). lexeme_of text (token_behind from (length blanks) kind word) ∷ others) tail.same;
}

end_cut : (text blanks : List ℕ) (from : ℕ) → from ≤ length text → drop from text ≡ blanks → list_all is_blank blanks ≡ true → IsCut text from (lexeme (from + length blanks) kinds.Sign [] ∷ [])
end_cut text blanks from le e b =
    let size : from + length blanks ≡ length text = omega (arith, le, ap length e, length-drop from text) in
    record {
      tokens = [];
      cut = spells_end text blanks from le e b;
      same = ap (λ place. lexeme place kinds.Sign [] ∷ []) size;
    }

-- behind so many blanks
reads_cut : (text : List ℕ) (at : ℕ) (bytes : List ℕ) (here : List Lexeme) → Reads at bytes here → (blanks : List ℕ) (from : ℕ)
    → from ≤ length text → at ≡ from + length blanks → drop from text ≡ blanks ++ bytes → list_all is_blank blanks ≡ true → IsCut text from here
reads_cut text _ _ _ (at_end at) blanks from le place e b =
    subst (λ k. IsCut text from (lexeme k kinds.Sign [] ∷ [])) (sym place) (end_cut text blanks from le (e ∙ append-nil blanks) b)
reads_cut text _ _ _ (blank at byte more here is more_reads) blanks from le place e b =
    reads_cut text (at + 1) more here more_reads (blanks ++ byte ∷ []) from le
    (omega (arith, length-append blanks (byte ∷ [])))
    (e ∙ sym (append_assoc blanks (byte ∷ []) more))
    (list_all-append is_blank blanks (byte ∷ []) ∙ ap (λ all. all && (is_blank byte && true)) b ∙ ap (λ all. all && true) is)
reads_cut text _ _ _ (token at kind word more rest some form more_reads) blanks from le place e b =
    let next = from + length blanks + length word in
    let size : at + length word ≡ next = omega arith in
    let tail : IsCut text (at + length word) rest = reads_cut text (at + length word) more rest more_reads [] (at + length word)
    (omega (arith, ap length e, length-append blanks (word ++ more), length-append word more, length-drop from text))
    (omega arith)
    (ap (λ k. drop k text) size ∙ behind_word text blanks word more from e)
    refl in
    subst (λ k. IsCut text from (lexeme k kind word ∷ rest)) (sym place)
    (token_cut text blanks word more from kind rest le e b some form (subst (λ k. IsCut text k rest) size tail))
  where
    behind_word : (text blanks word more : List ℕ) (from : ℕ) → drop from text ≡ blanks ++ (word ++ more) → drop (from + length blanks + length word) text ≡ more
    behind_word text blanks word more from e =
        sym (drop-drop (length word) (from + length blanks) text)
        ∙ ap (drop (length word)) (sym (drop-drop (length blanks) from text) ∙ ap (drop (length blanks)) e ∙ drop_at blanks (word ++ more) (length blanks) refl)
        ∙ drop_at word more (length word) refl

pub text_cut : (text : List ℕ) (here : List Lexeme) → Reads 0 text here → IsCut text 0 here
text_cut text here r = reads_cut text 0 text here r [] 0 (omega arith) refl refl refl
