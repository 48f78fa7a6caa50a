-- What was read of a text is a query that it spells or its first fault.
use Rattle.std.proofs.Common.{◌≡◌, ℕ, ◌≤◌, List, length, refl, subst}
use Rattle.std.specs.Prelude.{◌≢◌}
use Rattle.hj_lex.specs.declared.fault.LexFault.{LexFault}
use Rattle.hj_lex.specs.declared.fault.LexFault.TheVariants as lex_fault
use Rattle.hj_lex.specs.declared.token.Token.{Token}
use Rattle.hj_lex.specs.Tokens.{AreTokens, Explains}
use Rattle.hj_query.specs.Faults.{FaultsQuery}
use Rattle.hj_query.specs.Grammar.{IsQuery, IsSpelled}
use Rattle.hj_query.specs.Lexemes.{Lexeme, lexemes}
use Rattle.hj_query.specs.QueryParts.{QueryParts}
use Rattle.hj_query.specs.Texts.{IsFirstQueryFault, Spells, Unless, grammar, most_bytes, token}
use Rattle.hj_query.specs.declared.fault.QueryFault.{QueryFault}
use Rattle.hj_query.specs.declared.fault.QueryFault.TheVariants as faults
use Rattle.hj_query.proofs.Suited.{suited_tokens}

-- Reading a text.

-- a text with no tokens
pub first_of_lex : (text : List ℕ) (found : LexFault) (fault : QueryFault) → length text ≤ most_bytes → Explains text found
    → (found ≡ lex_fault.Memory → fault ≡ faults.Memory) → (found ≢ lex_fault.Memory → fault ≡ faults.Lex found) → Unless fault (IsFirstQueryFault text)
first_of_lex text (lex_fault.BadByte place) fault le h memory is _ = token (lex_fault.BadByte place) le h (is (λ e. cc))
first_of_lex text (lex_fault.OpenText place) fault le h memory is _ = token (lex_fault.OpenText place) le h (is (λ e. cc))
first_of_lex text (lex_fault.NumberRange place) fault le h memory is _ = token (lex_fault.NumberRange place) le h (is (λ e. cc))
first_of_lex text lex_fault.Memory fault le h memory is other = absurd (other (memory refl))

-- tokens that are no query
pub first_of_tokens : (text : List ℕ) (tokens : List Token) (here : List Lexeme) (fault : QueryFault) → here ≡ lexemes text tokens → length text ≤ most_bytes → AreTokens text tokens
    → FaultsQuery here fault → IsFirstQueryFault text fault
first_of_tokens text tokens here fault e le cut f = grammar tokens le cut (subst (λ (here : List Lexeme). FaultsQuery here fault) e f)

-- tokens that are a query
pub spelled : (text : List ℕ) (tokens : List Token) (here : List Lexeme) (query : QueryParts) → here ≡ lexemes text tokens → length text ≤ most_bytes → AreTokens text tokens
    → IsQuery here query → Spells text query
spelled text tokens here query e le cut q =
    record { short = le; tokens = tokens; cut = cut; parsed = subst (λ (here : List Lexeme). IsQuery here query) e q }

pub readable : (text : List ℕ) (tokens : List Token) (here : List Lexeme) (query : QueryParts) → here ≡ lexemes text tokens → AreTokens text tokens → IsQuery here query → IsSpelled query
readable text tokens here query e cut q = (lexemes text tokens, suited_tokens text 0 tokens cut, subst (λ (here : List Lexeme). IsQuery here query) e q)
