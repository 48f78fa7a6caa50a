-- Which texts are queries, and the first fault of every other.
use Rattle.std.specs.Prelude.{◌≡◌, ◌≢◌, ℕ, ◌<◌, ◌≤◌, List, length}
use Rattle.hj_lex.specs.declared.fault.LexFault.{LexFault}
use Rattle.hj_lex.specs.declared.token.Token.{Token}
use Rattle.hj_lex.specs.Tokens.{AreTokens, IsFirstFault}
use Rattle.hj_query.specs.declared.fault.QueryFault.{QueryFault}
use Rattle.hj_query.specs.declared.fault.QueryFault.TheVariants as faults
use Rattle.hj_query.specs.Lexemes.{lexemes}
use Rattle.hj_query.specs.Grammar.{IsQuery}
use Rattle.hj_query.specs.Faults.{FaultsQuery}
use Rattle.hj_query.specs.QueryParts.{QueryParts}

abbrev pub most_bytes : ℕ
most_bytes = 65536

-- the text spells this query
pub record Spells (text : List ℕ) (query : QueryParts) : Type 0 where
  pub short : length text ≤ most_bytes
  pub tokens : List Token
  pub cut : AreTokens text tokens
  pub parsed : IsQuery (lexemes text tokens) query

-- The first fault of a text. Its length is looked at first, then its tokens, then the grammar.
pub data IsFirstQueryFault (text : List ℕ) (fault : QueryFault) : Type 0 where
  long : most_bytes < length text → fault ≡ faults.TooLong → IsFirstQueryFault text fault
  token : (found : LexFault) → length text ≤ most_bytes → IsFirstFault text found → fault ≡ faults.Lex found → IsFirstQueryFault text fault
  grammar : (tokens : List Token) → length text ≤ most_bytes → AreTokens text tokens → FaultsQuery (lexemes text tokens) fault → IsFirstQueryFault text fault

-- Unless memory runs out, the fault is one that has this property.
abbrev pub Unless : QueryFault → (QueryFault → Type 0) → Type 0
Unless fault HasProperty = fault ≢ faults.Memory → HasProperty fault
