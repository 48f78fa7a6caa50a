-- Each text spells a query or has a first fault, in one way.
use Rattle.std.proofs.Common.{◌≡◌, ◌≢◌, ◌⊎◌, inl, inr, ℕ, ◌<◌, ◌≤◌, List, length, MatchResult, Result, Ok, Err, ap, refl, sym, ◌∙◌, subst, arith}
use Rattle.std.proofs.lemmas.Bool.{cases_lt}
use Rattle.hj_lex.proofs.Reading.{has_one_reading, has_reading}
use Rattle.hj_lex.specs.declared.fault.LexFault.{LexFault}
use Rattle.hj_lex.specs.declared.token.Token.{Token}
use Rattle.hj_lex.specs.Tokens.{AreTokens, IsFirstFault}
use Rattle.hj_query.specs.declared.fault.QueryFault.{QueryFault}
use Rattle.hj_query.specs.declared.fault.QueryFault.TheVariants as faults
use Rattle.hj_query.specs.Faults.{FaultsQuery}
use Rattle.hj_query.specs.Grammar.{IsQuery}
use Rattle.hj_query.specs.Lexemes.{lexemes}
use Rattle.hj_query.specs.QueryParts.{QueryParts}
use Rattle.hj_query.specs.Readings.{HasOneReading, HasReading}
use Rattle.hj_query.specs.Same.{IsSameQuery}
use Rattle.hj_query.specs.Texts.{IsFirstQueryFault, Spells, Unless, grammar, long, most_bytes, token}
use Rattle.hj_query.proofs.QueryOutcomes.{query_both, query_fault, query_same, query_some}
use Rattle.hj_query.proofs.TokenOutcomes.{suited_tokens}

-- A text has a reading.

with_query : (text : List ℕ) (tokens : List Token) → length text ≤ most_bytes → AreTokens text tokens
    → ((query : QueryParts) × IsQuery (lexemes text tokens) query) ⊎ ((fault : QueryFault) × FaultsQuery (lexemes text tokens) fault) → HasReading text
with_query text tokens le cut (inl q) = inl (q.0, record { short = le; tokens = tokens; cut = cut; parsed = q.1 })
with_query text tokens le cut (inr f) = inr (f.0, grammar tokens le cut f.1)

with_tokens : (text : List ℕ) → length text ≤ most_bytes → ((tokens : List Token) × AreTokens text tokens) ⊎ ((found : LexFault) × IsFirstFault text found) → HasReading text
with_tokens text le (inl t) = with_query text t.0 le t.1 (query_some (lexemes text t.0) (suited_tokens text 0 t.0 t.1))
with_tokens text le (inr f) = inr (faults.Lex f.0, token f.0 le f.1 refl)

with_length : (text : List ℕ) → (most_bytes < length text) ⊎ (length text ≤ most_bytes) → HasReading text
with_length text (inl gt) = inr (faults.TooLong, long gt refl)
with_length text (inr le) = with_tokens text le (has_reading text)

pub has_query_or_fault : (text : List ℕ) → HasReading text
has_query_or_fault text = with_length text (cases_lt most_bytes (length text))

-- It has no two.

same_tokens : (text : List ℕ) (tokens others : List Token) → AreTokens text tokens → AreTokens text others → others ≡ tokens
same_tokens text tokens others a b = (has_one_reading text).0 tokens others a b

no_token_fault : (text : List ℕ) (tokens : List Token) (found : LexFault) → AreTokens text tokens → IsFirstFault text found → ⊥
no_token_fault text tokens found a b = (has_one_reading text).2 tokens found a b

not_long : (text : List ℕ) → most_bytes < length text → length text ≤ most_bytes → ⊥
not_long text gt le = omega (arith, gt, le)

pub one_query : (text : List ℕ) (query other : QueryParts) → Spells text query → Spells text other → IsSameQuery query other
one_query text query other a b =
    query_same (lexemes text a.tokens) (suited_tokens text 0 a.tokens a.cut) query other a.parsed
    (subst (λ (tokens : List Token). IsQuery (lexemes text tokens) other) (same_tokens text a.tokens b.tokens a.cut b.cut) b.parsed)

pub one_fault : (text : List ℕ) (fault other : QueryFault) → IsFirstQueryFault text fault → IsFirstQueryFault text other → other ≡ fault
one_fault text fault other (long gt e) (long lt f) = f ∙ sym e
one_fault text fault other (long gt e) (token found le first f) = absurd (not_long text gt le)
one_fault text fault other (long gt e) (grammar tokens le cut f) = absurd (not_long text gt le)
one_fault text fault other (token found le first e) (long gt f) = absurd (not_long text gt le)
one_fault text fault other (token found le first e) (token more l second f) = f ∙ ap (λ (x : LexFault). faults.Lex x) ((has_one_reading text).1 found more first second) ∙ sym e
one_fault text fault other (token found le first e) (grammar tokens l cut f) = absurd (no_token_fault text tokens found cut first)
one_fault text fault other (grammar tokens le cut f) (long gt e) = absurd (not_long text gt le)
one_fault text fault other (grammar tokens le cut f) (token found l first e) = absurd (no_token_fault text tokens found cut first)
one_fault text fault other (grammar tokens le cut f) (grammar others l more g) =
    query_fault (lexemes text tokens) (suited_tokens text 0 tokens cut) fault other f
    (subst (λ (ts : List Token). FaultsQuery (lexemes text ts) other) (same_tokens text tokens others cut more) g)

pub not_both : (text : List ℕ) (query : QueryParts) (fault : QueryFault) → Spells text query → IsFirstQueryFault text fault → ⊥
not_both text query fault a (long gt e) = not_long text gt a.short
not_both text query fault a (token found le first e) = no_token_fault text a.tokens found a.cut first
not_both text query fault a (grammar others le more f) =
    query_both (lexemes text a.tokens) (suited_tokens text 0 a.tokens a.cut) query fault a.parsed
    (subst (λ (ts : List Token). FaultsQuery (lexemes text ts) fault) (same_tokens text a.tokens others a.cut more) f)

pub has_one_query_or_fault : (text : List ℕ) → HasOneReading text
has_one_query_or_fault text = (one_query text, one_fault text, not_both text)

-- The answers of `parse`.

memory_or_not : (f : QueryFault) → (f ≡ faults.Memory) ⊎ (f ≢ faults.Memory)
memory_or_not (faults.Lex found) = inr (λ e. cc)
memory_or_not (faults.Expected wanted at) = inr (λ e. cc)
memory_or_not (faults.DoubleColumn at) = inr (λ e. cc)
memory_or_not (faults.UnknownColumn at) = inr (λ e. cc)
memory_or_not (faults.Types at) = inr (λ e. cc)
memory_or_not (faults.FirstColumn at) = inr (λ e. cc)
memory_or_not (faults.WindowRange at) = inr (λ e. cc)
memory_or_not (faults.SlackRange at) = inr (λ e. cc)
memory_or_not (faults.QuietRange at) = inr (λ e. cc)
memory_or_not (faults.TooDeep at) = inr (λ e. cc)
memory_or_not (faults.TooManyColumns at) = inr (λ e. cc)
memory_or_not faults.TooLong = inr (λ e. cc)
memory_or_not faults.Memory = inl refl

pub gives_query : (text : List ℕ) (r : Result QueryParts QueryFault)
    → MatchResult r (Spells text) (λ fault. Unless fault (IsFirstQueryFault text))
    → (query : QueryParts) → Spells text query → MatchResult r (IsSameQuery query) (λ fault. fault ≡ faults.Memory)
gives_query text (Ok found) h query s = one_query text query found s h
gives_query text (Err f) h query s = decide (memory_or_not f)
  where
    decide : (f ≡ faults.Memory) ⊎ (f ≢ faults.Memory) → f ≡ faults.Memory
    decide (inl e) = e
    decide (inr other) = absurd (not_both text query f s (h other))

fault_given : (text : List ℕ) (r : Result QueryParts QueryFault) (f found : QueryFault) → r ≡ Err f → Unless f (IsFirstQueryFault text) → IsFirstQueryFault text found
    → (f ≡ faults.Memory) ⊎ (f ≢ faults.Memory) → (r ≡ Err found) ⊎ (r ≡ Err faults.Memory)
fault_given text r f found e h first (inl memory) = inr (e ∙ ap (λ (x : QueryFault). Err x) memory)
fault_given text r f found e h first (inr other) = inl (e ∙ ap (λ (x : QueryFault). Err x) (one_fault text found f first (h other)))

pub gives_fault : (text : List ℕ) (r : Result QueryParts QueryFault)
    → MatchResult r (Spells text) (λ fault. Unless fault (IsFirstQueryFault text))
    → (found : QueryFault) → IsFirstQueryFault text found → (r ≡ Err found) ⊎ (r ≡ Err faults.Memory)
gives_fault text (Ok query) h found first = absurd (not_both text query found h first)
gives_fault text (Err f) h found first = fault_given text (Err f) f found refl h first (memory_or_not f)
