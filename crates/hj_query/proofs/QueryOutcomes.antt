-- Reading a query: each list of suited tokens is one, or has a first fault, in one way.
use Rattle.std.proofs.Common.{◌≡◌, ◌⊎◌, inl, inr, List, ap, subst}
use Rattle.hj_query.specs.declared.fault.QueryFault.{QueryFault}
use Rattle.hj_query.specs.declared.pred.Pred.{Pred}
use Rattle.hj_query.specs.Faults.{FaultsCondition, FaultsQuery, in_condition, in_left_window, in_quiet, in_right_window, in_slack, left_schema, right_schema}
use Rattle.hj_query.specs.Grammar.{IsCondition, IsQuery, columns_of, of_lines}
use Rattle.hj_query.specs.Lexemes.{Lexeme}
use Rattle.hj_query.specs.QueryParts.{QueryParts}
use Rattle.hj_query.specs.Same.{IsSameQuery}
use Rattle.hj_query.specs.Sides.{by_side}
use Rattle.hj_query.proofs.ConditionOutcomes.{condition_both, condition_fault, condition_same, condition_some}
use Rattle.hj_query.proofs.HeadOutcomes.{FaultsHead, Head, HeadGives, IsHead, head, head_one, head_suited, left_columns, left_rows, of_head, quiet_number, right_columns, right_rows, slack_number}
use Rattle.hj_query.proofs.Outcomes.{Outcome, fault, fault_same, one_same, read, read_fault, read_same}
use Rattle.hj_query.proofs.SchemaFacts.{schema_fit, schema_of}
use Rattle.hj_query.proofs.TokenOutcomes.{AreSuited}

-- A query is what stands before its condition, and the condition.

abbrev head_in : QueryParts → Head
head_in query = head query.left.columns query.right.columns query.left_window query.right_window query.slack query.quiet

abbrev IsCondition-behind : Head → List Lexeme → Pred → Type 0
IsCondition-behind found condition pred = IsCondition (by_side found.left found.right) condition pred

abbrev FaultsCondition-behind : Head → List Lexeme → QueryFault → Type 0
FaultsCondition-behind found condition f = FaultsCondition (by_side found.left found.right) condition f

abbrev HasParts : List Lexeme → QueryParts → Type 0
HasParts here query = (condition : List Lexeme) × IsHead here (head_in query) condition × IsCondition (columns_of query) condition query.pred

abbrev HasFault : List Lexeme → QueryFault → Type 0
HasFault here f = FaultsHead here f ⊎ ((found : Head) × ((condition : List Lexeme) × IsHead here found condition × FaultsCondition-behind found condition f))

parts_of : (here : List Lexeme) (query : QueryParts) → IsQuery here query → HasParts here query
parts_of here query (of_lines word span next slack quiet condition s t w v a b c) = (condition, of_head word span next slack quiet s t w v a b, c)

fault_of : (here : List Lexeme) (f : QueryFault) → FaultsQuery here f → HasFault here f
fault_of here f (left_schema h) = inl (left_columns h)
fault_of here f (right_schema left word s h) = inl (right_columns left word s h)
fault_of here f (in_left_window left right word span s t h) = inl (left_rows left right word span s t h)
fault_of here f (in_right_window left right left_window word span next s t w h) = inl (right_rows left right left_window word span next s t w h)
fault_of here f (in_slack left right left_window right_window word span next slack s t w v h) =
    inl (slack_number left right left_window right_window word span next slack s t w v h)
fault_of here f (in_quiet left right left_window right_window late word span next slack quiet s t w v a h) =
    inl (quiet_number left right left_window right_window late word span next slack quiet s t w v a h)
fault_of here f (in_condition left right left_window right_window late silent word span next slack quiet condition s t w v a b h) =
    inr (head left right left_window right_window late silent, (condition, of_head word span next slack quiet s t w v a b, h))

head_fault : (here : List Lexeme) (f : QueryFault) → FaultsHead here f → FaultsQuery here f
head_fault here f (left_columns h) = left_schema h
head_fault here f (right_columns left word s h) = right_schema left word s h
head_fault here f (left_rows left right word span s t h) = in_left_window left right word span s t h
head_fault here f (right_rows left right left_window word span next s t w h) = in_right_window left right left_window word span next s t w h
head_fault here f (slack_number left right left_window right_window word span next slack s t w v h) =
    in_slack left right left_window right_window word span next slack s t w v h
head_fault here f (quiet_number left right left_window right_window late word span next slack quiet s t w v a h) =
    in_quiet left right left_window right_window late word span next slack quiet s t w v a h

condition_faults : (here condition : List Lexeme) (found : Head) (f : QueryFault) → IsHead here found condition → FaultsCondition-behind found condition f → FaultsQuery here f
condition_faults here condition found f (of_head word span next slack quiet s t w v a b) h =
    in_condition found.left found.right found.left_window found.right_window found.slack found.quiet word span next slack quiet condition s t w v a b h

query_of : (here condition : List Lexeme) (found : Head) (pred : Pred) → IsHead here found condition → IsCondition-behind found condition pred → (query : QueryParts) × IsQuery here query
query_of here condition found pred (of_head word span next slack quiet s t w v a b) c = (
  record {
    left = schema_of found.left (schema_fit _ here found.left word s);
    right = schema_of found.right (schema_fit _ word found.right span t);
    left_window = found.left_window;
    right_window = found.right_window;
    slack = found.slack;
    quiet = found.quiet;
    pred = pred;
  },
  of_lines word span next slack quiet condition s t w v a b c,
)

-- A query, or a fault.

abbrev Reads : List Lexeme → Type 0
Reads here = ((query : QueryParts) × IsQuery here query) ⊎ ((f : QueryFault) × FaultsQuery here f)

behind_head : (here condition : List Lexeme) (found : Head) → IsHead here found condition
    → ((pred : Pred) × IsCondition-behind found condition pred) ⊎ ((f : QueryFault) × FaultsCondition-behind found condition f) → Reads here
behind_head here condition found h (inl c) = inl (query_of here condition found c.0 h c.1)
behind_head here condition found h (inr f) = inr (f.0, condition_faults here condition found f.0 h f.1)

from_head : (here : List Lexeme) → AreSuited here → (end : Outcome Head) → HeadGives here end → Reads here
from_head here suited (read found condition) h =
    behind_head here condition found h (condition_some (by_side found.left found.right) condition (head_suited here condition found h suited))
from_head here suited (fault f) h = inr (f, head_fault here f h)

pub query_some : (here : List Lexeme) → AreSuited here
    → ((query : QueryParts) × IsQuery here query) ⊎ ((f : QueryFault) × FaultsQuery here f)
query_some here suited = from_head here suited (head_one here).value (head_one here).gives

-- Two readings.

same_head : (here condition last : List Lexeme) (found other : Head) → IsHead here found condition → IsHead here other last → (other ≡ found) × (last ≡ condition)
same_head here condition last found other a b =
    read_same other found last condition (one_same (HeadGives here) (head_one here) (read found condition) (read other last) a b)

same_head_fault : (here : List Lexeme) (f g : QueryFault) → FaultsHead here f → FaultsHead here g → g ≡ f
same_head_fault here f g a b = fault_same g f (one_same (HeadGives here) (head_one here) (fault f) (fault g) a b)

not_both_heads : (here condition : List Lexeme) (found : Head) (f : QueryFault) → IsHead here found condition → FaultsHead here f → ⊥
not_both_heads here condition found f a b = read_fault found condition f (one_same (HeadGives here) (head_one here) (fault f) (read found condition) b a)

moved : (P : Head → List Lexeme → Type 0) (found other : Head) (condition last : List Lexeme) → (other ≡ found) × (last ≡ condition) → P other last → P found condition
moved P found other condition last e p = subst (λ here. P found here) e.1 (subst (λ (h : Head). P h last) e.0 p)

same_parts : (here : List Lexeme) (query other : QueryParts) → AreSuited here → HasParts here query → HasParts here other → IsSameQuery query other
same_parts here query other suited (condition, a, c) (last, b, d) =
    let e = same_head here condition last (head_in query) (head_in other) a b in
    record {
      left = ap (λ (h : Head). h.left) e.0;
      right = ap (λ (h : Head). h.right) e.0;
      left_window = ap (λ (h : Head). h.left_window) e.0;
      right_window = ap (λ (h : Head). h.right_window) e.0;
      slack = ap (λ (h : Head). h.slack) e.0;
      quiet = ap (λ (h : Head). h.quiet) e.0;
      pred = condition_same (columns_of query) condition (head_suited here condition (head_in query) a suited) query.pred other.pred c
          (moved (λ h here. IsCondition-behind h here other.pred) (head_in query) (head_in other) condition last e d);
    }

same_fault : (here : List Lexeme) (f g : QueryFault) → AreSuited here → HasFault here f → HasFault here g → g ≡ f
same_fault here f g suited (inl a) (inl b) = same_head_fault here f g a b
same_fault here f g suited (inl a) (inr (found, (condition, b, c))) = absurd (not_both_heads here condition found f b a)
same_fault here f g suited (inr (found, (condition, a, c))) (inl b) = absurd (not_both_heads here condition found g a b)
same_fault here f g suited (inr (found, (condition, a, c))) (inr (other, (last, b, d))) =
    condition_fault (by_side found.left found.right) condition (head_suited here condition found a suited) f g c
    (moved (λ h here. FaultsCondition-behind h here g) found other condition last (same_head here condition last found other a b) d)

not_both : (here : List Lexeme) (query : QueryParts) (f : QueryFault) → AreSuited here → HasParts here query → HasFault here f → ⊥
not_both here query f suited (condition, a, c) (inl b) = not_both_heads here condition (head_in query) f a b
not_both here query f suited (condition, a, c) (inr (other, (last, b, d))) =
    condition_both (columns_of query) condition (head_suited here condition (head_in query) a suited) query.pred f c
    (moved (λ h here. FaultsCondition-behind h here f) (head_in query) other condition last (same_head here condition last (head_in query) other a b) d)

pub query_same : (here : List Lexeme) → AreSuited here → (query other : QueryParts) → IsQuery here query → IsQuery here other → IsSameQuery query other
query_same here suited query other a b = same_parts here query other suited (parts_of here query a) (parts_of here other b)

pub query_fault : (here : List Lexeme) → AreSuited here → (f g : QueryFault) → FaultsQuery here f → FaultsQuery here g → g ≡ f
query_fault here suited f g a b = same_fault here f g suited (fault_of here f a) (fault_of here g b)

pub query_both : (here : List Lexeme) → AreSuited here → (query : QueryParts) (f : QueryFault) → IsQuery here query → FaultsQuery here f → ⊥
query_both here suited query f a b = not_both here query f suited (parts_of here query a) (fault_of here f b)
