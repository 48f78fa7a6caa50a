-- A chain that was just made stands for no step, and for the first event of its feed.
use Rattle.std.proofs.Common.{◌≡◌, ℕ, ◌≤◌, List, [], length, replicate, Ok, Err, Some, sym, ap, subst, ◌∙◌, arith}
use Rattle.std.specs.Prelude.{IfOk}
use Rattle.std.specs.declared.result.Result.{Result}
use Rattle.std.specs.List.Sorted.{IsPermutation}
use Rattle.std.proofs.lemmas.List.{length-replicate}
use Rattle.std.proofs.lemmas.List.Sorted.{IsPermutation-refl}
use Rattle.hj_value.specs.declared.field.Field.{Field}
use Rattle.hj_msg.specs.Core.{empty_state}
use Rattle.hj_msg.specs.declared.feed.Given.{Given}
use Rattle.hj_msg.specs.declared.message.Report.{Report}
use Rattle.hj_msg.specs.declared.event.Pair.{Pair}
use Rattle.hj_msg.specs.Met.{met}
use Rattle.hj_query.specs.QueryParts.{QueryParts}
use Rattle.hj_eval.specs.Holds.{holds}
use Rattle.hj_collect.specs.Collector.{nothing_taken}
use Rattle.hj_collect.specs.StandsFor as collect
use Rattle.hj_collect.proofs.Following.{new_follows}
use Rattle.hj_chain.specs.Chain.{Contents, empty_chain}
use Rattle.hj_chain.specs.Reached.{Reached, StandsFor, begins, collected_of}
use Rattle.hj_msg.specs.Feed.{event_in}
use Rattle.hj_chain.proofs.Starting.{none_met, nothing}
use Rattle.hj_engine.specs.Running.{IsBegunChain}

-- no step was made, and nothing was taken of any core's reports
record NoStep (query : QueryParts) (flight : ℕ) (first : Given (List Field)) (n cores : ℕ) : Type 0 where
  reached : Reached (holds query) cores flight [] (event_in (Some first)) (empty_chain n flight first)
  nothing_collected : collected_of reached ≡ replicate n []

stands_first : (query : QueryParts) (n flight : ℕ) (first : Given (List Field)) → 1 ≤ n
    → StandsFor holds (record { join = query; state = empty_chain n flight first; collector = nothing_taken n; kept = [] }) [] (event_in (Some first)) 0
stands_first query n flight first some =
    let none : NoStep query flight first n (length (replicate n (empty_state {P = List Field}))) =
    subst (λ cores. NoStep query flight first n cores) (sym (length-replicate n (empty_state {P = List Field}))) (record { reached = begins some first; nothing_collected = nothing 0 n }) in
    let nothing_met : met (collected_of none.reached) ≡ [] = ap (met {P = List Field}) none.nothing_collected ∙ none_met n in
    record {
      reached = none.reached;
      collector = subst (λ (lists : List (List (Report (List Field)))). collect.StandsFor (nothing_taken n) lists) (sym none.nothing_collected) (new_follows n);
      within = omega arith;
      released = subst (λ (pairs : List (Pair (List Field))). IsPermutation [] pairs) (sym nothing_met) (IsPermutation-refl []);
    }

has_begun : {F : Type 0} (gives : F → Given (List Field) → F → Type 0) (query join : QueryParts) (n flight : ℕ) (chain : Contents (List Field) QueryParts) (from to : F) → 1 ≤ n → join ≡ query
    → (first : Given (List Field)) × (chain ≡ record { join = join; state = empty_chain n flight first; collector = nothing_taken n; kept = [] }) × gives from first to
    → IsBegunChain gives query chain from to
has_begun gives query join n flight chain from to some is (first, made, given) = record {
  join = ap (λ (c : Contents (List Field) QueryParts). c.join) made ∙ is;
  first = first;
  given = given;
  stands = subst (λ (c : Contents (List Field) QueryParts). StandsFor holds c [] (event_in (Some first)) 0) (sym made) (stands_first join n flight first some);
}

-- where one was made
pub all_begun : {F E : Type 0} (gives : F → Given (List Field) → F → Type 0) (query join : QueryParts) (n flight : ℕ) (made : Result (Contents (List Field) QueryParts) E) (from to : F) → 1 ≤ n → join ≡ query
    → IfOk made (λ chain. (first : Given (List Field)) × (chain ≡ record { join = join; state = empty_chain n flight first; collector = nothing_taken n; kept = [] }) × gives from first to)
    → IfOk made (λ chain. IsBegunChain gives query chain from to)
all_begun gives query join n flight (Ok chain) from to some is made = has_begun gives query join n flight chain from to some is made
all_begun gives query join n flight (Err none) from to some is made = tt
