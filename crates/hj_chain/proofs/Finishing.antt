-- When a chain is done, as the driver and the collector tell it, and what it gave then.
use Rattle.std.proofs.Common.{◌≡◌, ℕ, zero, suc, ◌<◌, ◌&&◌, Bool, true, false, cond, List, [], ◌∷◌, ◌++◌, append_assoc, length, take, get_or, drop, slice_get, Contains, None, refl, ap, ap₂, sym, ◌∙◌, subst, arith, true≢false}
use Rattle.std.specs.Prelude.{◌↔◌}
use Rattle.std.specs.List.{list_any, list_all}
use Rattle.hj_msg.specs.declared.event.Event.{Event}
use Rattle.hj_msg.specs.declared.event.Pair.{Pair}
use Rattle.hj_msg.specs.declared.message.Report.{Report}
use Rattle.hj_msg.specs.declared.message.Report.TheVariants.{Handled, Quiet, Ended, NoMemory}
use Rattle.hj_msg.specs.Event.{IsWellFormed}
use Rattle.hj_msg.specs.Feed.{FeedState}
use Rattle.hj_msg.specs.Kang.{kang}
use Rattle.hj_msg.specs.Punctuation.{is_end}
use Rattle.hj_msg.specs.Emission.{emitted}
use Rattle.hj_msg.proofs.Members.{Contains-head, Contains-cons, any_of}
use Rattle.hj_base.specs.Journals.{IsPrefix}
use Rattle.std.proofs.lemmas.List.{take-append-drop}
use Rattle.hj_msg.proofs.Emitting.{emits_all, emits_prefix}
use Rattle.hj_driver.specs.Driver.{is_finished}
use Rattle.hj_collect.specs.Collector.{has_ended}
use Rattle.hj_collect.proofs.Following.{ended_follows}
use Rattle.hj_chain.specs.declared.actor.Actor.{Actor}
use Rattle.hj_chain.specs.Chain.{Contents}
use Rattle.hj_chain.specs.Reached.{StandsFor, collected_of, next_pair}
use Rattle.hj_chain.specs.Steps.{GoesWith}
use Rattle.hj_chain.specs.Progress.{IsDone}
use Rattle.hj_chain.proofs.Projection.{is_run, all_collected}
use Rattle.hj_chain.proofs.Gathered.{one-each, collected-at}
use Rattle.hj_chain.proofs.Complete.{ended, done_is_complete}
use Rattle.hj_chain.proofs.CompleteDone.{ended_is_done}

-- each core's end is among its reports
end_is_there : {P : Type 0} (reports : List (Report P)) → list_any is_end reports ≡ true → Contains reports Ended
end_is_there [] is = absurd (true≢false (sym is))
end_is_there (Ended ∷ reports) is = Contains-head Ended reports
end_is_there (Handled at side row partners ∷ reports) is = Contains-cons (Handled at side row partners) Ended reports (end_is_there reports is)
end_is_there (Quiet at side ∷ reports) is = Contains-cons (Quiet at side) Ended reports (end_is_there reports is)
end_is_there (NoMemory ∷ reports) is = Contains-cons NoMemory Ended reports (end_is_there reports is)

both-true : (a b : Bool) → (a && b) ≡ true → (a ≡ true) × (b ≡ true)
both-true true b is = (refl, is)
both-true false b is = absurd (true≢false (sym is))

each-of-all : {X : Type 0} (test : X → Bool) (xs : List X) → list_all test xs ≡ true → (k : ℕ) (d : X) → k < length xs → test (get_or xs k d) ≡ true
each-of-all test [] is k d low = absurd (omega (arith, low))
each-of-all test (x ∷ xs) is zero d low = (both-true (test x) (list_all test xs) is).0
each-of-all test (x ∷ xs) is (suc k) d low = each-of-all test xs (both-true (test x) (list_all test xs) is).1 k d (omega (arith, low))

all-of-each : {X : Type 0} (test : X → Bool) (xs : List X) (d : X) → ((k : ℕ) → k < length xs → test (get_or xs k d) ≡ true) → list_all test xs ≡ true
all-of-each test [] d each = refl
all-of-each test (x ∷ xs) d each = ap₂ (λ a b. a && b) (each zero (omega arith)) (all-of-each test xs d (λ k low. each (suc k) (omega (arith, low))))

module _ {P J : Type 0} (predicate : J → P → P → Bool) (chain : Contents P J) (feed : FeedState) (goes : GoesWith predicate chain feed) where
  abbrev n : ℕ
  n = length chain.state.cores

  abbrev lists : List (List (Report P))
  lists = collected_of goes.stands.reached

  abbrev has_end : List (Report P) → Bool
  has_end reports = list_any is_end reports

  all_ended : has_ended chain.collector ≡ list_all has_end lists
  all_ended = ended_follows chain.collector lists goes.stands.collector

  one_list_each : length lists ≡ n
  one_list_each = one-each goes.stands.reached

  to_done : is_finished chain.state.driver.closes ≡ true → has_ended chain.collector ≡ true → IsDone chain.state
  to_done finished collected =
      let done = ended_is_done (predicate chain.join) n chain.state.driver.flight goes.stands.reached goes.well_formed finished
      (λ k low. subst (λ reports. Contains reports Ended) (collected-at goes.stands.reached k low)
      (end_is_there (get_or lists k []) (each-of-all has_end lists (sym all_ended ∙ collected) k [] (omega (arith, low, one_list_each))))) in
      record { finished = done.finished; closed = done.closed; nothing_under_way = done.nothing_under_way; all_collected = done.all_collected }

  from_done : IsDone chain.state → has_ended chain.collector ≡ true
  from_done done =
      all_ended
      ∙ all-of-each has_end lists [] (λ k low.
      let within : k < n = omega (arith, low, one_list_each) in
      any_of is_end (get_or lists k []) Ended
      (subst (λ reports. Contains reports Ended) (sym (collected-at goes.stands.reached k within))
      (ended (predicate chain.join) n chain.state.driver.flight goes.stands.reached goes.well_formed
      (record { finished = done.finished; closed = done.closed; nothing_under_way = done.nothing_under_way; all_collected = done.all_collected }) k within))
      refl)

-- a chain whose fields are open
pub done-is : {P J : Type 0} (predicate : J → P → P → Bool) (opened now : Contents P J) → opened ≡ now → (feed : FeedState) × GoesWith predicate now feed → (result : Bool)
    → result ≡ (is_finished opened.state.driver.closes && has_ended opened.collector) → (result ≡ true) ↔ IsDone now.state
done-is {P} {J} predicate opened now is goes result tells =
    let told : result ≡ (is_finished now.state.driver.closes && has_ended now.collector) = tells ∙ ap (λ (c : Contents P J). is_finished c.state.driver.closes && has_ended c.collector) is in (
      λ yes.
          let parts = both-true (is_finished now.state.driver.closes) (has_ended now.collector) (sym told ∙ yes) in
          to_done predicate now goes.0 goes.1 parts.0 parts.1,
      λ done. told ∙ ap₂ (λ a b. a && b) done.finished (from_done predicate now goes.0 goes.1 done),
    )

-- behind the last element
pub none-behind : {X : Type 0} (xs : List X) (i : ℕ) → slice_get xs i ≡ None → take i xs ≡ xs
none-behind [] zero is = refl
none-behind [] (suc i) is = refl
none-behind (x ∷ xs) zero is = absurd (cc)
none-behind (x ∷ xs) (suc i) is = ap (λ l. x ∷ l) (none-behind xs i is)

module _ {P J : Type 0} (predicate : J → P → P → Bool) (chain : Contents P J) (schedule : List Actor) (events : List (Event P)) (given : ℕ) (stands : StandsFor predicate chain schedule events given) (well : IsWellFormed events) where
  abbrev matches : P → P → Bool
  matches = predicate chain.join

  abbrev flight : ℕ
  flight = chain.state.driver.flight

  abbrev pairs : List (Pair P)
  pairs = emitted (collected_of stands.reached)

  -- what is emitted begins the sequential join
  pub emission_begins : IsPrefix pairs (kang matches events)
  emission_begins = emits_prefix _ (is_run matches (length chain.state.cores) flight stands.reached well) (collected_of stands.reached) (all_collected matches (length chain.state.cores) flight stands.reached well).of_run

  -- and of a chain that is done it is all of it
  pub emission_whole : IsDone chain.state → pairs ≡ kang matches events
  emission_whole done =
      let complete = done_is_complete matches (length chain.state.cores) flight stands.reached well (record { finished = done.finished; closed = done.closed; nothing_under_way = done.nothing_under_way; all_collected = done.all_collected }) in
      emits_all _ complete.0 complete.1 (collected_of stands.reached) (all_collected matches (length chain.state.cores) flight stands.reached well)

  -- A chain that is done, and has no pair to give, gave the sequential join.
  pub all_given : chain.state.over ≡ false → IsDone chain.state → next_pair stands ≡ None → take given pairs ≡ kang matches events
  all_given going done none = none-behind pairs given (ap (λ b. cond b None (slice_get pairs given)) (sym going) ∙ none) ∙ emission_whole done

  -- What a chain gave begins the sequential join.
  pub given_in_order : IsPrefix (take given pairs) (kang matches events)
  given_in_order = record {
    rest = drop given pairs ++ emission_begins.rest;
    is = emission_begins.is ∙ ap (λ l. l ++ emission_begins.rest) (sym (take-append-drop given pairs)) ∙ append_assoc (take given pairs) (drop given pairs) emission_begins.rest;
  }
