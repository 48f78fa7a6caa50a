-- A check that has made no step yet.
use Rattle.std.proofs.Common.{◌≡◌, ◌≤◌, Bool, true, false, List, [], ◌∷◌, ℕ, length, replicate, Some, is_some, refl, sym, ap, subst, subst₂, ◌∙◌, append-nil, arith, true≢false}
use Rattle.std.specs.Prelude.{MatchBool, Err}
use Rattle.std.specs.List.Sorted.{IsPermutation}
use Rattle.std.proofs.lemmas.List.{length-replicate}
use Rattle.std.proofs.lemmas.List.Sorted.{IsPermutation-refl}
use Rattle.hj_value.specs.declared.field.Field.{Field}
use Rattle.hj_base.specs.declared.outside.Outside.{Ghosts as OutsideGhosts}
use Rattle.hj_base.specs.declared.outside.Role.{Role}
use Rattle.hj_base.specs.declared.outside.Role.TheVariants as role
use Rattle.hj_base.specs.Outside.{RoleState}
use Rattle.hj_query.specs.QueryParts.{QueryParts}
use Rattle.hj_eval.specs.Holds.{holds}
use Rattle.hj_event.specs.Roles.{IsInStep, name_of}
use Rattle.hj_msg.specs.Core.{empty_state}
use Rattle.hj_msg.specs.declared.event.Event.{Event}
use Rattle.hj_msg.specs.declared.event.Pair.{Pair}
use Rattle.hj_msg.specs.declared.feed.Given.{Given}
use Rattle.hj_msg.specs.declared.message.Report.{Report}
use Rattle.hj_msg.specs.Emission.{emitted}
use Rattle.hj_msg.specs.Feed.{GoesOverAnswers, event_in, events_in}
use Rattle.hj_msg.specs.Met.{met}
use Rattle.hj_collect.specs.Collector.{nothing_taken}
use Rattle.hj_collect.specs.StandsFor as collect
use Rattle.hj_collect.proofs.Following.{new_follows}
use Rattle.hj_chain.specs.Chain.{ChainState, Contents, empty_chain}
use Rattle.hj_chain.specs.Reached.{Reached, StandsFor, begins, collected_of}
use Rattle.hj_chain.proofs.Starting.{none_met, nothing}
use Rattle.hj_stream.specs.Ends.{IsUnasked}
use Rattle.hj_stream.specs.Feeding.{Feeding}
use Rattle.hj_trace.specs.Stream.{GoesWithRole as IsReadOf, PartsFrom, TextStreamState, Uses}
use Rattle.hj_trace.proofs.Plays.{PlaysOver, plays-first}
use Rattle.hj_trace.proofs.Streams.{nothing_used}
use Rattle.hj_replay.specs.declared.ready.AlwaysReady.{AlwaysReady}
use Rattle.hj_replay.specs.Feeds.{gives, roles_of, state_of}
use Rattle.hj_verify.specs.declared.output.OutputCheck.{OutputCheck}
use Rattle.hj_verify.specs.declared.verdict.Verdict.{Verdict}
use Rattle.hj_verify.specs.Checked.{AreOpen, Checking, ChecksRun, GaveAnswers, FailsSo, IsBegunCheck, IsUnplayed, LeadTo, beside, feeding, fresh, has_failed}
use Rattle.hj_verify.specs.Due.{ChainHasGiven}
use Rattle.hj_verify.specs.Output.{OutputAgrees}
use Rattle.hj_verify.specs.Reading.{no_memory}
use Rattle.hj_verify.proofs.Ending.{fails_of_streams, fed_more, memory_apart, none_yet, output_stays, streams_go, trace_stays}
use Rattle.hj_verify.proofs.Stopping.{by_memory, feed_fails}

abbrev Row : Type 0
Row = List Field

-- ---- the chain

-- a chain that was just made
abbrev pub new_chain : QueryParts → (n flight : ℕ) → Given Row → Contents Row QueryParts
new_chain query n flight first = record { join = query; state = empty_chain n flight first; collector = nothing_taken n; kept = [] }

-- no step was made, and nothing was taken of any core's reports
record NoStep (query : QueryParts) (flight : ℕ) (first : Given Row) (n cores : ℕ) : Type 0 where
  reached : Reached (holds query) cores flight [] (event_in (Some first)) (empty_chain n flight first)
  nothing_collected : collected_of reached ≡ replicate n []

stands_first : (query : QueryParts) (n flight : ℕ) (first : Given Row) → 1 ≤ n
    → StandsFor holds (new_chain query n flight first) [] (event_in (Some first)) 0
stands_first query n flight first some =
    let none : NoStep query flight first n (length (replicate n (empty_state {P = Row}))) =
    subst (λ cores. NoStep query flight first n cores) (sym (length-replicate n (empty_state {P = Row}))) (record { reached = begins some first; nothing_collected = nothing 0 n }) in
    let nothing_met : met (collected_of none.reached) ≡ [] = ap (met {P = Row}) none.nothing_collected ∙ none_met n in
    record {
      reached = none.reached;
      collector = subst (λ (lists : List (List (Report Row))). collect.StandsFor (nothing_taken n) lists) (sym none.nothing_collected) (new_follows n);
      within = omega arith;
      released = subst (λ (pairs : List (Pair Row)). IsPermutation [] pairs) (sym nothing_met) (IsPermutation-refl []);
    }

-- the pairs that such a chain emits, of which it gave none
record GaveNone (chain : Contents Row QueryParts) (events : List (Event Row)) : Type 0 where
  pairs : List (Pair Row)
  gave : ChainHasGiven chain [] events 0 pairs

gave_none : (query : QueryParts) (n flight : ℕ) (first : Given Row) → 1 ≤ n → (chain : Contents Row QueryParts) → chain ≡ new_chain query n flight first → GaveNone chain (event_in (Some first))
gave_none query n flight first some chain is =
    let stands = stands_first query n flight first some in
    subst (λ (c : Contents Row QueryParts). GaveNone c (event_in (Some first))) (sym is) (record { pairs = emitted (collected_of stands.reached); gave = record { stands = stands; emits = refl } })

-- ---- a role of which nothing was read

not_ended : false ≡ true → ⊥
not_ended e = true≢false (sym e)

none_used : (of : Role) (before now : RoleState) → now ≡ before → Uses false [] (fresh of) before (fresh of) now
none_used of before now same = subst (λ (s : RoleState). Uses false [] (fresh of) before (fresh of) s) (sym same) (nothing_used (fresh of) before (λ e. absurd (not_ended e)))

stands_open : (of : Role) (now : RoleState) → IsInStep false now → IsReadOf (fresh of) now
stands_open of now step = record { name = name_of now.phase; phase = step.phase; nothing_left = λ e. absurd (not_ended e) }

-- ---- the feed was asked for the first event

module _ {O : Type 0} {outside : OutsideGhosts O} (from to : AlwaysReady O outside) (first : Given Row) (gave : gives {O = O} {outside = outside} from first to) where
  abbrev asked : GoesOverAnswers (gives {O = O} {outside = outside}) from (first ∷ []) to
  asked = (to, gave, refl)

  trace_unread : roles_of to role.Trace ≡ roles_of from role.Trace
  trace_unread = trace_stays (feeding from) from to (first ∷ []) asked

  output_unread : roles_of to role.Output ≡ roles_of from role.Output
  output_unread = output_stays (feeding from) from to (first ∷ []) asked

  pub trace_in_step : IsInStep false (roles_of from role.Trace) → IsInStep false (roles_of to role.Trace)
  trace_in_step = subst (λ (s : RoleState). IsInStep false s) (sym trace_unread)

  pub output_in_step : IsInStep false (roles_of from role.Output) → IsInStep false (roles_of to role.Output)
  output_in_step = subst (λ (s : RoleState). IsInStep false s) (sym output_unread)

-- ---- the check

module _ {O : Type 0} {outside : OutsideGhosts O} (query : QueryParts) (n flight limit : ℕ) (from : AlwaysReady O outside) (unasked : IsUnasked query limit from.feed) where
  pub begun : IsBegunCheck query limit (feeding from)
  begun = record {
    merger = unasked.merger;
    none = sym from.feed.counted ∙ ap length unasked.given;
    going = unasked.going;
    left = subst (λ ended. IsInStep ended (roles_of from role.Left)) unasked.merger.left from.feed.left;
    right = subst (λ ended. IsInStep ended (roles_of from role.Right)) unasked.merger.right from.feed.right;
  }

  abbrev fed_none : GaveAnswers (feeding from) (feeding from)
  fed_none = record { answers = []; gave = refl; others = λ other unread. refl }

  still_going : has_failed from.feed.ended ≡ false
  still_going = ap has_failed unasked.going

  -- memory ran out before the feed was asked
  pub no_run : ChecksRun (Err no_memory) query n flight (feeding from) (feeding from)
  no_run = record {
    trace = fresh role.Trace;
    output = fresh role.Output;
    checks =
        by_memory query n flight (feeding from) (feeding from) (fresh role.Trace) (fresh role.Output) fed_none
        [] (none_used role.Trace (roles_of from role.Trace) (roles_of from role.Trace) refl) [] (none_used role.Output (roles_of from role.Output) (roles_of from role.Output) refl)
        (streams_go no_memory from.feed.ended still_going (λ of stream. memory_apart of));
  }

  -- the feed was asked for the first event
  module _ (to : AlwaysReady O outside) (first : Given Row) (gave : gives {O = O} {outside = outside} from first to) where
    abbrev fed_first : GaveAnswers (feeding from) (feeding to)
    fed_first = fed_more (feeding from) from to (first ∷ []) (asked from to first gave) fed_none

    events_first : events_in fed_first.answers ≡ event_in (Some first)
    events_first = append-nil (event_in (Some first))

    -- and its chain made no step
    module _ (some : 1 ≤ n) (chain : Contents Row QueryParts) (is : chain ≡ new_chain query n flight first) where
      abbrev none_given : GaveNone chain (event_in (Some first))
      none_given = gave_none query n flight first some chain is

      steps_none : LeadTo query n flight (events_in fed_first.answers) (is_some to.feed.ended) [] chain.state []
      steps_none =
          let plays : PlaysOver (holds query) n flight (event_in (Some first)) (state_of to).stopped [] (empty_chain n flight first) [] = plays-first (holds query) n flight first (state_of from) (state_of to) gave.3 in
          subst₂ (λ (events : List (Event Row)) (state : ChainState Row). LeadTo query n flight events (is_some to.feed.ended) [] state []) (sym events_first) (sym (ap (λ (c : Contents Row QueryParts). c.state) is))
          (record { played_is = plays.played_is; enabled = plays.enabled; text_is = plays.text_is })

      pub unplayed : IsUnplayed query n flight (feeding from) chain (feeding to)
      unplayed = record {
        join = ap (λ (c : Contents Row QueryParts). c.join) is;
        limit = limit;
        begun = begun;
        kept = ap (λ (c : Contents Row QueryParts). c.state.over) is;
        fed = fed_first;
        steps = steps_none;
        pairs = none_given.pairs;
        gave = subst (λ (events : List (Event Row)). ChainHasGiven chain [] events 0 none_given.pairs) (sym events_first) none_given.gave;
        trace = trace_unread from to first gave;
        output = output_unread from to first gave;
      }

-- ---- a chain that made no step

-- both streams are open
pub open_first : (roles : Role → RoleState) → IsInStep false (roles role.Trace) → IsInStep false (roles role.Output) → (trace : TextStreamState) → trace ≡ fresh role.Trace → (output : TextStreamState) → output ≡ fresh role.Output → AreOpen roles trace output
open_first roles trace_open output_open trace new_trace output new_output =
    subst₂ (λ (t o : TextStreamState). AreOpen roles t o) (sym new_trace) (sym new_output)
    (record { trace_role = refl; output_role = refl; trace_open = stands_open role.Trace (roles role.Trace) trace_open; output_open = stands_open role.Output (roles role.Output) output_open })

module _ (query : QueryParts) (n flight : ℕ) (start : Feeding) (chain : Contents Row QueryParts) (now : Feeding) (first : IsUnplayed query n flight start chain now) where
  trace_used : Uses false [] (fresh role.Trace) (start.roles role.Trace) (fresh role.Trace) (now.roles role.Trace)
  trace_used = none_used role.Trace (start.roles role.Trace) (now.roles role.Trace) first.trace

  output_used : Uses false [] (fresh role.Output) (start.roles role.Output) (fresh role.Output) (now.roles role.Output)
  output_used = none_used role.Output (start.roles role.Output) (now.roles role.Output) first.output

  -- its events failed
  pub run_fails : (judged : Verdict) → FailsSo now.ended judged → ChecksRun (Err judged) query n flight start now
  run_fails judged fails = record {
    trace = fresh role.Trace;
    output = fresh role.Output;
    checks =
        feed_fails query n flight start now (fresh role.Trace) (fresh role.Output) first.fed
        (fails_of_streams first.fed.answers (beside start.roles start) (beside start.roles now) (none_yet start first.begun.going) first.fed.gave)
        [] trace_used [] output_used judged fails;
  }

  agrees_none : (output : OutputCheck) → output.stream ≡ fresh role.Output → output.same ≡ 0 → output.differs ≡ false
      → OutputAgrees [] (fresh role.Output) (start.roles role.Output) output (now.roles output.stream.role)
  agrees_none output new none same = record {
    same = [];
    missing = [];
    text_is = refl;
    uses = subst (λ (s : TextStreamState). Uses false [] (fresh role.Output) (start.roles role.Output) s (now.roles s.role)) (sym new) output_used;
    counted = none;
    ends = subst (λ (b : Bool). MatchBool b (PartsFrom [] output.stream) (◌≡◌ {A = List ℕ} [] [])) (sym same) refl;
  }

  -- or they go on
  pub checking_first : has_failed now.ended ≡ false → (trace : TextStreamState) → trace ≡ fresh role.Trace → (output : OutputCheck) → output.stream ≡ fresh role.Output → output.same ≡ 0 → output.differs ≡ false
      → Checking query n flight start 1 chain now trace output
  checking_first going trace new_trace output new none same = record {
    join = first.join;
    limit = first.limit;
    begun = first.begun;
    kept = first.kept;
    fed = first.fed;
    going = going;
    schedule = [];
    counted = refl;
    lines = [];
    steps = first.steps;
    trace_used = subst (λ (s : TextStreamState). Uses false [] (fresh role.Trace) (start.roles role.Trace) s (now.roles s.role)) (sym new_trace) trace_used;
    given = 0;
    pairs = first.pairs;
    gave = first.gave;
    agrees = agrees_none output new none same;
  }
