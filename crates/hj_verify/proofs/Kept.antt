-- What stays while a line is checked: the outside, that the chain goes with its feed, and that both streams are open.
use Rattle.std.proofs.Common.{◌≡◌, List, sym, subst}
use Rattle.hj_value.specs.declared.field.Field.{Field}
use Rattle.hj_base.specs.declared.outside.Outside.{Ghosts as OutsideGhosts}
use Rattle.hj_base.specs.declared.outside.Role.{Role}
use Rattle.hj_base.specs.declared.outside.Role.TheVariants as role
use Rattle.hj_base.specs.Outside.{ChangesOnly}
use Rattle.hj_query.specs.QueryParts.{QueryParts}
use Rattle.hj_eval.specs.Holds.{holds}
use Rattle.hj_msg.specs.declared.feed.Given.{Given}
use Rattle.hj_msg.specs.Feed.{FeedState, GoesOverAnswers}
use Rattle.hj_chain.specs.Chain.{Contents}
use Rattle.hj_chain.specs.Steps.{GoesWith}
use Rattle.hj_stream.specs.declared.feed.EventFeed.{EventFeed}
use Rattle.hj_trace.specs.Stream.{GoesWithRole as IsReadOf, TextStreamState}
use Rattle.hj_replay.specs.declared.ready.AlwaysReady.{AlwaysReady}
use Rattle.hj_replay.specs.Feeds.{SameOutside, gives, roles_of, state_of}
use Rattle.hj_replay.proofs.Feeding.{fed_by}
use Rattle.hj_verify.specs.Beside.{ReadsBeside}
use Rattle.hj_verify.specs.Checked.{AreOpen, feeding}
use Rattle.hj_verify.proofs.Ending.{output_stays, trace_stays}
use Rattle.hj_verify.proofs.FeedBeside.{outside_beside, outside_same, outside_then, over, state_beside}
use Rattle.hj_verify.proofs.Open.{open_events, open_output, open_trace}

abbrev Row : Type 0
Row = List Field

module _ {O : Type 0} {outside : OutsideGhosts O} where
  pub record Kept (old now : AlwaysReady O outside) (chain : Contents Row QueryParts) (trace output : TextStreamState) : Type 0 where
    pub same : SameOutside {O = O} {outside = outside} old now
    pub goes : GoesWith holds chain (state_of {O = O} {outside = outside} now)
    pub are_open : AreOpen (roles_of {O = O} {outside = outside} now) trace output

module _ {O : Type 0} {outside : OutsideGhosts O} (old : AlwaysReady O outside) (chain : Contents Row QueryParts) (trace output : TextStreamState) where
  abbrev pub kept_first : GoesWith holds chain (state_of {O = O} {outside = outside} old) → AreOpen (roles_of {O = O} {outside = outside} old) trace output → Kept {O = O} {outside = outside} old old chain trace output
  kept_first goes are_open = record { same = outside_same old; goes = goes; are_open = are_open }

module _ {O : Type 0} {outside : OutsideGhosts O} (old from : AlwaysReady O outside) (chain : Contents Row QueryParts) (trace output : TextStreamState) (kept : Kept {O = O} {outside = outside} old from chain trace output) where
  -- the trace was read
  abbrev pub kept_trace : (new : EventFeed O outside) → ReadsBeside {O = O} {outside = outside} role.Trace from.feed new → (used : TextStreamState) → used.role ≡ trace.role → IsReadOf used (outside.state new.outside.now used.role) → Kept {O = O} {outside = outside} old (over new) chain used output
  kept_trace new beside used same read = record {
    same = outside_then old from (over new) kept.same (outside_beside role.Trace from.feed new beside);
    goes = subst (λ (s : FeedState). GoesWith holds chain s) (sym (state_beside role.Trace from.feed new beside)) kept.goes;
    are_open =
        open_trace (outside.state from.feed.outside.now) (outside.state new.outside.now) trace used output kept.are_open
        (subst (λ (of : Role). ChangesOnly of (outside.state from.feed.outside.now) (outside.state new.outside.now)) (sym kept.are_open.trace_role) beside.others) same read;
  }

  -- a step was made
  abbrev pub kept_step : (to : AlwaysReady O outside) → (asked : (answers : List (Given Row)) × GoesOverAnswers (gives {O = O} {outside = outside}) from answers to) → (new : Contents Row QueryParts) → GoesWith holds new (state_of {O = O} {outside = outside} to)
      → Kept {O = O} {outside = outside} old to new trace output
  kept_step to asked new goes = record {
    same = outside_then old from to kept.same (fed_by from to asked).outside_is;
    goes = goes;
    are_open = open_events (outside.state from.feed.outside.now) (outside.state to.feed.outside.now) trace output kept.are_open (trace_stays (feeding from) from to asked.0 asked.1) (output_stays (feeding from) from to asked.0 asked.1);
  }

  -- the output was compared with the pairs of the chain
  abbrev pub kept_output : (last : EventFeed O outside) → ReadsBeside {O = O} {outside = outside} role.Output from.feed last → (new : Contents Row QueryParts) → ((state : FeedState) → GoesWith holds chain state → GoesWith holds new state)
      → (used : TextStreamState) → used.role ≡ output.role → IsReadOf used (outside.state last.outside.now used.role) → Kept {O = O} {outside = outside} old (over last) new trace used
  kept_output last beside new stays used same read = record {
    same = outside_then old from (over last) kept.same (outside_beside role.Output from.feed last beside);
    goes = subst (λ (s : FeedState). GoesWith holds new s) (sym (state_beside role.Output from.feed last beside)) (stays (state_of {O = O} {outside = outside} from) kept.goes);
    are_open =
        open_output (outside.state from.feed.outside.now) (outside.state last.outside.now) trace output used kept.are_open
        (subst (λ (of : Role). ChangesOnly of (outside.state from.feed.outside.now) (outside.state last.outside.now)) (sym kept.are_open.output_role) beside.others) same read;
  }

-- ---- a line, from its start on

module _ {O : Type 0} {outside : OutsideGhosts O} (old : AlwaysReady O outside) (chain : Contents Row QueryParts) (trace output : TextStreamState) (goes : GoesWith holds chain (state_of {O = O} {outside = outside} old)) (are_open : AreOpen (roles_of {O = O} {outside = outside} old) trace output)
    (new : EventFeed O outside) (beside : ReadsBeside {O = O} {outside = outside} role.Trace old.feed new) (used : TextStreamState) (same : used.role ≡ trace.role) (read : IsReadOf used (outside.state new.outside.now used.role)) where
  -- its actor was read
  abbrev pub kept_maker : Kept {O = O} {outside = outside} old (over new) chain used output
  kept_maker = kept_trace {O = O} {outside = outside} old old chain trace output (record { same = outside_same old; goes = goes; are_open = are_open }) new beside used same read

  module _ (to : AlwaysReady O outside) (asked : (answers : List (Given Row)) × GoesOverAnswers (gives {O = O} {outside = outside}) (over new) answers to) (made : Contents Row QueryParts) (goes_on : GoesWith holds made (state_of {O = O} {outside = outside} to)) where
    -- its step was made
    abbrev pub kept_made : Kept {O = O} {outside = outside} old to made used output
    kept_made = kept_step {O = O} {outside = outside} old (over new) chain used output kept_maker to asked made goes_on

    -- its rest was read
    abbrev pub kept_rest : (last : EventFeed O outside) → ReadsBeside {O = O} {outside = outside} role.Trace to.feed last → (behind : TextStreamState) → behind.role ≡ used.role → IsReadOf behind (outside.state last.outside.now behind.role)
        → Kept {O = O} {outside = outside} old (over last) made behind output
    kept_rest last beside_last behind same_last read_last = kept_trace {O = O} {outside = outside} old to made used output kept_made last beside_last behind same_last read_last
