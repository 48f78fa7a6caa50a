-- A line of a trace that is checked over a feed: what is read beside it, and the step.
use Rattle.std.proofs.Common.{◌≡◌, ◌+◌, ◌<◌, true, false, List, [], ◌∷◌, ◌++◌, ℕ, sym, ap, subst, subst₂, ◌∙◌}
use Rattle.std.specs.Prelude.{IfSome, Ok, Err}
use Rattle.std.specs.declared.result.Result.{Result}
use Rattle.hj_value.specs.declared.field.Field.{Field}
use Rattle.hj_base.specs.declared.outside.Outside.{Ghosts as OutsideGhosts}
use Rattle.hj_base.specs.declared.outside.Role.{Role}
use Rattle.hj_base.specs.declared.outside.Role.TheVariants as role
use Rattle.hj_base.specs.Outside.{RoleState, ChangesOnly}
use Rattle.hj_query.specs.QueryParts.{QueryParts}
use Rattle.hj_eval.specs.Holds.{holds}
use Rattle.hj_msg.specs.declared.feed.Given.{Given}
use Rattle.hj_msg.specs.Feed.{Answers, FeedState, GoesOverAnswers, events_in}
use Rattle.hj_chain.specs.declared.actor.Actor.{Actor}
use Rattle.hj_chain.specs.declared.actor.Stepped.TheVariants as stepped
use Rattle.hj_chain.specs.Chain.{ChainState, Contents}
use Rattle.hj_chain.specs.Progress.{IsDone}
use Rattle.hj_chain.specs.Steps.{GoesWith, Steps, was_asked}
use Rattle.hj_chain.proofs.SerialRuns.{fewer-left}
use Rattle.hj_stream.specs.declared.feed.EventFeed.{EventFeed}
use Rattle.hj_stream.specs.Feeding.{Feeding}
use Rattle.hj_trace.specs.declared.fault.TraceFault.TheVariants as fault
use Rattle.hj_trace.specs.Actors.{actor_text}
use Rattle.hj_trace.specs.Stream.{TextStreamState, Uses}
use Rattle.hj_replay.specs.declared.ready.AlwaysReady.{AlwaysReady}
use Rattle.hj_replay.specs.Feeds.{gives, state_of}
use Rattle.hj_verify.specs.declared.output.OutputCheck.{OutputCheck}
use Rattle.hj_verify.specs.declared.verdict.Verdict.{Verdict}
use Rattle.hj_verify.specs.declared.verdict.Verdict.TheVariants as verdict
use Rattle.hj_verify.specs.Beside.{ReadsBeside}
use Rattle.hj_verify.specs.Checked.{Checking, ChecksLine, Concludes, feeding, fresh, steps_left}
use Rattle.hj_verify.specs.Due.{ChecksDue}
use Rattle.hj_verify.specs.Lines.{ReadsMaker, ReadsRest}
use Rattle.hj_verify.specs.Making.{Made, MakesStep}
use Rattle.hj_verify.proofs.Advancing.{OnLine, answers, due_given_up, due_on, next_line, on_line, rest_wrong, step_given_up, went}
use Rattle.hj_verify.proofs.Ending.{trace_stays}
use Rattle.hj_verify.proofs.FeedBeside.{feeding_beside, over, state_beside}
use Rattle.hj_verify.proofs.Stopping.{maker_disabled, maker_wrong}

abbrev Row : Type 0
Row = List Field

-- ---- the trace was read where a line begins

module _ {O : Type 0} {outside : OutsideGhosts O} (query : QueryParts) (n flight : ℕ) (start : Feeding) (number : ℕ) (chain : Contents Row QueryParts) (from : AlwaysReady O outside) (trace : TextStreamState) (output : OutputCheck)
    (under : Checking query n flight start number chain (feeding from) trace output) (new : EventFeed O outside) (beside : ReadsBeside {O = O} {outside = outside} role.Trace from.feed new) (used : TextStreamState) where
  abbrev then_roles : Role → RoleState
  then_roles = outside.state new.outside.now

  abbrev here : AlwaysReady O outside
  here = over new

  changes : ChangesOnly trace.role (feeding from).roles then_roles
  changes = subst (λ (of : Role). ChangesOnly of (feeding from).roles then_roles) (sym under.trace_used.role) beside.others

  seen_there : feeding here ≡ record (feeding from) { roles = then_roles }
  seen_there = feeding_beside role.Trace from.feed new beside

  pub maker_stops : (IsDone chain.state → ⊥) → (judged : Verdict) → ReadsMaker (Err judged) number under.lines (fresh role.Trace) (start.roles role.Trace) used (then_roles used.role) → Concludes judged query n flight start (feeding here) used output.stream
  maker_stops not_done judged reads =
      subst (λ (f : Feeding). Concludes judged query n flight start f used output.stream) (sym seen_there) (maker_wrong query n flight start number chain (feeding from) trace output under then_roles changes not_done judged used reads)

  module _ (actor : Actor) (reads : ReadsMaker (Ok actor) number under.lines (fresh role.Trace) (start.roles role.Trace) used (then_roles used.role)) where
    pub maker_there : OnLine query n flight start number chain (feeding here) actor used output
    maker_there =
        subst (λ (f : Feeding). OnLine query n flight start number chain f actor used output) (sym seen_there) (on_line query n flight start number chain (feeding from) trace output under then_roles changes actor used reads.0 reads.1)

    module _ (not_done : IsDone chain.state → ⊥) (made : Contents Row QueryParts) (to : AlwaysReady O outside) (line : List ℕ) (asked : (given : List (Given Row)) × GoesOverAnswers (gives {O = O} {outside = outside}) here given to) where
      disabled : (at : ℕ) → MakesStep {O = O} {outside = outside} (Err (verdict.Refused (fault.NotEnabled at))) number actor chain made here to line → Concludes (verdict.Refused (fault.NotEnabled at)) query n flight start (feeding to) used output.stream
      disabled at so =
          subst (λ (f : AlwaysReady O outside). Concludes (verdict.Refused (fault.NotEnabled at)) query n flight start (feeding f) used output.stream) (sym so.feed)
          (subst (λ (f : Feeding). Concludes (verdict.Refused (fault.NotEnabled at)) query n flight start f used output.stream) (sym seen_there)
          (maker_disabled query n flight start number chain (feeding from) trace output under then_roles changes not_done actor used at so.at_is reads.0 so.disabled reads.1))

      pub step_stops : (judged : Verdict) → MakesStep {O = O} {outside = outside} (Err judged) number actor chain made here to line → Concludes judged query n flight start (feeding to) used output.stream
      step_stops (verdict.Accepted events) so = step_given_up query n flight start number chain here to actor used output maker_there asked (verdict.Accepted events) so
      step_stops (verdict.Refused (fault.Form at)) so = step_given_up query n flight start number chain here to actor used output maker_there asked (verdict.Refused (fault.Form at)) so
      step_stops (verdict.Refused (fault.NotEnabled at)) so = disabled at so
      step_stops (verdict.Refused (fault.Text at)) so = step_given_up query n flight start number chain here to actor used output maker_there asked (verdict.Refused (fault.Text at)) so
      step_stops (verdict.Refused (fault.Early at)) so = step_given_up query n flight start number chain here to actor used output maker_there asked (verdict.Refused (fault.Early at)) so
      step_stops (verdict.Refused (fault.Late at)) so = step_given_up query n flight start number chain here to actor used output maker_there asked (verdict.Refused (fault.Late at)) so
      step_stops (verdict.Refused (fault.Output at)) so = step_given_up query n flight start number chain here to actor used output maker_there asked (verdict.Refused (fault.Output at)) so
      step_stops (verdict.Ended made_so) so = step_given_up query n flight start number chain here to actor used output maker_there asked (verdict.Ended made_so) so

-- ---- the step was made

module _ {O : Type 0} {outside : OutsideGhosts O} (query : QueryParts) (n flight : ℕ) (start : Feeding) (number : ℕ) (chain new : Contents Row QueryParts) (from to : AlwaysReady O outside) (actor : Actor) (trace : TextStreamState) (output : OutputCheck)
    (on : OnLine query n flight start number chain (feeding from) actor trace output) (line : List ℕ) (made : Made {O = O} {outside = outside} actor chain new from to line) where
  abbrev behind : List ℕ
  behind = on.so.lines ++ (actor_text actor ++ 44 ∷ [])

  -- the step read nothing of the trace
  pub maker_still : Uses false behind (fresh role.Trace) (start.roles role.Trace) trace ((feeding to).roles trace.role)
  maker_still =
      let stays : (feeding to).roles trace.role ≡ (feeding from).roles trace.role =
      ap (feeding to).roles on.so.trace_used.role ∙ (trace_stays start from to (answers actor chain new from to line made) (went actor chain new from to line made) ∙ sym (ap (feeding from).roles on.so.trace_used.role)) in
      subst (λ (s : RoleState). Uses false behind (fresh role.Trace) (start.roles role.Trace) trace s) (sym stays) on.so.trace_used

  -- the rest of the line was read
  module _ (last : EventFeed O outside) (beside : ReadsBeside {O = O} {outside = outside} role.Trace to.feed last) (used : TextStreamState) where
    abbrev last_roles : Role → RoleState
    last_roles = outside.state last.outside.now

    rest_seen : feeding (over last) ≡ record (feeding to) { roles = last_roles }
    rest_seen = feeding_beside role.Trace to.feed last beside

    pub rest_stops : (IsDone chain.state → ⊥) → (judged : Verdict) → ReadsRest (Err judged) line number behind (fresh role.Trace) (start.roles role.Trace) used (last_roles used.role) → Concludes judged query n flight start (feeding (over last)) used output.stream
    rest_stops not_done judged reads =
        subst (λ (f : Feeding). Concludes judged query n flight start f used output.stream) (sym rest_seen) (rest_wrong query n flight start number chain new from to actor trace output on line made last_roles beside.others used not_done judged reads)

    pub rest_there : new.join ≡ chain.join → GoesWith holds chain (state_of from) → Uses false (behind ++ line) (fresh role.Trace) (start.roles role.Trace) used (last_roles used.role) → Checking query n flight start (number + 1) new (feeding (over last)) used output
    rest_there join goes uses =
        subst (λ (f : Feeding). Checking query n flight start (number + 1) new f used output) (sym rest_seen) (next_line query n flight start number chain new from to actor trace output on line made last_roles beside.others used join goes uses)

-- a line was read beside the feed, and its step was made between the two reads
pub whole_line : {O : Type 0} {outside : OutsideGhosts O} (query : QueryParts) (n flight : ℕ) (start : Feeding) (number : ℕ) (chain new : Contents Row QueryParts) (from to : AlwaysReady O outside) (trace : TextStreamState) (output : OutputCheck)
    (under : Checking query n flight start number chain (feeding from) trace output) (first : EventFeed O outside) → ReadsBeside {O = O} {outside = outside} role.Trace from.feed first → (there : TextStreamState) (actor : Actor)
    → ReadsMaker (Ok actor) number under.lines (fresh role.Trace) (start.roles role.Trace) there (outside.state first.outside.now there.role)
    → (line said : List ℕ) → Made {O = O} {outside = outside} actor chain new (over first) to line → said ≡ line → new.join ≡ chain.join → GoesWith holds chain (state_of {O = O} {outside = outside} (over first))
    → (last : EventFeed O outside) → ReadsBeside {O = O} {outside = outside} role.Trace to.feed last → (used : TextStreamState)
    → ((text : List ℕ) → Uses false text (fresh role.Trace) (start.roles role.Trace) there ((feeding to).roles there.role) → Uses false (text ++ said) (fresh role.Trace) (start.roles role.Trace) used (outside.state last.outside.now used.role))
    → Checking query n flight start (number + 1) new (feeding (over last)) used output
whole_line {O} {outside} query n flight start number chain new from to trace output under first front there actor reads line said made same join goes last back used rest =
    let on = maker_there {O = O} {outside = outside} query n flight start number chain from trace output under first front there actor reads in
    let still = maker_still {O = O} {outside = outside} query n flight start number chain new (over first) to actor there output on line made in
    rest_there {O = O} {outside = outside} query n flight start number chain new (over first) to actor there output on line made last back used join goes
    (subst (λ (l : List ℕ). Uses false ((on.so.lines ++ (actor_text actor ++ 44 ∷ [])) ++ l) (fresh role.Trace) (start.roles role.Trace) used (outside.state last.outside.now used.role)) same (rest _ still))

-- ---- the pairs that are due were compared

module _ {O : Type 0} {outside : OutsideGhosts O} (query : QueryParts) (n flight : ℕ) (start : Feeding) (number : ℕ) (chain new : Contents Row QueryParts) (from : AlwaysReady O outside) (trace : TextStreamState) (output compared : OutputCheck)
    (under : Checking query n flight start (number + 1) chain (feeding from) trace output) (last : EventFeed O outside) (beside : ReadsBeside {O = O} {outside = outside} role.Output from.feed last) (state : new.state ≡ chain.state) (join : new.join ≡ chain.join) where
  abbrev due_roles : Role → RoleState
  due_roles = outside.state last.outside.now

  due_changes : ChangesOnly output.stream.role (feeding from).roles due_roles
  due_changes = subst (λ (of : Role). ChangesOnly of (feeding from).roles due_roles) (sym under.agrees.uses.role) beside.others

  due_seen : feeding (over last) ≡ record (feeding from) { roles = due_roles }
  due_seen = feeding_beside role.Output from.feed last beside

  pub due_line : (result : Result (Unit {0}) Verdict) → ChecksDue result new under.schedule (events_in under.fed.answers) under.pairs (fresh role.Output) (start.roles role.Output) compared (due_roles compared.stream.role)
      → ChecksLine result query n flight start number new (feeding (over last)) trace compared
  due_line (Ok unit) due =
      subst (λ (f : Feeding). Checking query n flight start (number + 1) new f trace compared) (sym due_seen) (due_on query n flight start (number + 1) chain new (feeding from) trace output compared under due_roles due_changes state join due)
  due_line (Err judged) due =
      subst (λ (f : Feeding). Concludes judged query n flight start f trace compared.stream) (sym due_seen) (due_given_up query n flight start (number + 1) chain new (feeding from) trace output compared under due_roles due_changes state join judged due)

-- ---- the chain and its feed

module _ {O : Type 0} {outside : OutsideGhosts O} (of : Role) (chain : Contents Row QueryParts) (from : AlwaysReady O outside) (new : EventFeed O outside) (beside : ReadsBeside {O = O} {outside = outside} of from.feed new) where
  pub goes_beside : GoesWith holds chain (state_of from) → GoesWith holds chain (state_of {O = O} {outside = outside} (over new))
  goes_beside goes = subst (λ (s : FeedState). GoesWith holds chain s) (sym (state_beside of from.feed new beside)) goes

-- a step was made between two reads, so fewer are left
pub line_fewer : {O : Type 0} {outside : OutsideGhosts O} (chain new : Contents Row QueryParts) (actor : Actor) (before : AlwaysReady O outside) (first : EventFeed O outside) (to : AlwaysReady O outside) (last : EventFeed O outside) → ReadsBeside {O = O} {outside = outside} role.Trace before.feed first
    → ReadsBeside {O = O} {outside = outside} role.Trace to.feed last → GoesWith holds chain (state_of before) → Steps (gives {O = O} {outside = outside}) (λ _. true) (holds chain.join) actor chain.state (over first) stepped.Did new.state to
    → (was_asked actor chain.state.next true stepped.Did ≡ true → IfSome new.state.next (λ given. Answers given (state_of {O = O} {outside = outside} (over first)) (state_of to)))
    → steps_left new.state (state_of {O = O} {outside = outside} (over last)) < steps_left chain.state (state_of before)
line_fewer {O} {outside} chain new actor before first to last front back goes step answers =
    subst₂ (λ (a b : FeedState). steps_left new.state a < steps_left chain.state b) (sym (state_beside role.Trace to.feed last back)) (state_beside role.Trace before.feed first front)
    (fewer-left (gives {O = O} {outside = outside}) (λ _. true) state_of holds chain new actor (over first) to (goes_beside role.Trace chain before first front goes) step answers)

-- the pairs that are due are no steps
pub due_fewer : (chain new : ChainState Row) (feed last : FeedState) (most : ℕ) → new ≡ chain → last ≡ feed → steps_left chain feed < most → steps_left new last < most
due_fewer chain new feed last most same beside fewer = subst₂ (λ (c : ChainState Row) (f : FeedState). steps_left c f < most) (sym same) (sym beside) fewer
