-- The end of a trace and of an output, read beside a feed.
use Rattle.std.proofs.Common.{◌≡◌, true, false, List, ℕ, is_some, take, sym, ap, subst, ◌∙◌}
use Rattle.std.specs.Prelude.{Err}
use Rattle.std.specs.declared.result.Result.{Result}
use Rattle.hj_value.specs.declared.field.Field.{Field}
use Rattle.hj_base.specs.declared.outside.Outside.{Ghosts as OutsideGhosts}
use Rattle.hj_base.specs.declared.outside.Role.{Role}
use Rattle.hj_base.specs.declared.outside.Role.TheVariants as role
use Rattle.hj_base.specs.Outside.{RoleState, ChangesOnly}
use Rattle.hj_query.specs.QueryParts.{QueryParts}
use Rattle.hj_eval.specs.Holds.{holds}
use Rattle.hj_msg.specs.Feed.{events_in, is_stop}
use Rattle.hj_chain.specs.Chain.{ChainState, Contents}
use Rattle.hj_chain.specs.Progress.{IsDone}
use Rattle.hj_chain.specs.Steps.{GoesWith}
use Rattle.hj_stream.specs.declared.feed.EventFeed.{EventFeed}
use Rattle.hj_stream.specs.Feeding.{Feeding}
use Rattle.hj_stream.specs.JoinText.{text}
use Rattle.hj_trace.specs.Stream.{TextStreamState, Uses}
use Rattle.hj_replay.specs.declared.ready.AlwaysReady.{AlwaysReady}
use Rattle.hj_replay.specs.Feeds.{SameOutside, state_of}
use Rattle.hj_verify.specs.declared.output.OutputCheck.{OutputCheck}
use Rattle.hj_verify.specs.declared.verdict.Verdict.{Verdict}
use Rattle.hj_verify.specs.Beside.{ReadsBeside}
use Rattle.hj_verify.specs.Checked.{Checking, ChecksAll, Concludes, feeding, fresh}
use Rattle.hj_verify.specs.Due.{GaveDue}
use Rattle.hj_verify.specs.Lines.{EndsTrace}
use Rattle.hj_verify.specs.Output.{OutputAgrees, EndsOutput}
use Rattle.hj_verify.specs.Reading.{GivesUp, IsUsedWhole, no_memory}
use Rattle.hj_verify.proofs.Advancing.{due_given_up, due_on}
use Rattle.hj_verify.proofs.Ending.{fails_of_streams, none_yet}
use Rattle.hj_verify.proofs.FeedBeside.{feeding_beside, outside_beside, outside_then, over}
use Rattle.hj_verify.proofs.Made.{given_up_going}
use Rattle.hj_verify.proofs.Stopping.{feed_given_up, trace_isnt_output}
use Rattle.hj_verify.proofs.Whole.{agrees_then, end_wrong, ends_checked}

abbrev Row : Type 0
Row = List Field

module _ {O : Type 0} {outside : OutsideGhosts O} (query : QueryParts) (n flight : ℕ) (start : Feeding) (number : ℕ) (chain : Contents Row QueryParts) (from : AlwaysReady O outside) (trace : TextStreamState) (output : OutputCheck)
    (under : Checking query n flight start number chain (feeding from) trace output) where
  -- there is no number for the next line
  pub numbers_end : (judged : Verdict) → judged ≡ no_memory → Concludes judged query n flight start (feeding from) trace output.stream
  numbers_end judged is =
      subst (λ (v : Verdict). Concludes v query n flight start (feeding from) trace output.stream) (sym is)
      (feed_given_up query n flight start (feeding from) trace output.stream under.fed (fails_of_streams under.fed.answers _ _ (none_yet start under.begun.going) under.fed.gave) under.lines under.trace_used under.agrees.same under.agrees.uses
      no_memory (given_up_going from.feed.ended under.going))

  -- the pairs that are due at the end were compared
  module _ (new : Contents Row QueryParts) (compared : OutputCheck) (second : EventFeed O outside) (beside : ReadsBeside {O = O} {outside = outside} role.Output from.feed second) (state : new.state ≡ chain.state) (join : new.join ≡ chain.join) where
    abbrev roles_second : Role → RoleState
    roles_second = outside.state second.outside.now

    abbrev seen_second : Feeding
    seen_second = record (feeding from) { roles = roles_second }

    changes_second : ChangesOnly output.stream.role (feeding from).roles roles_second
    changes_second = subst (λ (of : Role). ChangesOnly of (feeding from).roles roles_second) (sym under.agrees.uses.role) beside.others

    is_second : feeding (over second) ≡ seen_second
    is_second = feeding_beside role.Output from.feed second beside

    -- nothing was read of the trace
    pub trace_used_second : Uses false under.lines (fresh role.Trace) (start.roles role.Trace) trace (roles_second trace.role)
    trace_used_second =
        subst (λ (s : RoleState). Uses false under.lines (fresh role.Trace) (start.roles role.Trace) trace s)
        (sym (ap roles_second under.trace_used.role ∙ (beside.others role.Trace trace_isnt_output ∙ sym (ap (feeding from).roles under.trace_used.role)))) under.trace_used

    pub due_ends : (judged : Verdict) → GivesUp judged role.Output (fresh role.Output) (start.roles role.Output) compared.stream (roles_second compared.stream.role) → Concludes judged query n flight start (feeding (over second)) trace compared.stream
    due_ends judged gives =
        subst (λ (f : Feeding). Concludes judged query n flight start f trace compared.stream) (sym is_second)
        (due_given_up query n flight start number chain new (feeding from) trace output compared under roles_second changes_second state join judged gives)

    -- the end of the trace was looked for
    module _ (done : IsDone chain.state) (goes : GoesWith holds chain (state_of from)) (due : GaveDue new under.schedule (events_in under.fed.answers) under.pairs (fresh role.Output) (start.roles role.Output) compared (roles_second compared.stream.role))
        (used : TextStreamState) (third : EventFeed O outside) (behind : ReadsBeside {O = O} {outside = outside} role.Trace second third) where
      abbrev under_second : Checking query n flight start number new seen_second trace compared
      under_second = due_on query n flight start number chain new (feeding from) trace output compared under roles_second changes_second state join due

      done_second : IsDone new.state
      done_second = subst (λ (s : ChainState Row). IsDone s) (sym state) done

      stopped_second : is_stop new.state.next ≡ true → is_some from.feed.ended ≡ true
      stopped_second stop = goes.stopped (sym (ap (λ (s : ChainState Row). is_stop s.next) state) ∙ stop)

      abbrev roles_third : Role → RoleState
      roles_third = outside.state third.outside.now

      changes_third : ChangesOnly trace.role roles_second roles_third
      changes_third = subst (λ (of : Role). ChangesOnly of roles_second roles_third) (sym under.trace_used.role) behind.others

      is_third : feeding (over third) ≡ record (feeding from) { roles = roles_third }
      is_third = feeding_beside role.Trace second third behind ∙ ap (λ (f : Feeding). record f { roles = roles_third }) is_second

      pub trace_ends_wrong : (judged : Verdict) → EndsTrace (Err judged) number under.lines (fresh role.Trace) (start.roles role.Trace) used (roles_third used.role) → Concludes judged query n flight start (feeding (over third)) used compared.stream
      trace_ends_wrong judged ends =
          subst (λ (f : Feeding). Concludes judged query n flight start f used compared.stream) (sym is_third)
          (end_wrong query n flight start number new seen_second trace compared under_second done_second stopped_second roles_third changes_third used judged ends)

      pub agrees_third : OutputAgrees (text (take due.given under.pairs)) (fresh role.Output) (start.roles role.Output) compared (roles_third compared.stream.role)
      agrees_third = agrees_then query n flight start number new seen_second trace compared under_second done_second stopped_second roles_third changes_third used

      -- and so was that of the output
      module _ (whole : IsUsedWhole under.lines (fresh role.Trace) (start.roles role.Trace) used (roles_third used.role)) (stream : TextStreamState) (fourth : EventFeed O outside) (last : ReadsBeside {O = O} {outside = outside} role.Output third fourth) where
        abbrev roles_fourth : Role → RoleState
        roles_fourth = outside.state fourth.outside.now

        changes_fourth : ChangesOnly compared.stream.role roles_third roles_fourth
        changes_fourth = subst (λ (of : Role). ChangesOnly of roles_third roles_fourth) (sym due.agrees.uses.role) last.others

        is_fourth : feeding (over fourth) ≡ record (feeding from) { roles = roles_fourth }
        is_fourth = feeding_beside role.Output third fourth last ∙ ap (λ (f : Feeding). record f { roles = roles_fourth }) is_third

        pub all_ends : (result : Result (Unit {0}) Verdict) → EndsOutput result (text (take due.given under.pairs)) (fresh role.Output) (start.roles role.Output) stream (roles_fourth stream.role) → ChecksAll result query n flight start (feeding (over fourth)) used stream
        all_ends result ends =
            subst (λ (f : Feeding). ChecksAll result query n flight start f used stream) (sym is_fourth)
            (ends_checked query n flight start number new seen_second trace compared under_second done_second stopped_second roles_third changes_third used whole due.none_due roles_fourth changes_fourth stream result ends)

-- the outside stays the same one
module _ {O : Type 0} {outside : OutsideGhosts O} (first second third fourth : EventFeed O outside) where
  pub outside_twice : (a b : Role) → ReadsBeside {O = O} {outside = outside} a first second → ReadsBeside {O = O} {outside = outside} b second third → SameOutside {O = O} {outside = outside} (over first) (over third)
  outside_twice a b one two = outside_then (over first) (over second) (over third) (outside_beside a first second one) (outside_beside b second third two)

  pub outside_thrice : (a b c : Role) → ReadsBeside {O = O} {outside = outside} a first second → ReadsBeside {O = O} {outside = outside} b second third → ReadsBeside {O = O} {outside = outside} c third fourth → SameOutside {O = O} {outside = outside} (over first) (over fourth)
  outside_thrice a b c one two three = outside_then (over first) (over third) (over fourth) (outside_twice a b one two) (outside_beside c third fourth three)
