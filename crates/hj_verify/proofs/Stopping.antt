-- A check that ends with a verdict, at each of the places where it may.
use Rattle.std.proofs.Common.{◌≡◌, ◌≢◌, ◌+◌, Bool, true, false, List, [], ◌∷◌, ◌++◌, ℕ, length, None, Some, is_some, refl, sym, ap, subst, ◌∙◌, append_assoc, append-nil, true≢false}
use Rattle.std.specs.Prelude.{◌↔◌, MatchBool, Err}
use Rattle.hj_value.specs.declared.field.Field.{Field}
use Rattle.hj_base.specs.declared.outside.Role.{Role}
use Rattle.hj_base.specs.declared.outside.Role.TheVariants as role
use Rattle.hj_base.specs.Outside.{RoleState, ChangesOnly}
use Rattle.hj_query.specs.QueryParts.{QueryParts}
use Rattle.hj_eval.specs.Holds.{holds}
use Rattle.hj_msg.specs.Feed.{events_in}
use Rattle.hj_chain.specs.declared.actor.Actor.{Actor}
use Rattle.hj_chain.specs.Chain.{ChainState, Contents, cause}
use Rattle.hj_chain.specs.Progress.{IsDone}
use Rattle.hj_stream.specs.declared.outcome.Outcome.{Outcome}
use Rattle.hj_stream.specs.declared.outcome.Outcome.TheVariants as outcome
use Rattle.hj_stream.specs.Feeding.{Feeding}
use Rattle.hj_stream.specs.JoinText.{text_of}
use Rattle.hj_trace.specs.declared.fault.TraceFault.{TraceFault}
use Rattle.hj_trace.specs.declared.fault.TraceFault.TheVariants as fault
use Rattle.hj_trace.specs.Actors.{IsNumbered, actor_text}
use Rattle.hj_trace.specs.Checking.{Breaks, Stands}
use Rattle.hj_trace.specs.Play.{Playing}
use Rattle.hj_trace.specs.Stream.{TextStreamState, Uses}
use Rattle.hj_replay.specs.Feeds.{MayCome}
use Rattle.hj_verify.specs.declared.output.OutputCheck.{OutputCheck}
use Rattle.hj_verify.specs.declared.verdict.Verdict.{Verdict}
use Rattle.hj_verify.specs.declared.verdict.Verdict.TheVariants as verdict
use Rattle.hj_verify.specs.Checked.{Checking, Concludes, Events, GaveAnswers, FailsSo, IsChecked, IsStreamRole, LeadTo, fresh, has_failed}
use Rattle.hj_verify.specs.Lines.{ReadsMaker}
use Rattle.hj_verify.specs.Making.{IsGivenUp}
use Rattle.hj_verify.specs.Reading.{GivesUp, fault_of, no_memory}
use Rattle.hj_verify.proofs.Ending.{FailsOfStreams, came_is, ends_there, fed_read, memory_apart, not_stream, other_role, read_failed, read_on, refused_apart, same_role, streams_go}
use Rattle.hj_verify.proofs.Lists.{front_empty, regroup}

stream_checked : (of : Role) → IsStreamRole of → IsChecked of
stream_checked role.Query is = absurd is
stream_checked role.SecondQuery is = absurd is
stream_checked role.Left is = tt
stream_checked role.Right is = tt
stream_checked role.Third is = absurd is
stream_checked role.Trace is = absurd is
stream_checked role.Output is = absurd is

pub trace_isnt_output : role.Trace ≢ role.Output
trace_isnt_output e = let wrong : role.Trace ≡ role.Output = e in cc

pub output_isnt_trace : role.Output ≢ role.Trace
output_isnt_trace e = let wrong : role.Output ≡ role.Trace = e in cc

-- ---- the events failed, or memory ran out

module _ (query : QueryParts) (n flight : ℕ) (start now : Feeding) (trace output : TextStreamState) (fed : GaveAnswers start now)
    (lines : List ℕ) (trace_used : Uses false lines (fresh role.Trace) (start.roles role.Trace) trace (now.roles trace.role))
    (same : List ℕ) (output_used : Uses false same (fresh role.Output) (start.roles role.Output) output (now.roles output.role)) where
  pub by_memory : ((of : Role) → IsStreamRole of → (now.ended ≡ Some (outcome.SourceFault of)) ↔ (no_memory ≡ fault_of of)) → Concludes no_memory query n flight start now trace output
  by_memory tells = record {
    fed = fed;
    streams = tells;
    trace_read = read_on no_memory role.Trace (start.roles role.Trace) trace (now.roles trace.role) (memory_apart role.Trace) lines trace_used;
    output_read = read_on no_memory role.Output (start.roles role.Output) output (now.roles output.role) (memory_apart role.Output) same output_used;
    says = λ more t o may ends also. tt;
  }

module _ (query : QueryParts) (n flight : ℕ) (start now : Feeding) (trace output : TextStreamState) (fed : GaveAnswers start now) (streams : FailsOfStreams now.ended)
    (lines : List ℕ) (trace_used : Uses false lines (fresh role.Trace) (start.roles role.Trace) trace (now.roles trace.role))
    (same : List ℕ) (output_used : Uses false same (fresh role.Output) (start.roles role.Output) output (now.roles output.role)) where
  by_stream : (of : Role) → now.ended ≡ Some (outcome.SourceFault of) → Concludes (fault_of of) query n flight start now trace output
  by_stream of is =
      let here = streams of is in
      record {
        fed = fed;
        streams = λ other stream. (
          λ e. let same_fault : Some (outcome.SourceFault of) ≡ Some (outcome.SourceFault other) = sym is ∙ e in cc,
          λ e. is ∙ ap (λ (r : Role). Some (outcome.SourceFault r)) (same_role of other e),
        );
        trace_read = read_on (fault_of of) role.Trace (start.roles role.Trace) trace (now.roles trace.role) (λ e. subst IsStreamRole (same_role of role.Trace e) here) lines trace_used;
        output_read = read_on (fault_of of) role.Output (start.roles role.Output) output (now.roles output.role) (λ e. subst IsStreamRole (same_role of role.Output e) here) same output_used;
        says = λ more t o may ends also. stream_checked of here;
      }

  by_end : (made : Outcome) → now.ended ≡ Some made → has_failed (Some made) ≡ true → Concludes (verdict.Ended made) query n flight start now trace output
  by_end (outcome.Done events) is failed = absurd (true≢false (sym failed))
  by_end (outcome.Bad side at why) is failed = absurd (true≢false (sym failed))
  by_end (outcome.SourceFault of) is failed = by_stream of is
  by_end outcome.SinkFault is failed = absurd (true≢false (sym failed))
  by_end outcome.TooMany is failed = absurd (true≢false (sym failed))
  by_end outcome.Memory is failed =
      by_memory query n flight start now trace output fed lines trace_used same output_used (λ of stream. (λ e. absurd (let wrong : Some outcome.Memory ≡ Some (outcome.SourceFault of) = sym is ∙ e in cc), λ e. absurd (memory_apart of e)))

  pub feed_fails : (judged : Verdict) → FailsSo now.ended judged → Concludes judged query n flight start now trace output
  feed_fails judged fails =
      subst (λ (v : Verdict). Concludes v query n flight start now trace output) (sym fails.judged_is) (by_end fails.made fails.ended_is (sym (ap has_failed fails.ended_is) ∙ fails.failed))

  given_up : (judged : Verdict) (b : Bool) → has_failed now.ended ≡ b → MatchBool b (FailsSo now.ended judged) (judged ≡ no_memory) → Concludes judged query n flight start now trace output
  given_up judged true is so = feed_fails judged so
  given_up judged false is so = subst (λ (v : Verdict). Concludes v query n flight start now trace output) (sym so) (by_memory query n flight start now trace output fed lines trace_used same output_used (streams_go no_memory now.ended is (λ of stream. memory_apart of)))

  pub feed_given_up : (judged : Verdict) → IsGivenUp now.ended judged → Concludes judged query n flight start now trace output
  feed_given_up judged so = given_up judged (has_failed now.ended) refl so

-- ---- one of the two that are compared was read

-- the other one stays as it was
used_still : (of : Role) (bytes : List ℕ) (before : RoleState) (stream : TextStreamState) (old new : Role → RoleState) → new of ≡ old of → Uses false bytes (fresh of) before stream (old stream.role)
    → Uses false bytes (fresh of) before stream (new stream.role)
used_still of bytes before stream old new same uses =
    let stays : new stream.role ≡ old stream.role = ap new uses.role ∙ (same ∙ sym (ap old uses.role)) in
    subst (λ (s : RoleState). Uses false bytes (fresh of) before stream s) (sym stays) uses

-- who gives up saw a read fail, or memory run out
gave_up : (of : Role) (before : RoleState) (used : TextStreamState) (now : RoleState) (Claim : Verdict → Type 0)
    → ((bytes : List ℕ) → Uses true bytes (fresh of) before used now → Claim (fault_of of)) → ((bytes : List ℕ) → Uses false bytes (fresh of) before used now → Claim no_memory)
    → (judged : Verdict) → GivesUp judged of (fresh of) before used now → Claim judged
gave_up of before used now Claim failed memory (verdict.Accepted events) gives = absurd gives
gave_up of before used now Claim failed memory (verdict.Refused found) gives = absurd gives
gave_up of before used now Claim failed memory (verdict.Ended (outcome.Done events)) gives = absurd gives
gave_up of before used now Claim failed memory (verdict.Ended (outcome.Bad side at why)) gives = absurd gives
gave_up of before used now Claim failed memory (verdict.Ended (outcome.SourceFault found)) gives = subst (λ (r : Role). Claim (fault_of r)) (sym gives.0) (failed gives.1 gives.2)
gave_up of before used now Claim failed memory (verdict.Ended outcome.SinkFault) gives = absurd gives
gave_up of before used now Claim failed memory (verdict.Ended outcome.TooMany) gives = absurd gives
gave_up of before used now Claim failed memory (verdict.Ended outcome.Memory) gives = memory gives.0 gives.1

-- ---- the trace was read

module _ (query : QueryParts) (n flight : ℕ) (start now : Feeding) (fed : GaveAnswers start now) (going : has_failed now.ended ≡ false)
    (output : TextStreamState) (same : List ℕ) (output_used : Uses false same (fresh role.Output) (start.roles role.Output) output (now.roles output.role))
    (roles : Role → RoleState) (changes : ChangesOnly role.Trace now.roles roles) where
  output_after : Uses false same (fresh role.Output) (start.roles role.Output) output (roles output.role)
  output_after = used_still role.Output same (start.roles role.Output) output now.roles roles (changes role.Output output_isnt_trace) output_used

  abbrev pub fed_there : GaveAnswers start (record now { roles = roles })
  fed_there = fed_read start now role.Trace roles fed tt (λ e. e) changes

  -- a read of it failed, or memory ran out
  pub trace_gives_up : (judged : Verdict) (used : TextStreamState) → GivesUp judged role.Trace (fresh role.Trace) (start.roles role.Trace) used (roles used.role) → Concludes judged query n flight start (record now { roles = roles }) used output
  trace_gives_up judged used gives =
      gave_up role.Trace (start.roles role.Trace) used (roles used.role) (λ (v : Verdict). Concludes v query n flight start (record now { roles = roles }) used output)
      (λ bytes uses. record {
        fed = fed_there;
        streams = streams_go (fault_of role.Trace) now.ended going (λ of is. not_stream role.Trace of (λ e. e) is);
        trace_read = read_failed role.Trace (start.roles role.Trace) used (roles used.role) bytes uses;
        output_read = read_on (fault_of role.Trace) role.Output (start.roles role.Output) output (roles output.role) (other_role role.Trace role.Output trace_isnt_output) same output_after;
        says = λ more t o may ends also. tt;
      })
      (λ bytes uses. by_memory query n flight start (record now { roles = roles }) used output fed_there bytes uses same output_after (streams_go no_memory now.ended going (λ of is. memory_apart of)))
      judged gives

  -- something is wrong with it, whatever events come behind those that came
  pub trace_refused : (found : TraceFault) (used : TextStreamState) (bytes : List ℕ) → Uses false bytes (fresh role.Trace) (start.roles role.Trace) used (roles used.role)
      → ((more : Events) (t o : List ℕ) → MayCome now.ended more → (used.ended ≡ true → t ≡ []) → Stands (holds query) found n flight (events_in fed.answers ++ more) ((bytes ++ used.unused) ++ t) o (text_of query (events_in fed.answers ++ more)))
      → Concludes (verdict.Refused found) query n flight start (record now { roles = roles }) used output
  trace_refused found used bytes uses stands =
      let output_read = read_on (verdict.Refused found) role.Output (start.roles role.Output) output (roles output.role) (refused_apart found role.Output) same output_after in
      record {
        fed = fed_there;
        streams = streams_go (verdict.Refused found) now.ended going (λ of is. refused_apart found of);
        trace_read = read_on (verdict.Refused found) role.Trace (start.roles role.Trace) used (roles used.role) (refused_apart found role.Trace) bytes uses;
        output_read = output_read;
        says = λ more t o may ends also.
            let all = events_in fed.answers ++ more in
            subst (λ (l : List ℕ). Stands (holds query) found n flight all (l ++ t) (output_read.uses.came ++ o) (text_of query all)) (sym (came_is false role.Trace bytes (start.roles role.Trace) used (roles used.role) uses))
            (stands more t (output_read.uses.came ++ o) may ends);
      }

-- behind the lines of steps this is wrong
pub stands_there : (query : QueryParts) (n flight : ℕ) (events : Events) (ended : Bool) (schedule : List Actor) (chain : ChainState (List Field)) (lines : List ℕ) → LeadTo query n flight events ended schedule chain lines
    → (more : Events) → (ended ≡ true → more ≡ []) → (found : TraceFault) (rest trace output text : List ℕ) → trace ≡ lines ++ rest
    → Breaks (holds query) found (length schedule + 1) (record { chain = chain; coming = more }) rest output text → Stands (holds query) found n flight (events ++ more) trace output text
stands_there query n flight events ended schedule chain lines steps more fits found rest trace output text is breaks = record {
  schedule = schedule;
  enabled = steps.enabled more fits;
  rest = rest;
  trace_is = is ∙ ap (λ (l : List ℕ). l ++ rest) (sym (steps.text_is more fits));
  breaks = subst (λ (p : Playing (List Field)). Breaks (holds query) found (length schedule + 1) p rest output text) (sym (steps.played_is more fits)) breaks;
}

-- ---- where a line begins

module _ (query : QueryParts) (n flight : ℕ) (start : Feeding) (number : ℕ) (chain : Contents (List Field) QueryParts) (now : Feeding) (trace : TextStreamState) (output : OutputCheck) (under : Checking query n flight start number chain now trace output)
    (roles : Role → RoleState) (changes : ChangesOnly trace.role now.roles roles) where
  only_trace : ChangesOnly role.Trace now.roles roles
  only_trace = subst (λ (of : Role). ChangesOnly of now.roles roles) under.trace_used.role changes

  pub refused : (found : TraceFault) (used : TextStreamState) (bytes : List ℕ) → Uses false (under.lines ++ bytes) (fresh role.Trace) (start.roles role.Trace) used (roles used.role)
      → ((more : Events) (t o : List ℕ) → (used.ended ≡ true → t ≡ [])
      → Breaks (holds query) found (length under.schedule + 1) (record { chain = chain.state; coming = more }) (bytes ++ (used.unused ++ t)) o (text_of query (events_in under.fed.answers ++ more)))
      → Concludes (verdict.Refused found) query n flight start (record now { roles = roles }) used output.stream
  refused found used bytes uses breaks =
      trace_refused query n flight start now under.fed under.going output.stream under.agrees.same under.agrees.uses roles only_trace found used (under.lines ++ bytes) uses
      (λ more t o may ends.
      stands_there query n flight (events_in under.fed.answers) (is_some now.ended) under.schedule chain.state under.lines under.steps more (ends_there now.ended under.going more may) found (bytes ++ (used.unused ++ t))
      (((under.lines ++ bytes) ++ used.unused) ++ t) o (text_of query (events_in under.fed.answers ++ more)) (regroup under.lines bytes used.unused t) (breaks more t o ends))

  pub gives_up : (judged : Verdict) (used : TextStreamState) → GivesUp judged role.Trace (fresh role.Trace) (start.roles role.Trace) used (roles used.role) → Concludes judged query n flight start (record now { roles = roles }) used output.stream
  gives_up judged used gives = trace_gives_up query n flight start now under.fed under.going output.stream under.agrees.same under.agrees.uses roles only_trace judged used gives

  pub maker_wrong : (IsDone chain.state → ⊥) → (judged : Verdict) (used : TextStreamState) → ReadsMaker (Err judged) number under.lines (fresh role.Trace) (start.roles role.Trace) used (roles used.role)
      → Concludes judged query n flight start (record now { roles = roles }) used output.stream
  maker_wrong not_done (verdict.Accepted events) used reads = absurd reads
  maker_wrong not_done (verdict.Refused (fault.Form line)) used reads =
      let wrong = reads.1 in
      refused (fault.Form line) used wrong.bytes wrong.uses
      (λ more t o ends. (
        reads.0 ∙ under.counted,
        not_done,
        λ none. wrong.some (front_empty (wrong.bytes ++ used.unused) t (append_assoc wrong.bytes used.unused t ∙ none)),
        wrong.wrong t ends,
      ))
  maker_wrong not_done (verdict.Refused (fault.NotEnabled line)) used reads = absurd reads
  maker_wrong not_done (verdict.Refused (fault.Text line)) used reads = absurd reads
  maker_wrong not_done (verdict.Refused (fault.Early line)) used reads =
      let whole = reads.1 in
      refused (fault.Early line) used [] (subst (λ (l : List ℕ). Uses false l (fresh role.Trace) (start.roles role.Trace) used (roles used.role)) (sym (append-nil under.lines)) whole.uses)
      (λ more t o ends. (
        reads.0 ∙ under.counted,
        not_done,
        ap (λ (l : List ℕ). l ++ t) whole.used_up.none_waits ∙ ends whole.used_up.ended,
      ))
  maker_wrong not_done (verdict.Refused (fault.Late line)) used reads = absurd reads
  maker_wrong not_done (verdict.Refused (fault.Output at)) used reads = absurd reads
  maker_wrong not_done (verdict.Ended made) used reads = gives_up (verdict.Ended made) used reads

  -- the actor isn't enabled
  pub maker_disabled : (IsDone chain.state → ⊥) → (actor : Actor) (used : TextStreamState) (line : ℕ) → line ≡ number → IsNumbered actor → cause chain.state actor ≢ None
      → Uses false (under.lines ++ (actor_text actor ++ 44 ∷ [])) (fresh role.Trace) (start.roles role.Trace) used (roles used.role)
      → Concludes (verdict.Refused (fault.NotEnabled line)) query n flight start (record now { roles = roles }) used output.stream
  maker_disabled not_done actor used line here numbered disabled uses =
      refused (fault.NotEnabled line) used (actor_text actor ++ 44 ∷ []) uses
      (λ more t o ends. (
        here ∙ under.counted,
        not_done,
        record {
          actor = actor;
          begins = record { numbered = numbered; rest = used.unused ++ t; is = append_assoc (actor_text actor) (44 ∷ []) (used.unused ++ t) };
          is_so = disabled;
        },
      ))

-- ---- the output was read

module _ (query : QueryParts) (n flight : ℕ) (start now : Feeding) (fed : GaveAnswers start now) (going : has_failed now.ended ≡ false)
    (trace : TextStreamState) (lines : List ℕ) (trace_used : Uses false lines (fresh role.Trace) (start.roles role.Trace) trace (now.roles trace.role))
    (roles : Role → RoleState) (changes : ChangesOnly role.Output now.roles roles) where
  trace_after : Uses false lines (fresh role.Trace) (start.roles role.Trace) trace (roles trace.role)
  trace_after = used_still role.Trace lines (start.roles role.Trace) trace now.roles roles (changes role.Trace trace_isnt_output) trace_used

  abbrev pub fed_here : GaveAnswers start (record now { roles = roles })
  fed_here = fed_read start now role.Output roles fed tt (λ e. e) changes

  -- a read of it failed, or memory ran out
  pub output_gives_up : (judged : Verdict) (used : TextStreamState) → GivesUp judged role.Output (fresh role.Output) (start.roles role.Output) used (roles used.role) → Concludes judged query n flight start (record now { roles = roles }) trace used
  output_gives_up judged used gives =
      gave_up role.Output (start.roles role.Output) used (roles used.role) (λ (v : Verdict). Concludes v query n flight start (record now { roles = roles }) trace used)
      (λ bytes uses. record {
        fed = fed_here;
        streams = streams_go (fault_of role.Output) now.ended going (λ of is. not_stream role.Output of (λ e. e) is);
        trace_read = read_on (fault_of role.Output) role.Trace (start.roles role.Trace) trace (roles trace.role) (other_role role.Output role.Trace output_isnt_trace) lines trace_after;
        output_read = read_failed role.Output (start.roles role.Output) used (roles used.role) bytes uses;
        says = λ more t o may ends also. tt;
      })
      (λ bytes uses. by_memory query n flight start (record now { roles = roles }) trace used fed_here lines trace_after bytes uses (streams_go no_memory now.ended going (λ of is. memory_apart of)))
      judged gives
