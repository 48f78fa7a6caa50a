-- The end of a trace, where the chain is done, and of an output.
use Rattle.std.proofs.Common.{◌≡◌, ◌≢◌, true, false, List, [], ◌++◌, ℕ, length, take, None, Some, is_some, refl, sym, ap, subst, ◌∙◌, append_assoc, append-nil, true≢false}
use Rattle.std.specs.Prelude.{Ok, Err}
use Rattle.std.specs.declared.option.Option.{Option}
use Rattle.std.specs.declared.result.Result.{Result}
use Rattle.hj_value.specs.declared.field.Field.{Field}
use Rattle.hj_base.specs.declared.outside.Role.{Role}
use Rattle.hj_base.specs.declared.outside.Role.TheVariants as role
use Rattle.hj_base.specs.Outside.{RoleState, ChangesOnly}
use Rattle.hj_query.specs.QueryParts.{QueryParts}
use Rattle.hj_eval.specs.Holds.{holds}
use Rattle.hj_msg.specs.declared.feed.Given.{Given}
use Rattle.hj_msg.specs.declared.feed.Given.TheVariants as given
use Rattle.hj_msg.specs.Event.{IsWellFormed}
use Rattle.hj_msg.specs.Feed.{events_in, is_stop}
use Rattle.hj_msg.specs.Kang.{kang}
use Rattle.hj_chain.specs.Chain.{Contents}
use Rattle.hj_chain.specs.Progress.{IsDone}
use Rattle.hj_chain.specs.Reached.{next_pair}
use Rattle.hj_chain.proofs.Finishing.{all_given}
use Rattle.hj_chain.proofs.OnlyCloses.{none_to_come}
use Rattle.hj_chain.proofs.Stuck.{finished-sent}
use Rattle.hj_stream.specs.declared.outcome.Outcome.{Outcome}
use Rattle.hj_stream.specs.Feeding.{Feeding, Gives}
use Rattle.hj_stream.specs.JoinText.{text, text_of}
use Rattle.hj_stream.proofs.Fed.{fed_all, fed_first, fed_well}
use Rattle.hj_trace.specs.declared.fault.TraceFault.TheVariants as fault
use Rattle.hj_trace.specs.Checking.{DifferAt, IsRight}
use Rattle.hj_trace.specs.Play.{Playing, AreEnabled, at_start, played, trace_text}
use Rattle.hj_trace.specs.Stream.{TextStreamState, Uses}
use Rattle.hj_replay.specs.Feeds.{MayCome}
use Rattle.hj_verify.specs.declared.output.OutputCheck.{OutputCheck}
use Rattle.hj_verify.specs.declared.verdict.Verdict.{Verdict}
use Rattle.hj_verify.specs.declared.verdict.Verdict.TheVariants as verdict
use Rattle.hj_verify.specs.Checked.{ChecksAll, Checking, Concludes, Events, GaveAnswers, beside, fresh}
use Rattle.hj_verify.specs.Lines.{EndsTrace}
use Rattle.hj_verify.specs.Output.{OutputAgrees, DiffersBehind, EndsOutput}
use Rattle.hj_verify.specs.Reading.{IsUsedWhole}
use Rattle.hj_verify.proofs.Advancing.{agrees_still}
use Rattle.hj_verify.proofs.Ending.{came_is, ends_there, fed_read, read_on, refused_apart, streams_go}
use Rattle.hj_verify.proofs.Lists.{front_empty}
use Rattle.hj_verify.proofs.Stopping.{gives_up, output_gives_up, output_isnt_trace, refused, stands_there, trace_isnt_output}

abbrev Row : Type 0
Row = List Field

module _ (query : QueryParts) (n flight : ℕ) (start : Feeding) (number : ℕ) (chain : Contents Row QueryParts) (now : Feeding) (trace : TextStreamState) (output : OutputCheck) (under : Checking query n flight start number chain now trace output)
    (done : IsDone chain.state) where
  -- the events that came
  abbrev pub came : Events
  came = events_in under.fed.answers

  well : IsWellFormed came
  well =
      fed_well now.ended query under.limit (beside start.roles start).roles came (beside start.roles now)
      (fed_all query under.limit (beside start.roles start).roles (λ a answer b. Gives answer a b) (λ (f : Feeding). f) (λ a answer b gave. gave) [] under.fed.answers (beside start.roles start) (beside start.roles now)
      (fed_first query under.limit (beside start.roles start) under.begun.going under.begun.none under.begun.merger under.begun.left under.begun.right) under.fed.gave)

  stop : chain.state.next ≡ Some given.Stop
  stop = none_to_come (holds chain.join) (length chain.state.cores) chain.state.driver.flight under.gave.stands.reached (finished-sent chain.state.driver.closes done.finished)

  -- the text that was compared is that of the join
  pub all_text : next_pair under.gave.stands ≡ None → text (take under.given under.pairs) ≡ text_of query came
  all_text none =
      ap text
      (ap (take under.given) (sym under.gave.emits) ∙ (all_given holds chain under.schedule came under.given under.gave.stands well under.kept done none ∙ ap (λ (q : QueryParts). kang (holds q) came) under.join))

  module _ (stopped : is_stop chain.state.next ≡ true → is_some now.ended ≡ true) where
    has_ended : is_some now.ended ≡ true
    has_ended = stopped (ap (λ (o : Option (Given Row)). is_stop o) stop)

    pub not_none : now.ended ≢ None
    not_none none = true≢false (sym has_ended ∙ ap (λ (o : Option Outcome). is_some o) none)

    none_comes : (more : Events) → MayCome now.ended more → more ≡ []
    none_comes more may = ends_there now.ended under.going more may has_ended

    -- the trace and the output are right
    pub is_right : (lines text_read : List ℕ) → lines ≡ under.lines → text_read ≡ text_of query came → IsRight (holds query) n flight came lines text_read (text_of query came)
    is_right lines text_read lines_are text_is =
        let at : at_start n flight (came ++ []) ≡ at_start n flight came = ap (at_start n flight) (append-nil came) in
        record {
          schedule = under.schedule;
          enabled = subst (λ (p : Playing Row). AreEnabled (holds query) under.schedule p) at (under.steps.enabled [] (λ e. refl));
          trace_is = lines_are ∙ (sym (under.steps.text_is [] (λ e. refl)) ∙ ap (trace_text (holds query) under.schedule) at);
          done = subst (λ (p : Playing Row). IsDone (played (holds query) under.schedule p).chain) at (subst (λ (p : Playing Row). IsDone p.chain) (sym (under.steps.played_is [] (λ e. refl))) done);
          output_is = text_is;
        }

    -- ---- the end of the trace

    module _ (roles : Role → RoleState) (changes : ChangesOnly trace.role now.roles roles) (used : TextStreamState) where
      only_trace : ChangesOnly role.Trace now.roles roles
      only_trace = subst (λ (of : Role). ChangesOnly of now.roles roles) under.trace_used.role changes

      pub end_wrong : (judged : Verdict) → EndsTrace (Err judged) number under.lines (fresh role.Trace) (start.roles role.Trace) used (roles used.role) → Concludes judged query n flight start (record now { roles = roles }) used output.stream
      end_wrong (verdict.Accepted events) ends = absurd ends
      end_wrong (verdict.Refused (fault.Form line)) ends = absurd ends
      end_wrong (verdict.Refused (fault.NotEnabled line)) ends = absurd ends
      end_wrong (verdict.Refused (fault.Text line)) ends = absurd ends
      end_wrong (verdict.Refused (fault.Early line)) ends = absurd ends
      end_wrong (verdict.Refused (fault.Late line)) ends =
          refused query n flight start number chain now trace output under roles changes (fault.Late line) used []
          (subst (λ (l : List ℕ). Uses false l (fresh role.Trace) (start.roles role.Trace) used (roles used.role)) (sym (append-nil under.lines)) ends.1.uses)
          (λ more t o fits. (ends.0 ∙ under.counted, done, λ none. ends.1.more (front_empty used.unused t none)))
      end_wrong (verdict.Refused (fault.Output at)) ends = absurd ends
      end_wrong (verdict.Ended made) ends = gives_up query n flight start number chain now trace output under roles changes (verdict.Ended made) used ends

      -- the output's state behind it
      pub agrees_then : OutputAgrees (text (take under.given under.pairs)) (fresh role.Output) (start.roles role.Output) output (roles output.stream.role)
      agrees_then = agrees_still start now (text (take under.given under.pairs)) output roles (only_trace role.Output output_isnt_trace) under.agrees

      -- ---- the end of the output

      module _ (whole : IsUsedWhole under.lines (fresh role.Trace) (start.roles role.Trace) used (roles used.role)) (none : next_pair under.gave.stands ≡ None)
          (after : Role → RoleState) (changed : ChangesOnly output.stream.role roles after) (stream : TextStreamState) where
        only_output : ChangesOnly role.Output roles after
        only_output = subst (λ (of : Role). ChangesOnly of roles after) under.agrees.uses.role changed

        abbrev fed_then : GaveAnswers start (record now { roles = roles })
        fed_then = fed_read start now role.Trace roles under.fed tt (λ e. e) only_trace

        abbrev fed_last : GaveAnswers start (record now { roles = after })
        fed_last = fed_read start (record now { roles = roles }) role.Output after fed_then tt (λ e. e) only_output

        used_then : Uses false under.lines (fresh role.Trace) (start.roles role.Trace) used (after used.role)
        used_then =
            let stays : after used.role ≡ roles used.role = ap after whole.uses.role ∙ (only_output role.Trace trace_isnt_output ∙ sym (ap roles whole.uses.role)) in
            subst (λ (s : RoleState). Uses false under.lines (fresh role.Trace) (start.roles role.Trace) used s) (sym stays) whole.uses

        -- the whole trace was used, and nothing follows
        whole_trace : (t : List ℕ) → (used.ended ≡ true → t ≡ []) → (under.lines ++ used.unused) ++ t ≡ under.lines ++ []
        whole_trace t ends = append_assoc under.lines used.unused t ∙ ap (λ (l : List ℕ). under.lines ++ l) (ap (λ (l : List ℕ). l ++ t) whole.used_up.none_waits ∙ ends whole.used_up.ended)

        differs : (at : ℕ) → DiffersBehind at (text (take under.given under.pairs)) (fresh role.Output) (start.roles role.Output) stream (after stream.role)
            → Concludes (verdict.Refused (fault.Output at)) query n flight start (record now { roles = after }) used stream
        differs at behind =
            let found = fault.Output at in
            let judged = verdict.Refused found in
            let trace_read = read_on judged role.Trace (start.roles role.Trace) used (after used.role) (refused_apart found role.Trace) under.lines used_then in
            let output_read = read_on judged role.Output (start.roles role.Output) stream (after stream.role) (refused_apart found role.Output) behind.bytes behind.uses in
            record {
              fed = fed_last;
              streams = streams_go judged now.ended under.going (λ of is. refused_apart found of);
              trace_read = trace_read;
              output_read = output_read;
              says = λ more t o may ends also.
                  let empty : more ≡ [] = none_comes more may in
                  let all : List ℕ = behind.bytes ++ (stream.unused ++ o) in
                  let out_is : all ≡ output_read.uses.came ++ o =
                  sym (append_assoc behind.bytes stream.unused o) ∙ ap (λ (l : List ℕ). l ++ o) (sym (came_is false role.Output behind.bytes (start.roles role.Output) stream (after stream.role) behind.uses)) in
                  let trace_is : trace_read.uses.came ++ t ≡ under.lines ++ [] =
                  ap (λ (l : List ℕ). l ++ t) (came_is false role.Trace under.lines (start.roles role.Trace) used (after used.role) used_then) ∙ whole_trace t ends in
                  let text_is : text (take under.given under.pairs) ≡ text_of query (came ++ more) = all_text none ∙ ap (λ (l : Events). text_of query l) (sym (ap (λ (l : Events). came ++ l) empty ∙ append-nil came)) in
                  let differ : DifferAt at all (text_of query (came ++ more)) = subst (λ (l : List ℕ). DifferAt at all l) text_is (behind.differ o also) in
                  stands_there query n flight came (is_some now.ended) under.schedule chain.state under.lines under.steps more (λ some. empty) found [] (trace_read.uses.came ++ t) (output_read.uses.came ++ o) (text_of query (came ++ more)) trace_is
                  (done, refl, subst (λ (l : List ℕ). DifferAt at l (text_of query (came ++ more))) out_is differ);
            }

        pub ends_checked : (result : Result (Unit {0}) Verdict) → EndsOutput result (text (take under.given under.pairs)) (fresh role.Output) (start.roles role.Output) stream (after stream.role)
            → ChecksAll result query n flight start (record now { roles = after }) used stream
        ends_checked (Ok went) ends = record {
          fed = fed_last;
          going = under.going;
          ended = not_none;
          lines = under.lines;
          trace_is = record { uses = used_then; used_up = whole.used_up };
          output_is = subst (λ (l : List ℕ). IsUsedWhole l (fresh role.Output) (start.roles role.Output) stream (after stream.role)) (all_text none) ends;
          right = is_right under.lines (text_of query came) refl refl;
        }
        ends_checked (Err (verdict.Accepted events)) ends = absurd ends
        ends_checked (Err (verdict.Refused (fault.Form line))) ends = absurd ends
        ends_checked (Err (verdict.Refused (fault.NotEnabled line))) ends = absurd ends
        ends_checked (Err (verdict.Refused (fault.Text line))) ends = absurd ends
        ends_checked (Err (verdict.Refused (fault.Early line))) ends = absurd ends
        ends_checked (Err (verdict.Refused (fault.Late line))) ends = absurd ends
        ends_checked (Err (verdict.Refused (fault.Output at))) ends = differs at ends
        ends_checked (Err (verdict.Ended made)) ends =
            output_gives_up query n flight start (record now { roles = roles }) fed_then under.going used under.lines whole.uses after only_output (verdict.Ended made) stream ends
