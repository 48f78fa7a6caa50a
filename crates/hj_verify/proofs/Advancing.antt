-- A line of a trace whose step was made.
use Rattle.std.proofs.Common.{◌≡◌, ◌+◌, ◌≤◌, Bool, true, false, List, [], ◌∷◌, ◌++◌, ℕ, length, take, is_some, refl, sym, ap, subst, ◌∙◌, append_assoc, length-append, arith}
use Rattle.std.specs.Prelude.{MatchBool, Err}
use Rattle.std.proofs.lemmas.List.{take-append-le}
use Rattle.hj_value.specs.declared.field.Field.{Field}
use Rattle.hj_base.specs.declared.outside.Outside.{Ghosts as OutsideGhosts}
use Rattle.hj_base.specs.declared.outside.Role.{Role}
use Rattle.hj_base.specs.declared.outside.Role.TheVariants as role
use Rattle.hj_base.specs.Outside.{RoleState, ChangesOnly}
use Rattle.hj_base.specs.Journals.{IsPrefix}
use Rattle.hj_query.specs.QueryParts.{QueryParts}
use Rattle.hj_eval.specs.Holds.{holds}
use Rattle.hj_msg.specs.declared.event.Pair.{Pair}
use Rattle.hj_msg.specs.declared.feed.Given.{Given}
use Rattle.hj_msg.specs.Emission.{emitted}
use Rattle.hj_msg.specs.Feed.{Answers, GoesOverAnswers, events_in}
use Rattle.hj_chain.specs.declared.actor.Actor.{Actor}
use Rattle.hj_chain.specs.declared.actor.Stepped.TheVariants as stepped
use Rattle.hj_chain.specs.Chain.{ChainState, Contents, action_of}
use Rattle.hj_chain.specs.Progress.{IsDone}
use Rattle.hj_chain.specs.Reached.{asked, collected_of}
use Rattle.hj_chain.specs.Steps.{GoesWith, asks}
use Rattle.hj_chain.proofs.Gathered.{told}
use Rattle.hj_chain.proofs.Goings.{Stood, Sound, emits-next, sound-goes, stood-did}
use Rattle.hj_chain.proofs.Sweeping.{did-over}
use Rattle.hj_stream.specs.Feeding.{Feeding}
use Rattle.hj_stream.specs.JoinText.{text, text_of}
use Rattle.hj_trace.specs.declared.fault.TraceFault.TheVariants as fault
use Rattle.hj_replay.specs.declared.ready.AlwaysReady.{AlwaysReady}
use Rattle.hj_trace.specs.Actors.{IsNumbered, actor_text}
use Rattle.hj_trace.specs.Checking.{Stands}
use Rattle.hj_trace.specs.Line.{line_text, said}
use Rattle.hj_trace.specs.Stream.{TextStreamState, Uses}
use Rattle.hj_trace.proofs.Plays.{PlaysOver, answers_are, answers_in, over_step, plays-step}
use Rattle.hj_replay.specs.Feeds.{gives, state_of}
use Rattle.hj_replay.proofs.Feeding.{may_come}
use Rattle.hj_verify.specs.declared.output.OutputCheck.{OutputCheck}
use Rattle.hj_verify.specs.declared.verdict.Verdict.TheVariants as verdict
use Rattle.hj_verify.specs.Checked.{Checking, CheckingAt, Concludes, Events, GaveAnswers, LeadTo, beside, feeding, fresh}
use Rattle.hj_verify.specs.declared.verdict.Verdict.{Verdict}
use Rattle.hj_verify.specs.Due.{GaveDue, ChainHasGiven}
use Rattle.hj_verify.specs.Lines.{ReadsRest}
use Rattle.hj_verify.specs.Making.{IsGivenUp, Made}
use Rattle.hj_verify.specs.Output.{OutputAgrees}
use Rattle.hj_verify.specs.Reading.{GivesUp}
use Rattle.hj_verify.proofs.Ending.{fails_of_streams, fed_more, fed_read, gave_there, more_events, none_yet, not_memory, output_stays, trace_stays}
use Rattle.hj_verify.proofs.Lists.{cancel, regroup}
use Rattle.hj_verify.proofs.Stopping.{feed_given_up, output_gives_up, output_isnt_trace, trace_isnt_output, stands_there, trace_gives_up, trace_refused}

abbrev Row : Type 0
Row = List Field

-- The prefix of a longer list that was taken stays.
taken_stays : {X : Type 0} (count : ℕ) (xs ys : List X) → count ≤ length xs → IsPrefix xs ys → take count ys ≡ take count xs
taken_stays count xs ys within front = ap (take count) front.is ∙ take-append-le count xs front.rest within

-- ---- what the step asked of the feed

module _ {O : Type 0} {outside : OutsideGhosts O} (actor : Actor) (chain new : Contents Row QueryParts) (from to : AlwaysReady O outside) (line : List ℕ) (made : Made {O = O} {outside = outside} actor chain new from to line) where
  abbrev pub asking : Bool
  asking = asks actor chain.state.next true

  abbrev pub answers : List (Given Row)
  answers = answers_in asking made.step.answer.given

  pub went : GoesOverAnswers (gives {O = O} {outside = outside}) from answers to
  went = over_step (gives {O = O} {outside = outside}) asking made.step.answer.given from to (subst (λ (b : Bool). MatchBool (asks actor chain.state.next b) (gives {O = O} {outside = outside} from made.step.answer.given to) (to ≡ from)) made.step.ready made.step.feed)

  pub asked_are : events_in answers ≡ asked actor chain.state.next made.step.answer
  asked_are = answers_are asking actor chain.state.next made.step.answer refl made.step.ready

told_answers : {O : Type 0} {outside : OutsideGhosts O} (a : AlwaysReady O outside) (answer : Given Row) (b : AlwaysReady O outside) → gives {O = O} {outside = outside} a answer b → Answers answer (state_of a) (state_of b)
told_answers a answer b gave = gave.3

module _ {O : Type 0} {outside : OutsideGhosts O} (query : QueryParts) (n flight : ℕ) (start : Feeding) (number : ℕ) (chain : Contents Row QueryParts) (from : AlwaysReady O outside) (trace : TextStreamState) (output : OutputCheck)
    (join : chain.join ≡ query) (fed : GaveAnswers start (feeding from)) where
  module _ (actor : Actor) (new : Contents Row QueryParts) (to : AlwaysReady O outside) (line : List ℕ) (made : Made {O = O} {outside = outside} actor chain new from to line) where
    abbrev pub fed_step : GaveAnswers start (feeding to)
    fed_step = fed_more start from to (answers actor chain new from to line made) (went actor chain new from to line made) fed

    events_step : events_in fed.answers ++ asked actor chain.state.next made.step.answer ≡ events_in fed_step.answers
    events_step =
        ap (λ (l : Events). events_in fed.answers ++ l) (sym (asked_are actor chain new from to line made))
        ∙ sym (more_events start from to (answers actor chain new from to line made) (went actor chain new from to line made) fed)

    -- the steps with this one
    pub steps_on : (schedule : List Actor) (lines : List ℕ) → LeadTo query n flight (events_in fed.answers) (is_some from.feed.ended) schedule chain.state lines
        → LeadTo query n flight (events_in fed_step.answers) (is_some to.feed.ended) (schedule ++ actor ∷ []) new.state (lines ++ line_text (holds query) chain.state actor)
    steps_on schedule lines steps =
        let step = made.step in
        let plays : PlaysOver (holds chain.join) n flight (events_in fed.answers) (state_of from).stopped schedule chain.state lines =
        subst (λ (q : QueryParts). PlaysOver (holds q) n flight (events_in fed.answers) (state_of from).stopped schedule chain.state lines) (sym join) (record { played_is = steps.played_is; enabled = steps.enabled; text_is = steps.text_is }) in
        let more = plays-step (gives {O = O} {outside = outside}) (λ _. true) state_of (told_answers {O = O} {outside = outside}) (holds chain.join) actor chain.state new.state from to refl step n flight (events_in fed.answers) schedule lines plays in
        let there = subst (λ (l : Events). PlaysOver (holds chain.join) n flight l (state_of to).stopped (schedule ++ actor ∷ []) new.state (lines ++ line_text (holds chain.join) chain.state actor)) events_step more in
        let so = subst (λ (q : QueryParts). PlaysOver (holds q) n flight (events_in fed_step.answers) (state_of to).stopped (schedule ++ actor ∷ []) new.state (lines ++ line_text (holds q) chain.state actor)) join there in
        record { played_is = so.played_is; enabled = so.enabled; text_is = so.text_is }

    -- the chain emits what it emitted, and perhaps more
    module _ (goes : GoesWith holds chain (state_of from)) (same_join : new.join ≡ chain.join) (schedule : List Actor) (given : ℕ) (pairs : List (Pair Row)) (gave : ChainHasGiven chain schedule (events_in fed.answers) given pairs) where
      sound : Sound holds chain
      sound = sound-goes holds chain (state_of from) goes

      stood : Stood holds new (schedule ++ actor ∷ []) (events_in fed.answers ++ asked actor chain.state.next made.step.answer) given (told (action_of chain.state actor) (collected_of gave.stands.reached))
      stood = stood-did holds chain new actor made.step.answer same_join sound schedule (events_in fed.answers) given gave.stands made.step.chain made.gathers

      abbrev pub pairs_on : List (Pair Row)
      pairs_on = emitted (told (action_of chain.state actor) (collected_of gave.stands.reached))

      pub gave_on : ChainHasGiven new (schedule ++ actor ∷ []) (events_in fed_step.answers) given pairs_on
      gave_on =
          subst (λ (l : Events). ChainHasGiven new (schedule ++ actor ∷ []) l given pairs_on) events_step
          (record { stands = stood.stands; emits = ap emitted stood.are })

      pub taken_on : take given pairs_on ≡ take given pairs
      taken_on =
          taken_stays given (emitted (collected_of gave.stands.reached)) pairs_on gave.stands.within
          (emits-next holds chain new made.step.answer same_join actor sound made.step.chain.0 schedule (events_in fed.answers) given gave.stands)
          ∙ ap (take given) gave.emits

-- ---- a line whose actor was read

-- A check has come behind the actor of a line and its comma.
pub record OnLine (query : QueryParts) (n flight : ℕ) (start : Feeding) (number : ℕ) (chain : Contents Row QueryParts) (now : Feeding) (actor : Actor) (trace : TextStreamState) (output : OutputCheck) : Type 0 where
  pub numbered : IsNumbered actor
  pub so : CheckingAt (λ lines. lines ++ (actor_text actor ++ 44 ∷ [])) query n flight start number chain now trace output

-- the output isn't read with the trace
pub agrees_still : (start now : Feeding) (written : List ℕ) (output : OutputCheck) (roles : Role → RoleState) → roles role.Output ≡ now.roles role.Output
    → OutputAgrees written (fresh role.Output) (start.roles role.Output) output (now.roles output.stream.role) → OutputAgrees written (fresh role.Output) (start.roles role.Output) output (roles output.stream.role)
agrees_still start now written output roles same agrees =
    let stays : roles output.stream.role ≡ now.roles output.stream.role = ap roles agrees.uses.role ∙ (same ∙ sym (ap now.roles agrees.uses.role)) in
    subst (λ (s : RoleState). OutputAgrees written (fresh role.Output) (start.roles role.Output) output s) (sym stays) agrees

pub on_line : (query : QueryParts) (n flight : ℕ) (start : Feeding) (number : ℕ) (chain : Contents Row QueryParts) (now : Feeding) (trace : TextStreamState) (output : OutputCheck) (under : Checking query n flight start number chain now trace output)
    → (roles : Role → RoleState) → ChangesOnly trace.role now.roles roles → (actor : Actor) (used : TextStreamState) → IsNumbered actor
    → Uses false (under.lines ++ (actor_text actor ++ 44 ∷ [])) (fresh role.Trace) (start.roles role.Trace) used (roles used.role)
    → OnLine query n flight start number chain (record now { roles = roles }) actor used output
on_line query n flight start number chain now trace output under roles changes actor used numbered uses =
    let only = subst (λ (of : Role). ChangesOnly of now.roles roles) under.trace_used.role changes in
    record {
      numbered = numbered;
      so = record {
        join = under.join;
        limit = under.limit;
        begun = under.begun;
        kept = under.kept;
        fed = fed_read start now role.Trace roles under.fed tt (λ e. e) only;
        going = under.going;
        schedule = under.schedule;
        counted = under.counted;
        lines = under.lines;
        steps = under.steps;
        trace_used = uses;
        given = under.given;
        pairs = under.pairs;
        gave = under.gave;
        agrees = agrees_still start now (text (take under.given under.pairs)) output roles (only role.Output output_isnt_trace) under.agrees;
      };
    }

-- ---- its step was made

module _ {O : Type 0} {outside : OutsideGhosts O} (query : QueryParts) (n flight : ℕ) (start : Feeding) (number : ℕ) (chain new : Contents Row QueryParts) (from to : AlwaysReady O outside) (actor : Actor) (trace : TextStreamState) (output : OutputCheck)
    (on : OnLine query n flight start number chain (feeding from) actor trace output) (line : List ℕ) (made : Made {O = O} {outside = outside} actor chain new from to line) where
  abbrev fed_to : GaveAnswers start (feeding to)
  fed_to = fed_step query n flight start number chain from trace output on.so.join on.so.fed actor new to line made

  output_to : (feeding to).roles role.Output ≡ (feeding from).roles role.Output
  output_to = output_stays start from to (answers actor chain new from to line made) (went actor chain new from to line made)

  agrees_to : OutputAgrees (text (take on.so.given on.so.pairs)) (fresh role.Output) (start.roles role.Output) output ((feeding to).roles output.stream.role)
  agrees_to = agrees_still start (feeding from) (text (take on.so.given on.so.pairs)) output (feeding to).roles output_to on.so.agrees

  -- the rest of the line was read
  module _ (roles : Role → RoleState) (changes : ChangesOnly role.Trace (feeding to).roles roles) (used : TextStreamState) where
    -- and is as it is to be
    pub next_line : new.join ≡ chain.join → GoesWith holds chain (state_of from) → Uses false ((on.so.lines ++ (actor_text actor ++ 44 ∷ [])) ++ line) (fresh role.Trace) (start.roles role.Trace) used (roles used.role)
        → Checking query n flight start (number + 1) new (record (feeding to) { roles = roles }) used output
    next_line same_join goes uses =
        let matches = holds query in
        let lined : (on.so.lines ++ (actor_text actor ++ 44 ∷ [])) ++ line ≡ on.so.lines ++ line_text matches chain.state actor =
        ap (λ (l : List ℕ). (on.so.lines ++ (actor_text actor ++ 44 ∷ [])) ++ l) (made.line_is ∙ ap (λ (q : QueryParts). said (holds q) chain.state actor) on.so.join)
        ∙ append_assoc on.so.lines (actor_text actor ++ 44 ∷ []) (said matches chain.state actor) in
        let given_text = ap text (taken_on query n flight start number chain from trace output on.so.join on.so.fed actor new to line made goes same_join on.so.schedule on.so.given on.so.pairs on.so.gave) in
        record {
          join = same_join ∙ on.so.join;
          limit = on.so.limit;
          begun = on.so.begun;
          kept = did-over (gives {O = O} {outside = outside}) (λ _. true) (holds chain.join) actor chain.state from stepped.Did new.state to made.step refl ∙ on.so.kept;
          fed = fed_read start (feeding to) role.Trace roles fed_to tt (λ e. e) changes;
          going = made.going;
          schedule = on.so.schedule ++ actor ∷ [];
          counted = omega (arith, on.so.counted, length-append on.so.schedule (actor ∷ []));
          lines = on.so.lines ++ line_text matches chain.state actor;
          steps = steps_on query n flight start number chain from trace output on.so.join on.so.fed actor new to line made on.so.schedule on.so.lines on.so.steps;
          trace_used = subst (λ (l : List ℕ). Uses false l (fresh role.Trace) (start.roles role.Trace) used (roles used.role)) lined uses;
          given = on.so.given;
          pairs = pairs_on query n flight start number chain from trace output on.so.join on.so.fed actor new to line made goes same_join on.so.schedule on.so.given on.so.pairs on.so.gave;
          gave = gave_on query n flight start number chain from trace output on.so.join on.so.fed actor new to line made goes same_join on.so.schedule on.so.given on.so.pairs on.so.gave;
          agrees = subst (λ (l : List ℕ). OutputAgrees l (fresh role.Output) (start.roles role.Output) output (roles output.stream.role)) (sym given_text)
              (agrees_still start (feeding to) (text (take on.so.given on.so.pairs)) output roles (changes role.Output output_isnt_trace) agrees_to);
        }

    -- or it isn't
    module _ (not_done : IsDone chain.state → ⊥) where
      abbrev maker : List ℕ
      maker = actor_text actor ++ 44 ∷ []

      text_wrong : (at : ℕ) → at ≡ number → (bytes : List ℕ) → Uses false ((on.so.lines ++ maker) ++ bytes) (fresh role.Trace) (start.roles role.Trace) used (roles used.role)
          → ((later : List ℕ) → (used.ended ≡ true → later ≡ []) → IsPrefix line (bytes ++ (used.unused ++ later)) → ⊥)
          → Concludes (verdict.Refused (fault.Text at)) query n flight start (record (feeding to) { roles = roles }) used output.stream
      text_wrong at here bytes uses wrong =
          trace_refused query n flight start (feeding to) fed_to made.going output.stream agrees_to.same agrees_to.uses roles changes (fault.Text at) used ((on.so.lines ++ maker) ++ bytes) uses
          (λ more t o may ends.
          let came = answers actor chain new from to line made in
          let goes = went actor chain new from to line made in
          let rest : List ℕ = maker ++ (bytes ++ (used.unused ++ t)) in
          let whole : List ℕ = (((on.so.lines ++ maker) ++ bytes) ++ used.unused) ++ t in
          let fits = may_come came (beside start.roles (feeding from)) (beside start.roles (feeding to)) more (not_memory from.feed.ended on.so.going) (gave_there start from to came goes) may in
          let regrouped : events_in on.so.fed.answers ++ (events_in came ++ more) ≡ events_in fed_to.answers ++ more =
          sym (append_assoc (events_in on.so.fed.answers) (events_in came) more) ∙ ap (λ (l : Events). l ++ more) (sym (more_events start from to came goes on.so.fed)) in
          subst (λ (l : Events). Stands (holds query) (fault.Text at) n flight l whole o (text_of query l)) regrouped
          (stands_there query n flight (events_in on.so.fed.answers) (is_some from.feed.ended) on.so.schedule chain.state on.so.lines on.so.steps (events_in came ++ more) fits (fault.Text at) rest whole o
          (text_of query (events_in on.so.fed.answers ++ (events_in came ++ more))) (regroup (on.so.lines ++ maker) bytes used.unused t ∙ append_assoc on.so.lines maker (bytes ++ (used.unused ++ t))) (
            here ∙ on.so.counted,
            not_done,
            record {
              actor = actor;
              begins = record { numbered = on.numbered; rest = bytes ++ (used.unused ++ t); is = append_assoc (actor_text actor) (44 ∷ []) (bytes ++ (used.unused ++ t)) };
              is_so = (
                made.step.chain.0,
                λ front.
                    wrong t ends
                    (record {
                      rest = front.rest;
                      is = cancel maker (bytes ++ (used.unused ++ t)) (line ++ front.rest)
                          (front.is ∙ (append_assoc maker (said (holds query) chain.state actor) front.rest
                          ∙ ap (λ (l : List ℕ). maker ++ (l ++ front.rest)) (sym (made.line_is ∙ ap (λ (q : QueryParts). said (holds q) chain.state actor) on.so.join))));
                    }),
              );
            },
          )))

      pub rest_wrong : (judged : Verdict) → ReadsRest (Err judged) line number (on.so.lines ++ (actor_text actor ++ 44 ∷ [])) (fresh role.Trace) (start.roles role.Trace) used (roles used.role)
          → Concludes judged query n flight start (record (feeding to) { roles = roles }) used output.stream
      rest_wrong (verdict.Accepted events) reads = absurd reads
      rest_wrong (verdict.Refused (fault.Form at)) reads = absurd reads
      rest_wrong (verdict.Refused (fault.NotEnabled at)) reads = absurd reads
      rest_wrong (verdict.Refused (fault.Text at)) reads = text_wrong at reads.0 reads.1.bytes reads.1.uses reads.1.wrong
      rest_wrong (verdict.Refused (fault.Early at)) reads = absurd reads
      rest_wrong (verdict.Refused (fault.Late at)) reads = absurd reads
      rest_wrong (verdict.Refused (fault.Output at)) reads = absurd reads
      rest_wrong (verdict.Ended ended) reads =
          trace_gives_up query n flight start (feeding to) fed_to made.going output.stream agrees_to.same agrees_to.uses roles changes (verdict.Ended ended) used reads

-- ---- its step was given up

pub step_given_up : {O : Type 0} {outside : OutsideGhosts O} (query : QueryParts) (n flight : ℕ) (start : Feeding) (number : ℕ) (chain : Contents Row QueryParts) (from to : AlwaysReady O outside) (actor : Actor) (trace : TextStreamState) (output : OutputCheck)
    → OnLine query n flight start number chain (feeding from) actor trace output → (asked : (answers : List (Given Row)) × GoesOverAnswers (gives {O = O} {outside = outside}) from answers to)
    → (judged : Verdict) → IsGivenUp to.feed.ended judged → Concludes judged query n flight start (feeding to) trace output.stream
step_given_up query n flight start number chain from to actor trace output on asked judged so =
    let fed = fed_more start from to asked.0 asked.1 on.so.fed in
    let agrees = agrees_still start (feeding from) (text (take on.so.given on.so.pairs)) output (feeding to).roles (output_stays start from to asked.0 asked.1) on.so.agrees in
    let trace_at : (feeding to).roles trace.role ≡ (feeding from).roles trace.role =
    ap (feeding to).roles on.so.trace_used.role ∙ (trace_stays start from to asked.0 asked.1 ∙ sym (ap (feeding from).roles on.so.trace_used.role)) in
    feed_given_up query n flight start (feeding to) trace output.stream fed (fails_of_streams fed.answers (beside start.roles start) (beside start.roles (feeding to)) (none_yet start on.so.begun.going) fed.gave)
    (on.so.lines ++ (actor_text actor ++ 44 ∷ [])) (subst (λ (s : RoleState). Uses false (on.so.lines ++ (actor_text actor ++ 44 ∷ [])) (fresh role.Trace) (start.roles role.Trace) trace s) (sym trace_at) on.so.trace_used)
    agrees.same agrees.uses judged so

-- ---- the pairs that are due were compared

module _ (query : QueryParts) (n flight : ℕ) (start : Feeding) (number : ℕ) (chain new : Contents Row QueryParts) (now : Feeding) (trace : TextStreamState) (output compared : OutputCheck) (under : Checking query n flight start number chain now trace output)
    (roles : Role → RoleState) (changes : ChangesOnly output.stream.role now.roles roles) (state : new.state ≡ chain.state) (join : new.join ≡ chain.join) where
  pub only_output : ChangesOnly role.Output now.roles roles
  only_output = subst (λ (of : Role). ChangesOnly of now.roles roles) under.agrees.uses.role changes

  pub trace_at : roles trace.role ≡ now.roles trace.role
  trace_at = ap roles under.trace_used.role ∙ (only_output role.Trace trace_isnt_output ∙ sym (ap now.roles under.trace_used.role))

  abbrev pub due_on : GaveDue new under.schedule (events_in under.fed.answers) under.pairs (fresh role.Output) (start.roles role.Output) compared (roles compared.stream.role)
      → Checking query n flight start number new (record now { roles = roles }) trace compared
  due_on due = record {
    join = join ∙ under.join;
    limit = under.limit;
    begun = under.begun;
    kept = ap (λ (s : ChainState Row). s.over) state ∙ under.kept;
    fed = fed_read start now role.Output roles under.fed tt (λ e. e) only_output;
    going = under.going;
    schedule = under.schedule;
    counted = under.counted;
    lines = under.lines;
    steps = subst (λ (s : ChainState Row). LeadTo query n flight (events_in under.fed.answers) (is_some now.ended) under.schedule s under.lines) (sym state) under.steps;
    trace_used = subst (λ (s : RoleState). Uses false under.lines (fresh role.Trace) (start.roles role.Trace) trace s) (sym trace_at) under.trace_used;
    given = due.given;
    pairs = under.pairs;
    gave = due.has;
    agrees = due.agrees;
  }

  pub due_given_up : (judged : Verdict) → GivesUp judged role.Output (fresh role.Output) (start.roles role.Output) compared.stream (roles compared.stream.role)
      → Concludes judged query n flight start (record now { roles = roles }) trace compared.stream
  due_given_up judged gives = output_gives_up query n flight start now under.fed under.going trace under.lines under.trace_used roles only_output judged compared.stream gives
