-- Steps over a list of events, one behind another.
use Rattle.std.proofs.Common.{◌≡◌, ℕ, Bool, true, false, List, [], ◌∷◌, ◌++◌, length, None, Some, refl, sym, ap, subst, ◌∙◌, append_assoc, append-nil, true≢false}
use Rattle.std.specs.Option.{option_map}
use Rattle.std.specs.Prelude.{MatchBool}
use Rattle.std.specs.declared.option.Option.{Option}
use Rattle.hj_msg.specs.declared.event.Event as event
use Rattle.hj_msg.specs.declared.feed.Given.{Given}
use Rattle.hj_msg.specs.declared.feed.Given.TheVariants.{Event, Stop}
use Rattle.hj_msg.specs.declared.message.Msg.{Msg}
use Rattle.hj_msg.specs.Feed.{Answers, FeedState, GoesOverAnswers, event_in, events_in}
use Rattle.hj_chain.specs.declared.actor.Actor.{Actor}
use Rattle.hj_chain.specs.declared.actor.Actor.TheVariants.{Admit, PortLeft, PortRight, Core, Collect}
use Rattle.hj_chain.specs.declared.actor.Stepped.TheVariants as stepped
use Rattle.hj_base.specs.declared.numbers.Side.TheVariants.{Left, Right}
use Rattle.hj_msg.specs.Driver.{receipt}
use Rattle.hj_chain.specs.Links.{at_port, incoming}
use Rattle.hj_chain.specs.Reports.{queue_at}
use Rattle.hj_chain.specs.Chain.{Action, ChainState, FeedAnswer, after, after_action, cause, collects, drives, empty_chain, first, handles, next_action}
use Rattle.hj_chain.specs.Reached.{asked}
use Rattle.hj_chain.specs.Serial.{Choosing, chosen, choosing_after}
use Rattle.hj_chain.specs.Steps.{Steps, asks}
use Rattle.hj_trace.specs.Line.{line_text}
use Rattle.hj_trace.specs.Play.{Playing, AreChosen, AreEnabled, answer_from, at_start, left_behind, play, played, trace_text}

-- ---- a step without an answer of the feed

module _ {P : Type 0} (matches : P → P → Bool) (chain : ChainState P) (a b : FeedAnswer P) where
  same_asked : (next : Option (Given P)) → asks Admit next true ≡ false → after_action matches chain (Some (next_action next)) a ≡ after_action matches chain (Some (next_action next)) b
  same_asked None unasked = absurd (true≢false unasked)
  same_asked (Some (Event one)) unasked = absurd (true≢false unasked)
  same_asked (Some Stop) unasked = refl

  same_mapped : {X : Type 0} (f : X → Action P) → ((x : X) → after_action matches chain (Some (f x)) a ≡ after_action matches chain (Some (f x)) b) → (o : Option X) → after_action matches chain (option_map f o) a ≡ after_action matches chain (option_map f o) b
  same_mapped f each None = refl
  same_mapped f each (Some x) = each x

  same_unasked : (actor : Actor) → asks actor chain.next true ≡ false → after matches chain actor a ≡ after matches chain actor b
  same_unasked Admit unasked = same_asked chain.next unasked
  same_unasked PortLeft unasked = same_mapped (λ (m : Msg P). drives (receipt Left m)) (λ m. refl) (first (at_port Left (length chain.cores) chain.links))
  same_unasked PortRight unasked = same_mapped (λ (m : Msg P). drives (receipt Right m)) (λ m. refl) (first (at_port Right (length chain.cores) chain.links))
  same_unasked (Core place end) unasked = same_mapped (handles place.0 end) (λ m. refl) (first (incoming end place.0 chain.links))
  same_unasked (Collect place) unasked = same_mapped (collects place.0) (λ r. refl) (first (queue_at chain.reports place.0))

-- what a step takes of the feed
asked_none : {P : Type 0} (actor : Actor) (next : Option (Given P)) (answer : FeedAnswer P) → asks actor next true ≡ false → asked actor next answer ≡ []
asked_none Admit None answer unasked = absurd (true≢false unasked)
asked_none Admit (Some (Event one)) answer unasked = absurd (true≢false unasked)
asked_none Admit (Some Stop) answer unasked = refl
asked_none PortLeft next answer unasked = refl
asked_none PortRight next answer unasked = refl
asked_none (Core place end) next answer unasked = refl
asked_none (Collect place) next answer unasked = refl

asked_one : {P : Type 0} (actor : Actor) (next : Option (Given P)) (given : Given P) → asks actor next true ≡ true → asked actor next (record { ready = true; given = given }) ≡ event_in (Some given)
asked_one Admit None given wanted = refl
asked_one Admit (Some (Event one)) given wanted = refl
asked_one Admit (Some Stop) given wanted = absurd (true≢false (sym wanted))
asked_one PortLeft next given wanted = absurd (true≢false (sym wanted))
asked_one PortRight next given wanted = absurd (true≢false (sym wanted))
asked_one (Core place end) next given wanted = absurd (true≢false (sym wanted))
asked_one (Collect place) next given wanted = absurd (true≢false (sym wanted))

-- ---- one step more

module _ {P : Type 0} (matches : P → P → Bool) where
  pub played-snoc : (schedule : List Actor) (actor : Actor) (start : Playing P) → played matches (schedule ++ actor ∷ []) start ≡ play matches actor (played matches schedule start)
  played-snoc [] actor start = refl
  played-snoc (first ∷ later) actor start = played-snoc later actor (play matches first start)

  pub trace-snoc : (schedule : List Actor) (actor : Actor) (start : Playing P) → trace_text matches (schedule ++ actor ∷ []) start ≡ trace_text matches schedule start ++ line_text matches (played matches schedule start).chain actor
  trace-snoc [] actor start = append-nil (line_text matches start.chain actor)
  trace-snoc (first ∷ later) actor start =
      let next = play matches first start in
      ap (λ (l : List ℕ). line_text matches start.chain first ++ l) (trace-snoc later actor next)
      ∙ sym (append_assoc (line_text matches start.chain first) (trace_text matches later next) (line_text matches (played matches later next).chain actor))

  pub enabled-snoc : (schedule : List Actor) (actor : Actor) (start : Playing P) → AreEnabled matches schedule start → cause (played matches schedule start).chain actor ≡ None → AreEnabled matches (schedule ++ actor ∷ []) start
  enabled-snoc [] actor start so can = (can, tt)
  enabled-snoc (first ∷ later) actor start so can = (so.0, enabled-snoc later actor (play matches first start) so.1 can)

  -- where a rule stands behind the steps of a schedule
  abbrev pub choosing_behind : List Actor → Choosing → Playing P → Choosing
  choosing_behind [] choosing start = choosing
  choosing_behind (actor ∷ later) choosing start = choosing_behind later (choosing_after (length start.chain.cores) actor choosing) (play matches actor start)

  pub behind-snoc : (schedule : List Actor) (actor : Actor) (choosing : Choosing) (start : Playing P)
      → choosing_behind (schedule ++ actor ∷ []) choosing start ≡ choosing_after (length (played matches schedule start).chain.cores) actor (choosing_behind schedule choosing start)
  behind-snoc [] actor choosing start = refl
  behind-snoc (first ∷ later) actor choosing start = behind-snoc later actor (choosing_after (length start.chain.cores) first choosing) (play matches first start)

  pub chosen-snoc : (schedule : List Actor) (actor : Actor) (choosing : Choosing) (start : Playing P) → AreChosen matches choosing schedule start
      → chosen (choosing_behind schedule choosing start) true (played matches schedule start).chain ≡ Some actor → AreChosen matches choosing (schedule ++ actor ∷ []) start
  chosen-snoc [] actor choosing start so is = (is, tt)
  chosen-snoc (first ∷ later) actor choosing start so is = (so.0, chosen-snoc later actor (choosing_after (length start.chain.cores) first choosing) (play matches first start) so.1 is)

-- ---- a chain whose feed gave these events so far

module _ {P : Type 0} (matches : P → P → Bool) (n flight : ℕ) where
  -- Whatever events come behind those that the feed gave, none where it has stopped, the steps of this schedule can be made over all
  -- of them, lead to this chain, and have this text.
  pub record PlaysOver (taken : List (event.Event P)) (stopped : Bool) (schedule : List Actor) (chain : ChainState P) (text : List ℕ) : Type 0 where
    pub played_is : (more : List (event.Event P)) → (stopped ≡ true → more ≡ []) → played matches schedule (at_start n flight (taken ++ more)) ≡ record { chain = chain; coming = more }
    pub enabled : (more : List (event.Event P)) → (stopped ≡ true → more ≡ []) → AreEnabled matches schedule (at_start n flight (taken ++ more))
    pub text_is : (more : List (event.Event P)) → (stopped ≡ true → more ≡ []) → trace_text matches schedule (at_start n flight (taken ++ more)) ≡ text

  starts : (first : Given P) (old new : FeedState) → Answers first old new → (more : List (event.Event P)) → (new.stopped ≡ true → more ≡ [])
      → at_start n flight (event_in (Some first) ++ more) ≡ record { chain = empty_chain n flight first; coming = more }
  starts (Event one) old new answers more fits = refl
  starts Stop old new answers more fits =
      subst (λ (l : List (event.Event P)). at_start n flight l ≡ record { chain = empty_chain n flight Stop; coming = l }) (sym (fits answers.stopped)) refl

  pub plays-first : (first : Given P) (old new : FeedState) → Answers first old new → PlaysOver (event_in (Some first)) new.stopped [] (empty_chain n flight first) []
  plays-first first old new answers = record { played_is = λ more fits. starts first old new answers more fits; enabled = λ more fits. tt; text_is = λ more fits. refl }

-- What a step of an actor takes of the feed, and what then is left of the events that are to come.
pub record OneStep {P : Type 0} (matches : P → P → Bool) (actor : Actor) (chain new : ChainState P) (taken more : List (event.Event P)) (old now : FeedState) : Type 0 where
  pub before : old.stopped ≡ true → taken ++ more ≡ []
  pub is : play matches actor (record { chain = chain; coming = taken ++ more }) ≡ record { chain = new; coming = more }

module _ {P F : Type 0} (gives : F → Given P → F → Type 0) (is_ready : F → Bool) (state : F → FeedState) (told : (old : F) (answer : Given P) (new : F) → gives old answer new → Answers answer (state old) (state new)) (matches : P → P → Bool)
    (actor : Actor) (chain new : ChainState P) (from to : F) where
  same_record : (answer : FeedAnswer P) → answer.ready ≡ true → answer ≡ record { ready = true; given = answer.given }
  same_record answer ready = ap (λ (b : Bool). record { ready = b; given = answer.given }) ready

  asked_step : (given : Given P) → asks actor chain.next true ≡ true → gives from given to → new ≡ after matches chain actor (record { ready = true; given = given }) → (more : List (event.Event P)) → ((state to).stopped ≡ true → more ≡ [])
      → OneStep matches actor chain new (event_in (Some given)) more (state from) (state to)
  asked_step (Event one) wanted gave is more fits = record {
    before = λ stopped. absurd (true≢false (sym stopped ∙ (told from (Event one) to gave).going));
    is = ap (λ (b : Bool). record { chain = after matches chain actor (record { ready = true; given = Event one }); coming = left_behind b (one ∷ more) }) wanted
        ∙ ap (λ (c : ChainState P). record { chain = c; coming = more }) (sym is);
  }
  asked_step Stop wanted gave is more fits =
      let none : more ≡ [] = fits (told from Stop to gave).stopped in
      record {
        before = λ stopped. none;
        is = ap (λ (l : List (event.Event P)). play matches actor (record { chain = chain; coming = l })) none
            ∙ (ap (λ (b : Bool). record { chain = after matches chain actor (record { ready = true; given = Stop }); coming = left_behind b [] }) wanted
            ∙ (ap (λ (c : ChainState P). record { chain = c; coming = [] }) (sym is) ∙ ap (λ (l : List (event.Event P)). record { chain = new; coming = l }) (sym none)));
      }

  unasked_step : (answer : FeedAnswer P) → asks actor chain.next true ≡ false → to ≡ from → new ≡ after matches chain actor answer → (more : List (event.Event P)) → ((state to).stopped ≡ true → more ≡ [])
      → OneStep matches actor chain new [] more (state from) (state to)
  unasked_step answer unasked same is more fits = record {
    before = λ stopped. fits (ap (λ (f : F). (state f).stopped) same ∙ stopped);
    is = ap (λ (b : Bool). record { chain = after matches chain actor (answer_from more); coming = left_behind b more }) unasked
        ∙ ap (λ (c : ChainState P). record { chain = c; coming = more }) (same_unasked matches chain (answer_from more) answer actor unasked ∙ sym is);
  }

  step_by : (b : Bool) (answer : FeedAnswer P) → asks actor chain.next true ≡ b → answer.ready ≡ true → MatchBool b (gives from answer.given to) (to ≡ from) → new ≡ after matches chain actor answer → (more : List (event.Event P)) → ((state to).stopped ≡ true → more ≡ [])
      → OneStep matches actor chain new (asked actor chain.next answer) more (state from) (state to)
  step_by true answer wanted ready gave is more fits =
      let whole = same_record answer ready in
      subst (λ (l : List (event.Event P)). OneStep matches actor chain new l more (state from) (state to)) (sym (ap (asked actor chain.next) whole ∙ asked_one actor chain.next answer.given wanted))
      (asked_step answer.given wanted gave (is ∙ ap (after matches chain actor) whole) more fits)
  step_by false answer unasked ready same is more fits =
      subst (λ (l : List (event.Event P)). OneStep matches actor chain new l more (state from) (state to)) (sym (asked_none actor chain.next answer unasked)) (unasked_step answer unasked same is more fits)

  module _ (ready : is_ready from ≡ true) (step : Steps gives is_ready matches actor chain from stepped.Did new to) where
    here : step.answer.ready ≡ true
    here = step.ready ∙ ready

    pub one_step : (more : List (event.Event P)) → ((state to).stopped ≡ true → more ≡ []) → OneStep matches actor chain new (asked actor chain.next step.answer) more (state from) (state to)
    one_step more fits =
        step_by (asks actor chain.next true) step.answer refl here (subst (λ (b : Bool). MatchBool (asks actor chain.next b) (gives from step.answer.given to) (to ≡ from)) here step.feed) step.chain.1 more fits

    module _ (n flight : ℕ) (taken : List (event.Event P)) (schedule : List Actor) (text : List ℕ) (plays : PlaysOver matches n flight taken (state from).stopped schedule chain text) where
      abbrev given : List (event.Event P)
      given = asked actor chain.next step.answer

      pub plays-step : PlaysOver matches n flight (taken ++ given) (state to).stopped (schedule ++ actor ∷ []) new (text ++ line_text matches chain actor)
      plays-step = record {
        played_is = λ more fits.
            let one = one_step more fits in
            ap (λ (l : List (event.Event P)). played matches (schedule ++ actor ∷ []) (at_start n flight l)) (append_assoc taken given more)
            ∙ (played-snoc matches schedule actor (at_start n flight (taken ++ (given ++ more))) ∙ (ap (play matches actor) (plays.played_is (given ++ more) one.before) ∙ one.is));
        enabled = λ more fits.
            let one = one_step more fits in
            subst (λ (l : List (event.Event P)). AreEnabled matches (schedule ++ actor ∷ []) (at_start n flight l)) (sym (append_assoc taken given more))
            (enabled-snoc matches schedule actor (at_start n flight (taken ++ (given ++ more))) (plays.enabled (given ++ more) one.before)
            (ap (λ (p : Playing P). cause p.chain actor) (plays.played_is (given ++ more) one.before) ∙ step.chain.0));
        text_is = λ more fits.
            let one = one_step more fits in
            ap (λ (l : List (event.Event P)). trace_text matches (schedule ++ actor ∷ []) (at_start n flight l)) (append_assoc taken given more)
            ∙ (trace-snoc matches schedule actor (at_start n flight (taken ++ (given ++ more)))
            ∙ (ap (λ (l : List ℕ). l ++ line_text matches (played matches schedule (at_start n flight (taken ++ (given ++ more)))).chain actor) (plays.text_is (given ++ more) one.before)
            ∙ ap (λ (p : Playing P). text ++ line_text matches p.chain actor) (plays.played_is (given ++ more) one.before)));
      }

      -- the actors that a rule names
      module _ (first : Choosing) (chooses : (more : List (event.Event P)) → ((state from).stopped ≡ true → more ≡ []) → AreChosen matches first schedule (at_start n flight (taken ++ more)))
          (choosing : Choosing) (stands : (more : List (event.Event P)) → ((state from).stopped ≡ true → more ≡ []) → choosing_behind matches schedule first (at_start n flight (taken ++ more)) ≡ choosing) (named : chosen choosing true chain ≡ Some actor) where
        pub chooses-step : (more : List (event.Event P)) → ((state to).stopped ≡ true → more ≡ []) → AreChosen matches first (schedule ++ actor ∷ []) (at_start n flight ((taken ++ given) ++ more))
        chooses-step more fits =
            let one = one_step more fits in
            let start = at_start n flight (taken ++ (given ++ more)) in
            subst (λ (l : List (event.Event P)). AreChosen matches first (schedule ++ actor ∷ []) (at_start n flight l)) (sym (append_assoc taken given more))
            (chosen-snoc matches schedule actor first start (chooses (given ++ more) one.before)
            (ap (λ (c : Choosing). chosen c true (played matches schedule start).chain) (stands (given ++ more) one.before)
            ∙ (ap (λ (p : Playing P). chosen choosing true p.chain) (plays.played_is (given ++ more) one.before) ∙ named)))

        pub stands-step : (more : List (event.Event P)) → ((state to).stopped ≡ true → more ≡ []) → choosing_behind matches (schedule ++ actor ∷ []) first (at_start n flight ((taken ++ given) ++ more)) ≡ choosing_after (length chain.cores) actor choosing
        stands-step more fits =
            let one = one_step more fits in
            let start = at_start n flight (taken ++ (given ++ more)) in
            ap (λ (l : List (event.Event P)). choosing_behind matches (schedule ++ actor ∷ []) first (at_start n flight l)) (append_assoc taken given more)
            ∙ (behind-snoc matches schedule actor first start
            ∙ (ap (λ (p : Playing P). choosing_after (length p.chain.cores) actor (choosing_behind matches schedule first start)) (plays.played_is (given ++ more) one.before)
            ∙ ap (λ (c : Choosing). choosing_after (length chain.cores) actor c) (stands (given ++ more) one.before)))

-- ---- what a step asks of the feed

-- its answers
abbrev pub answers_in : {P : Type 0} → Bool → Given P → List (Given P)
answers_in true given = given ∷ []
answers_in false given = []

pub over_step : {P F : Type 0} (gives : F → Given P → F → Type 0) (b : Bool) (given : Given P) (from to : F) → MatchBool b (gives from given to) (to ≡ from) → GoesOverAnswers gives from (answers_in b given) to
over_step gives true given from to gave = (to, gave, refl)
over_step gives false given from to same = same

-- and the events among them
pub answers_are : {P : Type 0} (b : Bool) (actor : Actor) (next : Option (Given P)) (answer : FeedAnswer P) → asks actor next true ≡ b → answer.ready ≡ true → events_in (answers_in b answer.given) ≡ asked actor next answer
answers_are true actor next answer wanted ready =
    append-nil (event_in (Some answer.given)) ∙ (sym (asked_one actor next answer.given wanted) ∙ ap (λ (r : Bool). asked actor next (record { ready = r; given = answer.given })) (sym ready))
answers_are false actor next answer unasked ready = sym (asked_none actor next answer unasked)
