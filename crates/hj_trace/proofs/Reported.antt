-- The report that a step put is the last one that waits behind it, where one more waits.
use Rattle.std.proofs.Common.{◌≡◌, ℕ, ◌<◌, Bool, true, false, cond, List, [], ◌∷◌, ◌++◌, length, None, Some, refl, sym, ap, subst, ◌∙◌, append-nil, append_assoc, arith, length-append, codes}
use Rattle.std.specs.List.{slice_get}
use Rattle.std.specs.Option.{option_map}
use Rattle.std.specs.Prelude.{MatchBool, nat_lt, option_to_list}
use Rattle.std.specs.declared.option.Option.{Option}
use Rattle.std.proofs.lemmas.Bool.{lt-ltb, le-ltb}
use Rattle.hj_msg.specs.declared.feed.Given.{Given}
use Rattle.hj_msg.specs.declared.message.Report.{Report}
use Rattle.hj_msg.specs.Feed.{FeedState, GoesOverAnswers}
use Rattle.hj_chain.specs.declared.actor.Actor.{Actor}
use Rattle.hj_chain.specs.declared.actor.Actor.TheVariants.{Admit, PortLeft, PortRight, Core, Collect}
use Rattle.hj_chain.specs.declared.actor.Stepped.TheVariants.{Did}
use Rattle.hj_chain.specs.Chain.{Action, ChainState, Contents, FeedAnswer, action_of, after_action, cause, collects, handles, next_action}
use Rattle.hj_chain.specs.Links.{changed_at}
use Rattle.hj_chain.specs.Looks.{last}
use Rattle.hj_chain.specs.Reports.{queue_at}
use Rattle.hj_chain.specs.Steps.{GoesWith, Steps}
use Rattle.hj_chain.proofs.Doing.{in_range}
use Rattle.hj_chain.proofs.Goings.{cause-going, enabled_going, reached-state}
use Rattle.hj_chain.proofs.Places.{get_or-changed_at}
use Rattle.hj_chain.proofs.Shape.{shape}
use Rattle.hj_trace.specs.Line.{front_text, reported, reported_text, said, step_text, text_if}
use Rattle.hj_trace.specs.Steps.{added_at, waiting_at}

last_behind : {X : Type 0} (xs : List X) (x : X) → slice_get (xs ++ x ∷ []) (length xs) ≡ Some x
last_behind [] x = refl
last_behind (y ∷ ys) x = last_behind ys x

last_pushed : {X : Type 0} (xs : List X) (x : X) → last (xs ++ x ∷ []) ≡ Some x
last_pushed xs x = ap (λ (k : ℕ). slice_get (xs ++ x ∷ []) k) (omega (arith, length-append xs (x ∷ []))) ∙ last_behind xs x

-- what was put behind a queue
put_behind : {X : Type 0} (o : Option X) (queue longer : List X) → longer ≡ queue ++ option_to_list o → cond (nat_lt (length queue) (length longer)) (last longer) None ≡ o
put_behind None queue longer is =
    ap (λ (b : Bool). cond b (last longer) None) (le-ltb (length queue) (length longer) (omega (arith, ap length (is ∙ append-nil queue))))
put_behind (Some x) queue longer is =
    ap (λ (b : Bool). cond b (last longer) None) (lt-ltb (length queue) (length longer) (omega (arith, ap length is, length-append queue (x ∷ [])))) ∙ (ap last is ∙ last_pushed queue x)

module _ {P : Type 0} (matches : P → P → Bool) (chain : ChainState P) where
  no_report : (next : Option (Given P)) → reported matches chain (next_action next) ≡ None
  no_report None = refl
  no_report (Some given) = refl

  -- an action of this kind
  of_kind : {X : Type 0} (o : Option X) (f : X → Action P) (action : Action P) → option_map f o ≡ Some action → (x : X) × (f x ≡ action)
  of_kind None f action is = absurd (cc)
  of_kind (Some x) f action is = (x, let e : Some (f x) ≡ Some action = is in cc)

  module _ (all : length chain.reports ≡ length chain.cores) (answer : FeedAnswer P) (action : Action P) where
    -- the report of a core behind its step
    core_reported : (place : ℕ) (o : Option (Report P)) → place < length chain.cores
        → cond (nat_lt (length (queue_at chain.reports place)) (length (queue_at (changed_at place (λ queue. queue ++ option_to_list o) chain.reports) place))) (last (queue_at (changed_at place (λ queue. queue ++ option_to_list o) chain.reports) place)) None ≡ o
    core_reported place o low =
        put_behind o (queue_at chain.reports place) (queue_at (changed_at place (λ queue. queue ++ option_to_list o) chain.reports) place)
        (get_or-changed_at place (λ (queue : List (Report P)). queue ++ option_to_list o) chain.reports [] (omega (arith, low, all)))

    pub added_is : (actor : Actor) → cause chain actor ≡ None → action_of chain actor ≡ Some action → added_at actor (waiting_at actor chain.reports) (after_action matches chain (Some action) answer).reports ≡ reported matches chain action
    added_is Admit can is = let e : Some (next_action chain.next) ≡ Some action = is in sym (ap (reported matches chain) (let same : action ≡ next_action chain.next = cc in same) ∙ no_report chain.next)
    added_is PortLeft can is = let found = of_kind _ _ action is in subst (λ (a : Action P). None ≡ reported matches chain a) found.1 refl
    added_is PortRight can is = let found = of_kind _ _ action is in subst (λ (a : Action P). None ≡ reported matches chain a) found.1 refl
    added_is (Core place end) can is =
        let found = of_kind _ (handles place.0 end) action is in
        let low = (in_range chain place.0 _ (sym (cause-going chain (Core place end) (enabled_going chain (Core place end) can)) ∙ can)).0 in
        subst (λ (a : Action P). added_at (Core place end) (waiting_at (Core place end) chain.reports) (after_action matches chain (Some a) answer).reports ≡ reported matches chain a) found.1
        (core_reported place.0 _ low)
    added_is (Collect place) can is = let found = of_kind _ (collects place.0) action is in subst (λ (a : Action P). None ≡ reported matches chain a) found.1 refl

-- The text of a step that was made is what its line says.
module _ {P J F : Type 0} (predicate : J → P → P → Bool) (gives : F → Given P → F → Type 0) (is_ready : F → Bool) (actor : Actor) (old new : Contents P J) (from to : F) where
  pub says : (feed : FeedState) → GoesWith predicate old feed → (action : Action P) → Some action ≡ action_of old.state actor → Steps gives is_ready (predicate old.join) actor old.state from Did new.state to
      → added_at actor (waiting_at actor old.state.reports) new.state.reports ≡ reported (predicate old.join) old.state action
  says feed goes action is step =
      let going = enabled_going old.state actor step.chain.0 in
      let all = shape (reached-state predicate old goes.schedule goes.events going goes.stands.reached) in
      ap (λ (s : ChainState P). added_at actor (waiting_at actor old.state.reports) s.reports) (step.chain.1 ∙ ap (λ (o : Option (Action P)). after_action (predicate old.join) old.state o step.answer) (sym is))
      ∙ added_is (predicate old.join) old.state (all.reports) step.answer action actor step.chain.0 (sym is)

  -- the line is told whole
  pub whole_text : (feed : FeedState) → GoesWith predicate old feed → (action : Action P) → Some action ≡ action_of old.state actor → Steps gives is_ready (predicate old.join) actor old.state from Did new.state to
      → (waited : ℕ) → waited ≡ waiting_at actor old.state.reports → (put : Option (Report P)) → put ≡ added_at actor waited new.state.reports → (n : ℕ) → n ≡ length old.state.cores
      → (line begun longer : List ℕ) → begun ≡ line ++ front_text n action → longer ≡ begun ++ (reported_text put ++ codes "\n") → longer ≡ line ++ said (predicate old.join) old.state actor
  whole_text feed goes action is step waited so put added n cores line begun longer front rest =
      let report : put ≡ reported (predicate old.join) old.state action = added ∙ (ap (λ (w : ℕ). added_at actor w new.state.reports) so ∙ says feed goes action is step) in
      rest ∙ (ap (λ (l : List ℕ). l ++ (reported_text put ++ codes "\n")) (front ∙ ap (λ (m : ℕ). line ++ front_text m action) cores)
      ∙ (append_assoc line (front_text (length old.state.cores) action) (reported_text put ++ codes "\n")
      ∙ (ap (λ (o : Option (Report P)). line ++ (front_text (length old.state.cores) action ++ (reported_text o ++ codes "\n"))) report
      ∙ (ap (λ (l : List ℕ). line ++ l) (regroup action) ∙ ap (λ (o : Option (Action P)). line ++ text_if (predicate old.join) old.state o) is))))
    where
      regroup : (action : Action P) → front_text (length old.state.cores) action ++ (reported_text (reported (predicate old.join) old.state action) ++ codes "\n") ≡ step_text (predicate old.join) old.state action
      regroup action = sym (append_assoc (front_text (length old.state.cores) action) (reported_text (reported (predicate old.join) old.state action)) (codes "\n"))

-- a step asks the feed once, or not at all
pub answers_of : {P F : Type 0} (gives : F → Given P → F → Type 0) (b : Bool) (given : Given P) (from to : F) → MatchBool b (gives from given to) (to ≡ from) → (answers : List (Given P)) × GoesOverAnswers gives from answers to
answers_of gives true given from to gave = (given ∷ [], (to, gave, refl))
answers_of gives false given from to same = ([], same)
