-- What a step of a chain keeps: it goes with its feed, and stands for its steps and events with this one behind them.
use Rattle.std.proofs.Common.{◌≡◌, ◌≢◌, ℕ, Bool, true, false, true≢false, List, [], ◌∷◌, ◌++◌, length, refl, ap, sym, ◌∙◌, subst}
use Rattle.std.specs.Bool.{MatchBool}
use Rattle.std.specs.Option.{IfSome}
use Rattle.hj_msg.specs.declared.event.Event.{Event}
use Rattle.hj_msg.specs.declared.feed.Given.{Given}
use Rattle.hj_msg.specs.declared.feed.Given.TheVariants as given
use Rattle.hj_msg.specs.Feed.{Answers, FeedState}
use Rattle.hj_chain.specs.declared.actor.Actor.{Actor}
use Rattle.hj_chain.specs.declared.actor.Stepped.{Stepped}
use Rattle.hj_chain.specs.declared.actor.Stepped.TheVariants.{Did, NotEnabled, Memory}
use Rattle.hj_chain.specs.Chain.{FeedAnswer, ChainState, Contents}
use Rattle.hj_chain.specs.Reached.{StandsFor, asked}
use Rattle.hj_chain.specs.Steps.{GoesWith, Gathers, MakesStep, Steps, StepsTo, StandsFurther, asks, was_asked}
use Rattle.hj_chain.proofs.FewSteps.{few_steps}
use Rattle.hj_chain.proofs.Goings.{Sound, goes_over, goes-did, goes-stays, room-goes, sound-goes, stands-did, stands-stays}

-- what a feed says that isn't asked
abbrev pub unheard : {P : Type 0} → Bool → FeedAnswer P
unheard ready = record { ready = ready; given = given.Stop }

-- a feed that isn't asked
unasked : (b : Bool) (A B : Type 0) → b ≡ false → B → MatchBool b A B
unasked b A B none given = subst (λ (c : Bool). MatchBool c A B) (sym none) given

pub goes-unasked : {P J : Type 0} (predicate : J → P → P → Bool) (old new : Contents P J) (actor : Actor) (same_join : new.join ≡ old.join) (feed : FeedState) → GoesWith predicate old feed → (result : Stepped) → ((ready : Bool) → asks actor old.state.next ready ≡ false)
    → ((answer : FeedAnswer P) → StepsTo (predicate old.join) actor answer old.state result new.state) → Gathers actor old result new → GoesWith predicate new feed
goes-unasked predicate old new actor same_join feed goes Did none step gathers = goes-did predicate old new actor same_join feed feed goes (unheard false) (step (unheard false)) gathers (unasked (asks actor old.state.next false) _ _ (none false) refl)
goes-unasked predicate old new actor same_join feed goes (NotEnabled why) none step gathers = goes-stays predicate old new actor same_join feed feed goes (NotEnabled why) (unheard false) (step (unheard false)) gathers (λ same. cc) refl
goes-unasked predicate old new actor same_join feed goes Memory none step gathers = goes-stays predicate old new actor same_join feed feed goes Memory (unheard false) (step (unheard false)) gathers (λ same. cc) refl

pub steps-unasked : {P F : Type 0} (gives : F → Given P → F → Type 0) (is_ready : F → Bool) (matches : P → P → Bool) (actor : Actor) (old : ChainState P) (from : F) (result : Stepped) (new : ChainState P) → ((ready : Bool) → asks actor old.next ready ≡ false)
    → ((answer : FeedAnswer P) → StepsTo matches actor answer old result new) → Steps gives is_ready matches actor old from result new from
steps-unasked gives is_ready matches actor old from Did new none step = record { answer = unheard (is_ready from); ready = refl; chain = step (unheard (is_ready from)); feed = unasked (asks actor old.next (is_ready from)) _ _ (none (is_ready from)) refl }
steps-unasked gives is_ready matches actor old from (NotEnabled why) new none step = record { answer = unheard (is_ready from); ready = refl; chain = step (unheard (is_ready from)); feed = refl }
steps-unasked gives is_ready matches actor old from Memory new none step = record { answer = unheard (is_ready from); ready = refl; chain = step (unheard (is_ready from)); feed = refl }

-- an actor that collects nothing leaves the collector and the kept pairs
module _ {P J : Type 0} (old new : Contents P J) (others : new ≡ record old { state = new.state }) where
  pub same-join : new.join ≡ old.join
  same-join = ap (λ (c : Contents P J). c.join) others

  pub same-kept : (new.collector ≡ old.collector) × (new.kept ≡ old.kept)
  same-kept = (ap (λ (c : Contents P J). c.collector) others, ap (λ (c : Contents P J). c.kept) others)

module _ {P J F : Type 0} (predicate : J → P → P → Bool) (gives : F → Given P → F → Type 0) (is_ready : F → Bool) (old new : Contents P J) (sound : Sound predicate old) (same_join : new.join ≡ old.join) (actor : Actor) (from to : F) where
  did-further : Steps gives is_ready (predicate old.join) actor old.state from Did new.state to → Gathers actor old Did new → (schedule : List Actor) (events : List (Event P)) (given : ℕ) → StandsFor predicate old schedule events given
      → StandsFurther gives predicate (schedule ++ actor ∷ []) events given from new to
  did-further step gathers schedule events given stands =
      let further = stands-did predicate old new actor step.answer same_join sound schedule events given stands step.chain gathers in
      record {
        taken = asked actor old.state.next step.answer;
        feed = goes_over gives from to actor old.state.next step.answer step.feed;
        stands = further;
        few = few_steps (predicate new.join) (length new.state.cores) new.state.driver.flight further.reached;
      }

  -- `called` is the actor as the caller names it
  pub stands-further : (called : Actor) → called ≡ actor → (result : Stepped) → Steps gives is_ready (predicate old.join) actor old.state from result new.state to → Gathers actor old result new
      → (schedule : List Actor) (events : List (Event P)) (given : ℕ) → StandsFor predicate old schedule events given → result ≡ Did → StandsFurther gives predicate (schedule ++ called ∷ []) events given from new to
  stands-further called is result step gathers schedule events given stands did =
      subst (λ (a : Actor). StandsFurther gives predicate (schedule ++ a ∷ []) events given from new to) (sym is)
      (did-further (subst (λ (r : Stepped). Steps gives is_ready (predicate old.join) actor old.state from r new.state to) did step) (subst (λ (r : Stepped). Gathers actor old r new) did gathers) schedule events given stands)

  pub stands-put : (result : Stepped) → Steps gives is_ready (predicate old.join) actor old.state from result new.state to → Gathers actor old result new
      → (schedule : List Actor) (events : List (Event P)) (given : ℕ) → StandsFor predicate old schedule events given → result ≢ Did → StandsFor predicate new schedule events given
  stands-put result step gathers schedule events given stands other = stands-stays predicate old new actor step.answer same_join result schedule events given stands step.chain gathers other

module _ {P J F : Type 0} (predicate : J → P → P → Bool) (gives : F → Given P → F → Type 0) (is_ready : F → Bool) (state : F → FeedState) (old new : Contents P J) (same_join : new.join ≡ old.join) (actor : Actor) (from : F) (goes : GoesWith predicate old (state from)) (result : Stepped)
    (gathers : Gathers actor old result new) where
  sound : Sound predicate old
  sound = sound-goes predicate old (state from) goes

  -- `called` is the actor as the caller names it
  pub makes-step : (called : Actor) → called ≡ actor → (to : F) → Steps gives is_ready (predicate old.join) actor old.state from result new.state to
      → (was_asked actor old.state.next (is_ready from) result ≡ true → IfSome new.state.next (λ given. Answers given (state from) (state to))) → GoesWith predicate new (state to)
      → MakesStep gives is_ready state predicate called old from result new to
  makes-step called is to step answers further =
      subst (λ (a : Actor). MakesStep gives is_ready state predicate a old from result new to) (sym is)
      (record {
        step = step;
        answers = answers;
        join = same_join;
        gathers = gathers;
        room = room-goes predicate new (state to) further;
        goes = further;
        stands = stands-further predicate gives is_ready old new sound same_join actor from to actor refl result step gathers;
        stays = stands-put predicate gives is_ready old new sound same_join actor from to result step gathers;
      })

  module _ (none : (ready : Bool) → asks actor old.state.next ready ≡ false) where
    not-asked : (made : Stepped) → was_asked actor old.state.next (is_ready from) made ≡ false
    not-asked Did = none (is_ready from)
    not-asked (NotEnabled why) = refl
    not-asked Memory = refl

    -- where the actor asks no feed
    pub makes-unasked : (called : Actor) → called ≡ actor → ((answer : FeedAnswer P) → StepsTo (predicate old.join) actor answer old.state result new.state) → MakesStep gives is_ready state predicate called old from result new from
    makes-unasked called is step =
        makes-step called is from (steps-unasked gives is_ready (predicate old.join) actor old.state from result new.state none step) (λ was. absurd (true≢false (sym was ∙ not-asked result)))
        (goes-unasked predicate old new actor same_join (state from) goes result none step gathers)
