-- After each step what was put in and didn't come out is outstanding.
use Rattle.std.proofs.Common.{◌≡◌, ℕ, Bool, List, [], ◌∷◌, ◌++◌, length, Some, Option, ap, sym, ◌∙◌, subst}
use Rattle.hj_msg.specs.declared.event.Event.{Event}
use Rattle.hj_msg.specs.declared.feed.Given.{Given}
use Rattle.hj_msg.specs.Event.{IsWellFormed}
use Rattle.hj_msg.specs.Driver.{admitted}
use Rattle.hj_msg.proofs.Numbered.{front_is_well_formed}
use Rattle.hj_driver.proofs.ComingOut.{is_new}
use Rattle.hj_driver.proofs.MayClose.{may_close}
use Rattle.hj_chain.specs.declared.actor.Actor.{Actor}
use Rattle.hj_chain.specs.Chain.{FeedAnswer, ChainState, Action, after_action}
use Rattle.hj_chain.specs.Reached.{Reached, begins, steps, StepHistory, recorded, history_of, asked}
use Rattle.hj_msg.specs.Feed.{event_in}
use Rattle.hj_chain.proofs.Doing.{Doing, Deed, deed, inquires, admits, shuts, receives, works, gathers}
use Rattle.hj_chain.proofs.Shape.{shape}
use Rattle.hj_chain.proofs.Driving.{Driven, driven, turns_of}
use Rattle.hj_chain.proofs.Balance.{Balanced, balanced-begin, balanced-admission, balanced-closing, balanced-receipt}

module _ {P : Type 0} (matches : P → P → Bool) (n most : ℕ) where
  balanced-step : (number : ℕ) (events : List (Event P)) (chain : ChainState P) (history : StepHistory P) (action : Action P) (answer : FeedAnswer P) → Doing chain action
      → Driven events chain (turns_of history.log) → IsWellFormed events → Balanced chain.driver history.log
      → Balanced (after_action matches chain (Some action) answer).driver (recorded matches chain number (Some action) history).log
  balanced-step number events chain history action answer (inquires is) driving well old = old
  balanced-step number events chain history action answer (admits event next free) driving well old =
      let now : events ≡ admitted (turns_of history.log) ++ event ∷ [] = driving.events_are ∙ ap (λ (g : Option (Given P)). admitted (turns_of history.log) ++ event_in g) next in
      balanced-admission chain.driver history.log number old event (is_new event chain.driver (turns_of history.log) driving.stands (subst IsWellFormed now well))
  balanced-step number events chain history action answer (shuts next free) driving well old = balanced-closing chain.driver history.log number old (may_close chain.driver free).0
  balanced-step number events chain history action answer (receives port message rest is) driving well old = balanced-receipt chain.driver history.log number old port message
  balanced-step number events chain history action answer (works place end message rest low is room) driving well old = old
  balanced-step number events chain history action answer (gathers place report rest low is) driving well old = old

  pub balanced : {schedule : List Actor} {events : List (Event P)} {chain : ChainState P} (reached : Reached matches n most schedule events chain) → IsWellFormed events → Balanced chain.driver (history_of reached).log
  balanced (begins some first) well = balanced-begin P most
  balanced (steps schedule events chain actor answer before enabled) well =
      let done : Deed chain actor = deed chain actor (shape before).going enabled in
      let well_before = front_is_well_formed events (asked actor chain.next answer) well in
      subst (λ (o : Option (Action P)). Balanced (after_action matches chain o answer).driver (recorded matches chain (length schedule) o (history_of before)).log) (sym done.is)
      (balanced-step (length schedule) events chain (history_of before) done.action answer done.doing (driven matches n most before well_before) well_before (balanced before well_before))
