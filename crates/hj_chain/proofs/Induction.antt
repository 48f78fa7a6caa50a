-- What holds of the empty chain and is kept by each step holds of every chain that steps lead to.
use Rattle.std.proofs.Common.{◌≡◌, ℕ, suc, Bool, List, [], ◌∷◌, ◌++◌, length, Some, Option, sym, subst, arith, length-append}
use Rattle.hj_msg.specs.declared.event.Event.{Event}
use Rattle.hj_msg.specs.declared.feed.Given.{Given}
use Rattle.hj_chain.specs.declared.actor.Actor.{Actor}
use Rattle.hj_chain.specs.Chain.{FeedAnswer, ChainState, Action, action_of, after_action, empty_chain}
use Rattle.hj_chain.specs.Reached.{Reached, begins, steps, StepHistory, no_history, recorded, history_of, asked}
use Rattle.hj_msg.specs.Feed.{event_in}
use Rattle.hj_chain.proofs.Doing.{Doing, Deed, deed, taken_by}
use Rattle.hj_chain.proofs.Shape.{Shape, shape}

length-push : {X : Type 0} (xs : List X) (x : X) → suc (length xs) ≡ length (xs ++ x ∷ [])
length-push xs x = omega (arith, length-append xs (x ∷ []))

module _ {P : Type 0} (matches : P → P → Bool) (n most : ℕ) (Kept : ℕ → List (Event P) → ChainState P → StepHistory P → Type 0)
    (begin : (first : Given P) → Kept 0 (event_in (Some first)) (empty_chain n most first) no_history)
    (step : (number : ℕ) (events : List (Event P)) (chain : ChainState P) (history : StepHistory P) (action : Action P) (answer : FeedAnswer P)
    → Shape n most chain → Doing chain action → Kept number events chain history
    → Kept (suc number) (events ++ taken_by action answer) (after_action matches chain (Some action) answer) (recorded matches chain number (Some action) history)) where
  pub by_steps : {schedule : List Actor} {events : List (Event P)} {chain : ChainState P} (reached : Reached matches n most schedule events chain) → Kept (length schedule) events chain (history_of reached)
  by_steps (begins some first) = begin first
  by_steps (steps schedule events chain actor answer before enabled) =
      let done : Deed chain actor = deed chain actor (shape before).going enabled in
      let kept = step (length schedule) events chain (history_of before) done.action answer (shape before) done.doing (by_steps before) in
      let at_actor : Kept (suc (length schedule)) (events ++ asked actor chain.next answer) (after_action matches chain (action_of chain actor) answer) (recorded matches chain (length schedule) (action_of chain actor) (history_of before)) =
      subst (λ (o : Option (Action P)). Kept (suc (length schedule)) (events ++ asked actor chain.next answer) (after_action matches chain o answer) (recorded matches chain (length schedule) o (history_of before))) (sym done.is)
      (subst (λ (es : List (Event P)). Kept (suc (length schedule)) (events ++ es) (after_action matches chain (Some done.action) answer) (recorded matches chain (length schedule) (Some done.action) (history_of before))) (sym (done.takes answer)) kept) in
      subst (λ (number : ℕ). Kept number (events ++ asked actor chain.next answer) (after_action matches chain (action_of chain actor) answer) (recorded matches chain (length schedule) (action_of chain actor) (history_of before))) (length-push schedule actor) at_actor
