-- What is awaited is under way: a count of what is still to come, kept by each step below a weight of the messages under way.
use Rattle.std.proofs.Common.{◌≡◌, ℕ, suc, ◌+◌, ◌<◌, ◌≤◌, ◌⊎◌, inl, inr, Bool, List, ◌++◌, length, replicate, Some, refl, sym, subst, arith}
use Rattle.hj_base.specs.declared.numbers.Side.{Side}
use Rattle.hj_base.specs.declared.numbers.Side.TheVariants.{Left, Right}
use Rattle.hj_msg.specs.declared.event.Event.{Event}
use Rattle.hj_msg.specs.declared.feed.Given.{Given}
use Rattle.hj_msg.specs.declared.message.Msg.{Msg}
use Rattle.hj_msg.specs.declared.message.Msg.TheVariants.{CloseL, CloseR}
use Rattle.hj_msg.specs.Core as core
use Rattle.hj_msg.specs.Core.{State, empty_state, sends}
use Rattle.hj_msg.specs.Driver.{message_of, port_of}
use Rattle.hj_driver.specs.Driver.{DriverState, new_driver, after_put, after_take, closed}
use Rattle.hj_chain.specs.declared.actor.Actor.{Actor}
use Rattle.hj_chain.specs.Links.{changed_at}
use Rattle.hj_chain.specs.Chain.{FeedAnswer, ChainState, Action, after_action, empty_chain}
use Rattle.hj_chain.specs.Reached.{Reached, StepHistory, no_history, recorded}
use Rattle.hj_msg.specs.Feed.{event_in}
use Rattle.hj_chain.proofs.Doing.{Doing, admits, shuts, receives, works, gathers, taken_by, inquires}
use Rattle.hj_chain.proofs.Induction.{by_steps}
use Rattle.hj_chain.proofs.Shape.{Shape, links-length}
use Rattle.hj_chain.proofs.Totals.{sum_of}
use Rattle.hj_chain.proofs.Weighing.{Weights, load, load-put_in, load-take_out, load-handles, load-put_both, at_entry, at_exit, at_end}

-- nothing is awaited any more, or no more than before of what is left
abbrev pub Fewer : (now gone before : ℕ) → Type 0
Fewer now gone before = (now ≡ 0) ⊎ (now + gone ≤ before)

-- What is awaited, by the driver and by what the cores keep: each put adds what is awaited, and what is taken or handled isn't
-- awaited any more, or goes on.
pub record Owes {P : Type 0} (n : ℕ) (weights : Weights (Msg P)) (owed : DriverState → List (State P) → ℕ) : Type 0 where
  pub beginning : (most : ℕ) → owed (new_driver most) (replicate n empty_state) ≡ 0
  pub putting : (event : Event P) (driver : DriverState) (cores : List (State P)) → owed (after_put event driver) cores ≤ owed driver cores + at_entry weights (port_of event) n (message_of event)
  pub closing : (driver : DriverState) (cores : List (State P)) → owed (closed driver) cores ≤ owed driver cores + at_entry weights Left n CloseL + at_entry weights Right n CloseR
  pub taking : (port : Side) (message : Msg P) (driver : DriverState) (cores : List (State P)) → Fewer (owed (after_take port message driver) cores) (at_exit weights port n message) (owed driver cores)
  pub handling : (end : Side) (place : ℕ) (message : Msg P) (driver : DriverState) (cores : List (State P)) → place < n → length cores ≡ n
      → Fewer (owed driver (changed_at place (λ old. core.after place n old message) cores)) (at_end weights end place message)
      (owed driver cores + sum_of (weights.leftwards place) (sends place n message).left + sum_of (weights.rightwards (place + 1)) (sends place n message).right)

fewer : (now gone before load_now load_before : ℕ) → Fewer now gone before → load_now + gone ≡ load_before → before ≤ load_before → now ≤ load_now
fewer now gone before load_now load_before less loads old = elim less [
  | inl none ↦ omega (arith, none)
  | inr few ↦ omega (arith, few, loads, old)
]

module _ {P : Type 0} (weights : Weights (Msg P)) (owed : DriverState → List (State P) → ℕ) where
  -- what is awaited is under way
  abbrev Carried : ChainState P → Type 0
  Carried chain = owed chain.driver chain.cores ≤ load weights chain.links

  owed-step : (matches : P → P → Bool) (chain : ChainState P) (answer : FeedAnswer P) → Owes (length chain.cores) weights owed → length chain.links ≡ length chain.cores + 1
      → (action : Action P) → Doing chain action → Carried chain → Carried (after_action matches chain (Some action) answer)
  owed-step matches chain answer owes all action (inquires is) old = old
  owed-step matches chain answer owes all action (admits event is free) old =
      omega (arith, old, load-put_in weights (length chain.cores) chain.links all (port_of event) (message_of event), owes.putting event chain.driver chain.cores)
  owed-step matches chain answer owes all action (shuts is free) old =
      omega (arith, old, load-put_both weights (length chain.cores) chain.links all CloseL CloseR, owes.closing chain.driver chain.cores)
  owed-step matches chain answer owes all action (receives port message rest is) old =
      fewer _ _ _ _ _ (owes.taking port message chain.driver chain.cores) (load-take_out weights (length chain.cores) chain.links all port message rest is) old
  owed-step matches chain answer owes all action (works place end message rest low is room) old =
      let n = length chain.cores in
      fewer _ _ _ _ _ (owes.handling end place message chain.driver chain.cores low refl) (load-handles weights n chain.links all end place message rest (sends place n message).left (sends place n message).right low is) (omega (arith, old))
  owed-step matches chain answer owes all action (gathers place report rest low is) old = old

  module _ (matches : P → P → Bool) (n most : ℕ) (owes : Owes n weights owed) where
    abbrev Kept : ℕ → List (Event P) → ChainState P → StepHistory P → Type 0
    Kept number events chain history = Carried chain

    begin : (first : Given P) → Kept 0 (event_in (Some first)) (empty_chain n most first) no_history
    begin first = omega (arith, owes.beginning most)

    step : (number : ℕ) (events : List (Event P)) (chain : ChainState P) (history : StepHistory P) (action : Action P) (answer : FeedAnswer P)
        → Shape n most chain → Doing chain action → Kept number events chain history
        → Kept (suc number) (events ++ taken_by action answer) (after_action matches chain (Some action) answer) (recorded matches chain number (Some action) history)
    step number events chain history action answer shape doing old =
        owed-step matches chain answer (subst (λ m. Owes m weights owed) (sym shape.cores) owes) (omega (arith, links-length n most chain shape, shape.cores)) action doing old

    pub under_way : {schedule : List Actor} {events : List (Event P)} {chain : ChainState P} → Reached matches n most schedule events chain → owed chain.driver chain.cores ≤ load weights chain.links
    under_way reached = by_steps matches n most Kept begin step reached
