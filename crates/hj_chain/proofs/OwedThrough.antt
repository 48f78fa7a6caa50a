-- What the driver alone awaits, and messages that every core passes on, from one end of the chain to the other.
use Rattle.std.proofs.Common.{◌≡◌, ℕ, ◌+◌, ◌≤◌, inr, Bool, arith}
use Rattle.hj_base.specs.declared.numbers.Side.{Side}
use Rattle.hj_base.specs.declared.numbers.Side.TheVariants.{Left, Right}
use Rattle.hj_msg.specs.declared.event.Event.{Event}
use Rattle.hj_msg.specs.declared.message.Msg.{Msg}
use Rattle.hj_msg.specs.declared.message.Msg.TheVariants.{CloseL, CloseR}
use Rattle.hj_msg.specs.Core.{sends}
use Rattle.hj_msg.specs.Driver.{message_of, port_of}
use Rattle.hj_driver.specs.Driver.{DriverState, new_driver, after_put, after_take, closed}
use Rattle.hj_chain.proofs.Awaited.{one}
use Rattle.hj_chain.proofs.Owing.{Owes, Fewer}
use Rattle.hj_chain.proofs.Totals.{sum_of}
use Rattle.hj_chain.proofs.Weighing.{Weights, at_entry, at_exit, at_end}

-- messages of a kind that go through to the right port, or to the left one
abbrev pub to_right : {P : Type 0} → (Msg P → Bool) → Weights (Msg P)
to_right kind = record { rightwards = λ k message. one (kind message); leftwards = λ k message. 0 }

abbrev pub to_left : {P : Type 0} → (Msg P → Bool) → Weights (Msg P)
to_left kind = record { rightwards = λ k message. 0; leftwards = λ k message. one (kind message) }

module _ {P : Type 0} (n : ℕ) where
  -- what a core takes of some weight it sends on
  abbrev pub Handles : Weights (Msg P) → Type 0
  Handles weights = (end : Side) (place : ℕ) (message : Msg P)
      → at_end weights end place message ≤ sum_of (weights.leftwards place) (sends place n message).left + sum_of (weights.rightwards (place + 1)) (sends place n message).right

  -- what is awaited is told by the driver alone
  pub owes-driver : (weights : Weights (Msg P)) (awaited : DriverState → ℕ) → ((most : ℕ) → awaited (new_driver most) ≡ 0)
      → ((event : Event P) (driver : DriverState) → awaited (after_put event driver) ≤ awaited driver + at_entry weights (port_of event) n (message_of event))
      → ((driver : DriverState) → awaited (closed driver) ≤ awaited driver + at_entry weights Left n CloseL + at_entry weights Right n CloseR)
      → ((port : Side) (message : Msg P) (driver : DriverState) → Fewer (awaited (after_take port message driver)) (at_exit weights port n message) (awaited driver)) → Handles weights
      → Owes n weights (λ driver cores. awaited driver)
  owes-driver weights awaited beginning putting closing taking handling = record {
    beginning = beginning;
    putting = λ event driver cores. putting event driver;
    closing = λ driver cores. closing driver;
    taking = λ port message driver cores. taking port message driver;
    handling = λ end place message driver cores low all. inr (omega (arith, handling end place message));
  }

  module _ (kind : Msg P → Bool) where
    pub handles-right : ((place : ℕ) (message : Msg P) → one (kind message) ≤ sum_of (λ (m : Msg P). one (kind m)) (sends place n message).right) → Handles (to_right kind)
    handles-right passes Left place message = omega (arith, passes place message)
    handles-right passes Right place message = omega arith

    pub handles-left : ((place : ℕ) (message : Msg P) → one (kind message) ≤ sum_of (λ (m : Msg P). one (kind m)) (sends place n message).left) → Handles (to_left kind)
    handles-left passes Left place message = omega arith
    handles-left passes Right place message = omega (arith, passes place message)
