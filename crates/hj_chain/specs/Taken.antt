-- The turn of a core that has begun: the first message that comes in at one of its ends was taken.
use Rattle.std.specs.Prelude.{◌≡◌, ◌<◌, ◌==◌, Bool, false, length, Some}
use Rattle.hj_base.specs.declared.numbers.CoreNo.{CoreNo}
use Rattle.hj_base.specs.declared.numbers.Side.{Side}
use Rattle.hj_msg.specs.declared.message.Msg.{Msg}
use Rattle.hj_chain.specs.declared.actor.Actor.TheVariants.{Core}
use Rattle.hj_chain.specs.declared.actor.Stepped.{Stepped}
use Rattle.hj_chain.specs.Chain.{Contents, FeedAnswer, capacity, first}
use Rattle.hj_chain.specs.Links.{incoming, take_in}
use Rattle.hj_chain.specs.Reports.{queue_at}
use Rattle.hj_chain.specs.Steps.{IsGoing, StepsTo}

-- This message was taken from the chain that was `before`; all else of that chain is as it was. Its core may make its step.
pub record HasTaken {P J : Type 0} (predicate : J → P → P → Bool) (core : CoreNo) (end : Side) (message : Msg P) (before now : Contents P J) : Type 0 where
  pub going : IsGoing predicate before
  pub within : core.0 < length before.state.cores
  pub room : (length (queue_at before.state.reports core.0) == capacity before.state.driver.flight) ≡ false
  pub came_in : first (incoming end core.0 before.state.links) ≡ Some message
  pub rest : now ≡ record before { state = record before.state { links = take_in end core.0 before.state.links } }

-- What the core's step answers, and what it leaves, from whatever chain the message was taken.
abbrev pub TurnsTo : {P J : Type 0} → (J → P → P → Bool) → CoreNo → Side → Msg P → Contents P J → Stepped → Contents P J → Type 0
TurnsTo {P} {J} predicate core end message old result new =
    (before : Contents P J) → HasTaken predicate core end message before old → (answer : FeedAnswer P) → StepsTo (predicate before.join) (Core core end) answer before.state result new.state
