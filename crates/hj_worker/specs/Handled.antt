-- What is left where a core was to handle a message: the core and its ends before and after it, and what is in hand then.
use Rattle.std.specs.Prelude.{◌≡◌, ℕ, Bool, OnOk, OnErr}
use Rattle.std.specs.declared.result.Result.{Result}
use Rattle.hj_msg.specs.declared.message.Msg.{Msg}
use Rattle.hj_msg.specs.Core.{State, after}
use Rattle.hj_core.specs.Contents.{Contents, KeepsPlace}
use Rattle.hj_worker.specs.declared.ends.WorkerEnds.{WorkerEnds}
use Rattle.hj_worker.specs.declared.hand.Hand.{Hand}
use Rattle.hj_worker.specs.declared.hand.Hand.TheVariants.{Refused}
use Rattle.hj_worker.specs.Outgoing.{outgoing}
use Rattle.hj_worker.specs.Turning.{KeepsLinks, LeavesInHand}

pub record HandlesMessage {P J S A E : Type 0} (predicate : J → P → P → Bool) (rows : Contents P J S → State P) (turn : ℕ) (message : Msg P)
    (old new : Contents P J S) (ends ends' : WorkerEnds P) (hand : Hand P) (result : Result A E) : Type 0 where
  pub kept : KeepsPlace old new
  pub links : KeepsLinks ends ends'
  -- the core handled it, and what it makes of it was put under the number of a turn, up to what is in hand
  pub state : OnOk result (rows new ≡ after old.place old.cores (rows old) message)
  pub puts : OnOk result (LeavesInHand turn (outgoing (predicate old.join) old.place old.cores (rows old) message) ends hand ends')
  -- memory ran out, nothing was put, and the message is in hand
  pub refused : OnErr result ((hand ≡ Refused message) × (rows new ≡ rows old) × (ends' ≡ ends))
