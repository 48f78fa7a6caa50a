-- What a worker has in hand.
use Rattle.std.specs.Prelude.{List, [], None}
use Rattle.std.specs.declared.option.Option.{Option}
use Rattle.hj_msg.specs.declared.message.Msg.{Msg}
use Rattle.hj_msg.specs.declared.message.Report.{Report}
use Rattle.hj_core.specs.declared.sends.Sends.{Sends}
use Rattle.hj_core.specs.Sent.{sent}
use Rattle.hj_worker.specs.declared.hand.Hand.{Hand}
use Rattle.hj_worker.specs.declared.hand.Hand.TheVariants.{Nothing, Rest, Refused}
use Rattle.hj_worker.specs.Outgoing.{Outgoing, in_order}

-- what its last turn made and it couldn't put yet, in order; or the message for which memory ran out
pub data InHand (P : Type 0) : Type 0 where
  unput : (items : List (Outgoing P)) → InHand P
  refused : (message : Msg P) → InHand P

module _ {P : Type 0} where
  -- the things of a core's answer, in order
  abbrev pub things_of : Sends P → List (Outgoing P)
  things_of sends = in_order (sent sends) sends.entry

  -- those of an answer of which nothing goes to the left
  abbrev pub things_to_right : Option (Msg P) → Option (Msg P) → Option (Report P) → List (Outgoing P)
  things_to_right to_right to_right_then entry =
      things_of (record { to_left = None; to_right = to_right; to_right_then = to_right_then; entry = entry })

  abbrev pub in_hand : Hand P → InHand P
  in_hand Nothing = unput []
  in_hand (Rest sends) = unput (things_of sends)
  in_hand (Refused message) = refused message
