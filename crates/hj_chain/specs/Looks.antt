-- What is seen of a chain from outside: what an actor would take.
use Rattle.std.specs.Prelude.{◌-◌, List, length, slice_get, None, Some}
use Rattle.std.specs.declared.option.Option.{Option}
use Rattle.hj_msg.specs.declared.message.Msg.{Msg}
use Rattle.hj_msg.specs.Driver.{DriverTurn, admission, receipt, closing}
use Rattle.hj_chain.specs.Chain.{Action, asks, drives, handles, collects}

abbrev pub message_received : {P : Type 0} → DriverTurn P → Option (Msg P)
message_received (admission event) = None
message_received (receipt port message) = Some message
message_received closing = None

-- the message that an actor takes, if it takes one
abbrev pub message_taken : {P : Type 0} → Option (Action P) → Option (Msg P)
message_taken None = None
message_taken (Some asks) = None
message_taken (Some (drives turn)) = message_received turn
message_taken (Some (handles place end message)) = Some message
message_taken (Some (collects place report)) = None

-- the last element of a queue
abbrev pub last : {X : Type 0} → List X → Option X
last queue = slice_get queue (length queue - 1)
