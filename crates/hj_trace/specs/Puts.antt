-- Where an event's message is put: at a port, and away from it.
use Rattle.std.specs.Prelude.{List, [], ◌∷◌}
use Rattle.hj_base.specs.declared.numbers.Side.{Side}
use Rattle.hj_base.specs.declared.numbers.Side.TheVariants.{Left, Right}
use Rattle.hj_msg.specs.declared.event.Event.{Event}
use Rattle.hj_msg.specs.declared.message.Msg.{Msg}
use Rattle.hj_msg.specs.Driver.{message_of, port_of}

-- what goes to the left, and what goes to the right, of a message that is put at a port
abbrev pub leftward_from : {P : Type 0} → Side → Msg P → List (Msg P)
leftward_from Left message = []
leftward_from Right message = message ∷ []

abbrev pub rightward_from : {P : Type 0} → Side → Msg P → List (Msg P)
rightward_from Left message = message ∷ []
rightward_from Right message = []

-- the same of the message of an event
abbrev pub event_leftward : {P : Type 0} → Event P → List (Msg P)
event_leftward event = leftward_from (port_of event) (message_of event)

abbrev pub event_rightward : {P : Type 0} → Event P → List (Msg P)
event_rightward event = rightward_from (port_of event) (message_of event)
