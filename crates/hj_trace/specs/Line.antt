-- The line of a step in a trace: who makes it, what is taken, what is put to the left and to the right, and what is reported. It
-- is told by the chain before the step and by the actor.
use Rattle.std.specs.Prelude.{ℕ, Bool, List, [], ◌∷◌, ◌++◌, length, slice_index_or, codes, None, Some}
use Rattle.std.specs.declared.option.Option.{Option}
use Rattle.hj_msg.specs.declared.message.Msg.{Msg}
use Rattle.hj_msg.specs.declared.message.Msg.TheVariants.{CloseL, CloseR}
use Rattle.hj_msg.specs.declared.message.Report.{Report}
use Rattle.hj_msg.specs.Core.{empty_state, sends, report}
use Rattle.hj_msg.specs.Driver.{DriverTurn, admission, receipt, closing}
use Rattle.hj_chain.specs.declared.actor.Actor.{Actor}
use Rattle.hj_chain.specs.Chain.{Action, asks, drives, handles, collects, ChainState, action_of}
use Rattle.hj_trace.specs.Actors.{actor_text}
use Rattle.hj_trace.specs.Messages.{nothing, message_text, messages_text, report_text}
use Rattle.hj_trace.specs.Puts.{event_leftward, event_rightward}

-- what the driver takes
abbrev pub received : {P : Type 0} → DriverTurn P → List ℕ
received (admission event) = nothing
received (receipt port message) = message_text message
received closing = nothing

-- the message or the report that is taken
abbrev pub taken_text : {P : Type 0} → Action P → List ℕ
taken_text asks = nothing
taken_text (drives turn) = received turn
taken_text (handles place end message) = message_text message
taken_text (collects place report) = report_text report

-- what the driver puts to the left
abbrev pub driven_leftward : {P : Type 0} → DriverTurn P → List (Msg P)
driven_leftward (admission event) = event_leftward event
driven_leftward (receipt port message) = []
driven_leftward closing = CloseR ∷ []

-- what is put to the left, in a chain of n cores
abbrev pub leftward : {P : Type 0} → ℕ → Action P → List (Msg P)
leftward n asks = []
leftward n (drives turn) = driven_leftward turn
leftward n (handles place end message) = (sends place n message).left
leftward n (collects place report) = []

-- what the driver puts to the right
abbrev pub driven_rightward : {P : Type 0} → DriverTurn P → List (Msg P)
driven_rightward (admission event) = event_rightward event
driven_rightward (receipt port message) = []
driven_rightward closing = CloseL ∷ []

-- what is put to the right, in a chain of n cores
abbrev pub rightward : {P : Type 0} → ℕ → Action P → List (Msg P)
rightward n asks = []
rightward n (drives turn) = driven_rightward turn
rightward n (handles place end message) = (sends place n message).right
rightward n (collects place report) = []

-- the report that is put, if one is
abbrev pub reported : {P : Type 0} → (P → P → Bool) → ChainState P → Action P → Option (Report P)
reported matches chain asks = None
reported matches chain (drives turn) = None
reported matches chain (handles place end message) = report matches (slice_index_or chain.cores place empty_state) message
reported matches chain (collects place report) = None

abbrev pub reported_text : {P : Type 0} → Option (Report P) → List ℕ
reported_text None = nothing
reported_text (Some report) = report_text report

-- What the line of a step says behind the actor, in a chain of n cores that does this: its front, and then what is reported.
abbrev pub front_text : {P : Type 0} → ℕ → Action P → List ℕ
front_text n action = taken_text action ++ codes "," ++ messages_text (leftward n action) ++ codes "," ++ messages_text (rightward n action) ++ codes ","

abbrev pub step_text : {P : Type 0} → (P → P → Bool) → ChainState P → Action P → List ℕ
step_text matches chain action = front_text (length chain.cores) action ++ reported_text (reported matches chain action) ++ codes "\n"

-- An actor that finds nothing to do makes no step.
abbrev pub text_if : {P : Type 0} → (P → P → Bool) → ChainState P → Option (Action P) → List ℕ
text_if matches chain None = []
text_if matches chain (Some action) = step_text matches chain action

abbrev pub said : {P : Type 0} → (P → P → Bool) → ChainState P → Actor → List ℕ
said matches chain actor = text_if matches chain (action_of chain actor)

-- The line of a step of an actor: the actor, a comma, and what it says behind.
abbrev pub line_text : {P : Type 0} → (P → P → Bool) → ChainState P → Actor → List ℕ
line_text matches chain actor = actor_text actor ++ codes "," ++ said matches chain actor
