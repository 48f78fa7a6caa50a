-- The log of the driver, which admits the events at the two ends of the chain (handshake join: Teubner and Mueller, SIGMOD
-- 2011) and takes out what leaves it. The rules of admission are this project's own profile.
use Rattle.std.specs.Prelude.{◌≡◌, ℕ, ◌<◌, Bool, false, ◌==◌, ◌&&◌, ◌||◌, IsTrue, List, [], ◌∷◌, ◌++◌, length, if◌then◌else◌}
use Rattle.std.specs.List.{list_any, Contains}
use Rattle.hj_base.specs.declared.numbers.Side.{Side}
use Rattle.hj_base.specs.declared.numbers.Side.TheVariants.{Left, Right}
use Rattle.hj_base.specs.Journals.{IsPrefix}
use Rattle.hj_msg.specs.declared.event.Event.{Event}
use Rattle.hj_msg.specs.declared.event.Event.TheVariants.{Arrive, Expire, Quiet}
use Rattle.hj_msg.specs.declared.message.Msg.{Msg}
use Rattle.hj_msg.specs.declared.message.Msg.TheVariants.{R, ExpS, QuietL, S, ExpR, QuietR}
use Rattle.hj_msg.specs.Messages.{is_R, is_S, is_EndR, is_EndS, is_ExpR, is_ExpS, is_QuietL, is_QuietR}

-- One turn: the put of an event's message on its port, the take of a message at a port, or the put of both closes.
pub data DriverTurn (P : Type 0) : Type 0 where
  admission : (event : Event P) → DriverTurn P
  receipt : (port : Side) (message : Msg P) → DriverTurn P
  closing : DriverTurn P

-- an event's message, and the port on which it is put
abbrev pub message_of : {P : Type 0} → Event P → Msg P
message_of (Arrive at Left row) = R at row
message_of (Arrive at Right row) = S at row
message_of (Expire at Left of) = ExpR of
message_of (Expire at Right of) = ExpS of
message_of (Quiet at Left) = QuietL at
message_of (Quiet at Right) = QuietR at

abbrev pub port_of : {P : Type 0} → Event P → Side
port_of (Arrive at Left row) = Left
port_of (Arrive at Right row) = Right
port_of (Expire at Left of) = Right
port_of (Expire at Right of) = Left
port_of (Quiet at Left) = Left
port_of (Quiet at Right) = Right

-- the events whose messages were put
abbrev pub admitted : {P : Type 0} → List (DriverTurn P) → List (Event P)
admitted [] = []
admitted (admission event ∷ later) = event ∷ admitted later
admitted (receipt port message ∷ later) = admitted later
admitted (closing ∷ later) = admitted later

-- whether this turn takes a message that passes a test, at this port
abbrev pub is_take : {P : Type 0} → Side → (Msg P → Bool) → DriverTurn P → Bool
is_take Left test (receipt Left message) = test message
is_take Right test (receipt Right message) = test message
is_take port test turn = false

abbrev pub took : {P : Type 0} → Side → (Msg P → Bool) → List (DriverTurn P) → Bool
took port test log = list_any (is_take port test) log

-- whether each message by which an event leaves the chain was taken, at its port
abbrev pub has_left : {P : Type 0} → Event P → List (DriverTurn P) → Bool
has_left (Arrive at Left row) log = took Right (is_R at.0) log && took Left (is_EndR at.0) log
has_left (Arrive at Right row) log = took Left (is_S at.0) log && took Right (is_EndS at.0) log
has_left (Expire at Left of) log = took Left (is_ExpR of.0) log
has_left (Expire at Right of) log = took Right (is_ExpS of.0) log
has_left (Quiet at Left) log = took Right (is_QuietL at.0) log
has_left (Quiet at Right) log = took Left (is_QuietR at.0) log

-- The outstanding events: those that haven't left since they were put.
abbrev pub outstanding : {P : Type 0} → List (DriverTurn P) → List (Event P)
outstanding [] = []
outstanding (admission event ∷ later) = if has_left event later then outstanding later else event ∷ outstanding later
outstanding (receipt port message ∷ later) = outstanding later
outstanding (closing ∷ later) = outstanding later

-- whether an event is the arrival of a row of this side, under this number
abbrev pub is_arrival : {P : Type 0} → Side → ℕ → Event P → Bool
is_arrival Left number (Arrive at Left row) = at.0 == number
is_arrival Right number (Arrive at Right row) = at.0 == number
is_arrival side number event = false

-- whether the row of an arrival was taken at the port where it comes out of its link
abbrev pub row_taken : {P : Type 0} → Event P → List (DriverTurn P) → Bool
row_taken (Arrive at Left row) log = took Right (is_R at.0) log
row_taken (Arrive at Right row) log = took Left (is_S at.0) log
row_taken (Expire at side of) log = false
row_taken (Quiet at side) log = false

-- whether a row of this side, under this number, came out since its arrival was put
abbrev pub came_out : {P : Type 0} → Side → ℕ → List (DriverTurn P) → Bool
came_out side number [] = false
came_out side number (admission event ∷ later) = (is_arrival side number event && row_taken event later) || came_out side number later
came_out side number (receipt port message ∷ later) = came_out side number later
came_out side number (closing ∷ later) = came_out side number later

-- The row of an expiry has come out of its link, at the port on which the expiry is put.
abbrev pub HasComeOut : {P : Type 0} → Event P → List (DriverTurn P) → Type 0
HasComeOut (Arrive at side row) earlier = Unit {0}
HasComeOut (Expire at side of) earlier = IsTrue (came_out side of.0 earlier)
HasComeOut (Quiet at side) earlier = Unit {0}

-- the closes come after all events, with none outstanding, and once
pub record ClosesLast {P : Type 0} (events : List (Event P)) (earlier : List (DriverTurn P)) : Type 0 where
  pub all : admitted earlier ≡ events
  pub none_outstanding : outstanding earlier ≡ []
  pub once : ¬ (Contains earlier closing)

-- A log keeps the rules over a list of events, with at most `flight` of them outstanding.
pub record IsLawful {P : Type 0} (flight : ℕ) (events : List (Event P)) (log : List (DriverTurn P)) : Type 0 where
  pub in_order : IsPrefix (admitted log) events
  pub in_flight : (earlier later : List (DriverTurn P)) (event : Event P) → log ≡ earlier ++ admission event ∷ later → length (outstanding earlier) < flight
  pub come_out : (earlier later : List (DriverTurn P)) (event : Event P) → log ≡ earlier ++ admission event ∷ later → HasComeOut event earlier
  pub closes : (earlier later : List (DriverTurn P)) → log ≡ earlier ++ closing ∷ later → ClosesLast events earlier
