-- What a driver keeps: the outstanding events of both sides, and the closes.
use Rattle.std.specs.Prelude.{◌≡◌, ℕ, ◌+◌, ◌^◌, ◌<◌, ◌≤◌, ◌==◌, Bool, true, false, not, ◌&&◌, List, [], ◌∷◌, ◌++◌, length, None, Some, if◌then◌else◌}
use Rattle.std.specs.declared.option.Option.{Option}
use Rattle.std.specs.List.{All, Contains, filter, filter_map, list_any}
use Rattle.hj_base.specs.declared.numbers.EventNo.{EventNo}
use Rattle.hj_base.specs.declared.numbers.Side.{Side}
use Rattle.hj_base.specs.declared.numbers.Side.TheVariants.{Left, Right}
use Rattle.hj_msg.specs.declared.event.Event.{Event}
use Rattle.hj_msg.specs.declared.event.Event.TheVariants.{Arrive, Expire, Quiet}
use Rattle.hj_msg.specs.declared.message.Msg.{Msg}
use Rattle.hj_msg.specs.declared.message.Msg.TheVariants.{R, EndS, ExpS, QuietL, CloseL, S, EndR, ExpR, QuietR, CloseR}
use Rattle.hj_msg.specs.Driver.{message_of, port_of}
use Rattle.hj_driver.specs.declared.answers.Why.{Why}
use Rattle.hj_driver.specs.declared.answers.Why.TheVariants.{Flight, NotMarked, Closed}
use Rattle.hj_driver.specs.declared.answers.Admitted.{Admitted}
use Rattle.hj_driver.specs.declared.answers.Admitted.TheVariants.{Send, Wait}
use Rattle.hj_driver.specs.declared.answers.Closing.{Closing}
use Rattle.hj_driver.specs.declared.answers.Closing.TheVariants as closing
use Rattle.hj_driver.specs.declared.closes.Closes.{Closes}
use Rattle.hj_driver.specs.declared.closes.Closes.TheVariants.{Unsent, Sent}
use Rattle.hj_driver.specs.declared.lane.Departure.TheVariants.{Row, End}
use Rattle.hj_driver.specs.declared.lane.OutstandingArrival.{OutstandingArrival}
use Rattle.hj_driver.specs.Lane.{LaneState, after_departure, is_other, waits_for}
use Rattle.hj_driver.specs.Leaving.{LeavingState}

-- The outstanding arrivals, expiries and quiet events of each side, the closes, and how many events may be outstanding. An expiry is kept by
-- the number of its row.
pub record DriverState : Type 0 where
  pub flight : ℕ
  pub left_arrivals : List OutstandingArrival
  pub left_expiries : List EventNo
  pub right_arrivals : List OutstandingArrival
  pub right_expiries : List EventNo
  pub left_quiets : List EventNo
  pub right_quiets : List EventNo
  pub closes : Closes

-- Each of its lists has room for all events that may be outstanding, and no more are.
pub record HasRoom (flight : ℕ) (left right : LaneState) (left_quiets right_quiets : LeavingState) : Type 0 where
  pub left_room : left.room ≡ flight
  pub right_room : right.room ≡ flight
  pub left_quiets_room : left_quiets.room ≡ flight
  pub right_quiets_room : right_quiets.room ≡ flight
  pub few : ((length left.arrivals + length left.expiries) + (length right.arrivals + length right.expiries)) + (length left_quiets.numbers + length right_quiets.numbers) ≤ flight
  pub small : flight < 2 ^ 16

abbrev pub new_driver : ℕ → DriverState
new_driver flight = record { flight = flight; left_arrivals = []; left_expiries = []; right_arrivals = []; right_expiries = []; left_quiets = []; right_quiets = []; closes = Unsent }

-- how many events are outstanding
abbrev pub count_of : DriverState → ℕ
count_of driver = ((length driver.left_arrivals + length driver.left_expiries) + (length driver.right_arrivals + length driver.right_expiries)) + (length driver.left_quiets + length driver.right_quiets)

abbrev pub is_sent : Closes → Bool
is_sent Unsent = false
is_sent (Sent left right) = true

-- both closes were taken
abbrev pub is_finished : Closes → Bool
is_finished Unsent = false
is_finished (Sent left right) = left && right

-- The close of an end was taken.
abbrev pub after_close_taken : Side → Closes → Closes
after_close_taken end Unsent = Unsent
after_close_taken Left (Sent left right) = Sent true right
after_close_taken Right (Sent left right) = Sent left true

-- the answer to a wish to close
abbrev pub closing_of : DriverState → Closing
closing_of driver = if is_sent driver.closes then closing.Already else (if count_of driver == 0 then closing.Send else closing.Wait (count_of driver))

-- the driver after it closed
abbrev pub closed : DriverState → DriverState
closed driver = record driver { closes = Sent false false }

-- What becomes of an outstanding arrival of a side, and whether an outstanding expiry of it stays, where this message is taken
-- at this port.
abbrev pub after_message : {P : Type 0} → Side → Side → Msg P → OutstandingArrival → Option OutstandingArrival
after_message Left Right (R at row) arrival = after_departure at.0 Row arrival
after_message Left Left (EndR at) arrival = after_departure at.0 End arrival
after_message Right Left (S at row) arrival = after_departure at.0 Row arrival
after_message Right Right (EndS at) arrival = after_departure at.0 End arrival
after_message side port message arrival = Some arrival

abbrev pub stays : {P : Type 0} → Side → Side → Msg P → EventNo → Bool
stays Left Left (ExpR of) expiry = is_other of.0 expiry
stays Right Right (ExpS of) expiry = is_other of.0 expiry
stays side port message expiry = true

-- and of an outstanding quiet event
abbrev pub quiet_stays : {P : Type 0} → Side → Side → Msg P → EventNo → Bool
quiet_stays Left Right (QuietL at) quiet = is_other at.0 quiet
quiet_stays Right Left (QuietR at) quiet = is_other at.0 quiet
quiet_stays side port message quiet = true

abbrev pub after_close : {P : Type 0} → Side → Msg P → Closes → Closes
after_close Right CloseL closes = after_close_taken Left closes
after_close Left CloseR closes = after_close_taken Right closes
after_close port message closes = closes

-- the driver after a message was taken at a port
abbrev pub after_take : {P : Type 0} → Side → Msg P → DriverState → DriverState
after_take port message driver = record {
  flight = driver.flight;
  left_arrivals = filter_map (after_message Left port message) driver.left_arrivals;
  left_expiries = filter (stays Left port message) driver.left_expiries;
  right_arrivals = filter_map (after_message Right port message) driver.right_arrivals;
  right_expiries = filter (stays Right port message) driver.right_expiries;
  left_quiets = filter (quiet_stays Left port message) driver.left_quiets;
  right_quiets = filter (quiet_stays Right port message) driver.right_quiets;
  closes = after_close port message driver.closes;
}

-- an arrival is put, or the expiry of a row
abbrev pub arrival_of : EventNo → OutstandingArrival
arrival_of number = record { no = number; taken = None }

abbrev pub after_put : {P : Type 0} → Event P → DriverState → DriverState
after_put (Arrive at Left row) driver = record driver { left_arrivals = driver.left_arrivals ++ arrival_of at ∷ [] }
after_put (Arrive at Right row) driver = record driver { right_arrivals = driver.right_arrivals ++ arrival_of at ∷ [] }
after_put (Expire at Left of) driver = record driver { left_expiries = driver.left_expiries ++ of ∷ [] }
after_put (Expire at Right of) driver = record driver { right_expiries = driver.right_expiries ++ of ∷ [] }
after_put (Quiet at Left) driver = record driver { left_quiets = driver.left_quiets ++ at ∷ [] }
after_put (Quiet at Right) driver = record driver { right_quiets = driver.right_quiets ++ at ∷ [] }

-- A new arrival's number is above those of its side, and a row's expiry isn't outstanding already.
abbrev pub IsNewEvent : {P : Type 0} → Event P → DriverState → Type 0
IsNewEvent (Arrive at Left row) driver = All (λ arrival. arrival.no.0 < at.0) driver.left_arrivals
IsNewEvent (Arrive at Right row) driver = All (λ arrival. arrival.no.0 < at.0) driver.right_arrivals
IsNewEvent (Expire at Left of) driver = ¬ (Contains driver.left_expiries of)
IsNewEvent (Expire at Right of) driver = ¬ (Contains driver.right_expiries of)
IsNewEvent (Quiet at Left) driver = ¬ (Contains driver.left_quiets at)
IsNewEvent (Quiet at Right) driver = ¬ (Contains driver.right_quiets at)

-- why a driver lets an event wait, if it does
abbrev pub row_cause : {P : Type 0} → Event P → DriverState → Option Why
row_cause (Arrive at side row) driver = None
row_cause (Expire at Left of) driver = if list_any (waits_for of.0 Row) driver.left_arrivals then Some (NotMarked of) else None
row_cause (Expire at Right of) driver = if list_any (waits_for of.0 Row) driver.right_arrivals then Some (NotMarked of) else None
row_cause (Quiet at side) driver = None

abbrev pub cause_of : {P : Type 0} → Event P → DriverState → Option Why
cause_of event driver =
    if is_sent driver.closes then Some Closed
    else (if count_of driver == driver.flight then Some (Flight (count_of driver)) else row_cause event driver)

-- the message of an expiry, by the number of its row, or of a quiet event is still to come
abbrev pub is_awaited : ℕ → List EventNo → Bool
is_awaited number expiries = list_any (λ of. number == of.0) expiries

-- the close of an end was sent, and is still to be taken
abbrev pub awaits_close : Side → Closes → Bool
awaits_close end Unsent = false
awaits_close Left (Sent left right) = not left
awaits_close Right (Sent left right) = not right

-- The driver waits for this message at this port: an outstanding event leaves by it and it wasn't taken, or it is a close that
-- was sent and not taken.
abbrev pub awaits : {P : Type 0} → Side → Msg P → DriverState → Bool
awaits Right (R at row) driver = list_any (waits_for at.0 Row) driver.left_arrivals
awaits Left (EndR at) driver = list_any (waits_for at.0 End) driver.left_arrivals
awaits Left (ExpR of) driver = is_awaited of.0 driver.left_expiries
awaits Left (S at row) driver = list_any (waits_for at.0 Row) driver.right_arrivals
awaits Right (EndS at) driver = list_any (waits_for at.0 End) driver.right_arrivals
awaits Right (ExpS of) driver = is_awaited of.0 driver.right_expiries
awaits Right (QuietL at) driver = is_awaited at.0 driver.left_quiets
awaits Left (QuietR at) driver = is_awaited at.0 driver.right_quiets
awaits Right CloseL driver = awaits_close Left driver.closes
awaits Left CloseR driver = awaits_close Right driver.closes
awaits port message driver = false

-- what is answered to an event, where this is why it waits, if it does
abbrev pub answer_to : {P : Type 0} → Event P → Option Why → Admitted P
answer_to event None = Send (port_of event) (message_of event)
answer_to event (Some why) = Wait why event

abbrev pub is_send : {P : Type 0} → Admitted P → Bool
is_send (Send port message) = true
is_send (Wait why event) = false
