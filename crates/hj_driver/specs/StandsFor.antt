-- A driver stands for a log: it keeps what the log leaves outstanding.
use Rattle.std.specs.Prelude.{◌≡◌, ℕ, ◌==◌, Bool, true, false, List, [], ◌∷◌, length, None, Some, if◌then◌else◌}
use Rattle.std.specs.declared.option.Option.{Option}
use Rattle.std.specs.List.{cons_option, list_any}
use Rattle.hj_base.specs.declared.numbers.EventNo.{EventNo}
use Rattle.hj_base.specs.declared.numbers.Side.{Side}
use Rattle.hj_base.specs.declared.numbers.Side.TheVariants.{Left, Right}
use Rattle.hj_msg.specs.declared.event.Event.{Event}
use Rattle.hj_msg.specs.declared.event.Event.TheVariants.{Arrive, Expire, Quiet}
use Rattle.hj_msg.specs.declared.message.Msg.{Msg}
use Rattle.hj_msg.specs.declared.message.Msg.TheVariants.{CloseL, CloseR}
use Rattle.hj_msg.specs.Messages.{is_R, is_S, is_EndR, is_EndS, is_ExpR, is_ExpS, is_QuietL, is_QuietR}
use Rattle.hj_msg.specs.Event.{IsWellFormed}
use Rattle.hj_msg.specs.Driver.{DriverTurn, admission, receipt, closing, admitted, took, outstanding, came_out, IsLawful}
use Rattle.hj_driver.specs.declared.answers.Why.{Why}
use Rattle.hj_driver.specs.declared.answers.Why.TheVariants.{Flight, NotMarked, Closed}
use Rattle.hj_driver.specs.declared.answers.Closing.{Closing}
use Rattle.hj_driver.specs.declared.answers.Closing.TheVariants.{Send, Wait, Already}
use Rattle.hj_driver.specs.declared.closes.Closes.{Closes}
use Rattle.hj_driver.specs.declared.closes.Closes.TheVariants.{Unsent, Sent}
use Rattle.hj_driver.specs.declared.lane.Departure.TheVariants.{Row, End}
use Rattle.hj_driver.specs.declared.lane.OutstandingArrival.{OutstandingArrival}
use Rattle.hj_driver.specs.Driver.{DriverState}

-- an arrival of which the row was taken, or the end mark, or neither; with both it has left
abbrev pub arrival_with : EventNo → (row_taken end_taken : Bool) → Option OutstandingArrival
arrival_with at false false = Some (record { no = at; taken = None })
arrival_with at true false = Some (record { no = at; taken = Some Row })
arrival_with at false true = Some (record { no = at; taken = Some End })
arrival_with at true true = None

-- the arrival of a side that an event is, if it is outstanding after this log
abbrev pub arrival_after : {P : Type 0} → Side → Event P → List (DriverTurn P) → Option OutstandingArrival
arrival_after Left (Arrive at Left row) log = arrival_with at (took Right (is_R at.0) log) (took Left (is_EndR at.0) log)
arrival_after Right (Arrive at Right row) log = arrival_with at (took Left (is_S at.0) log) (took Right (is_EndS at.0) log)
arrival_after side event log = None

-- the row of a side whose expiry an event is, if it is outstanding after this log
abbrev pub expiry_after : {P : Type 0} → Side → Event P → List (DriverTurn P) → Option EventNo
expiry_after Left (Expire at Left of) log = if took Left (is_ExpR of.0) log then None else Some of
expiry_after Right (Expire at Right of) log = if took Right (is_ExpS of.0) log then None else Some of
expiry_after side event log = None

-- the quiet event of a side that an event is, if it is outstanding after this log
abbrev pub quiet_after : {P : Type 0} → Side → Event P → List (DriverTurn P) → Option EventNo
quiet_after Left (Quiet at Left) log = if took Right (is_QuietL at.0) log then None else Some at
quiet_after Right (Quiet at Right) log = if took Left (is_QuietR at.0) log then None else Some at
quiet_after side event log = None

-- what a log leaves of the events that were put, each as it is after the turns behind it
abbrev pub outstanding_by : {P X : Type 0} → (Event P → List (DriverTurn P) → Option X) → List (DriverTurn P) → List X
outstanding_by after [] = []
outstanding_by after (admission event ∷ later) = cons_option (after event later) (outstanding_by after later)
outstanding_by after (receipt port message ∷ later) = outstanding_by after later
outstanding_by after (closing ∷ later) = outstanding_by after later

-- The outstanding arrivals, expiries and quiet events of a side, each with what was taken of it since it was put.
abbrev pub arrivals_of : {P : Type 0} → Side → List (DriverTurn P) → List OutstandingArrival
arrivals_of side log = outstanding_by (arrival_after side) log

abbrev pub expiries_of : {P : Type 0} → Side → List (DriverTurn P) → List EventNo
expiries_of side log = outstanding_by (expiry_after side) log

abbrev pub quiets_of : {P : Type 0} → Side → List (DriverTurn P) → List EventNo
quiets_of side log = outstanding_by (quiet_after side) log

abbrev pub is_CloseL : {P : Type 0} → Msg P → Bool
is_CloseL CloseL = true
is_CloseL other = false

abbrev pub is_CloseR : {P : Type 0} → Msg P → Bool
is_CloseR CloseR = true
is_CloseR other = false

-- Whether the closes were put, and which of them was taken since: that of the left end leaves at the right one.
abbrev pub closes_of : {P : Type 0} → List (DriverTurn P) → Closes
closes_of [] = Unsent
closes_of (admission event ∷ later) = closes_of later
closes_of (receipt port message ∷ later) = closes_of later
closes_of (closing ∷ later) = Sent (took Right is_CloseL later) (took Left is_CloseR later)

-- The log is lawful over the events put in it, which are well formed; and the driver keeps what the log leaves outstanding.
pub record StandsFor {P : Type 0} (driver : DriverState) (log : List (DriverTurn P)) : Type 0 where
  pub well_formed : IsWellFormed (admitted log)
  pub lawful : IsLawful driver.flight (admitted log) log
  pub left_arrivals : driver.left_arrivals ≡ arrivals_of Left log
  pub left_expiries : driver.left_expiries ≡ expiries_of Left log
  pub right_arrivals : driver.right_arrivals ≡ arrivals_of Right log
  pub right_expiries : driver.right_expiries ≡ expiries_of Right log
  pub left_quiets : driver.left_quiets ≡ quiets_of Left log
  pub right_quiets : driver.right_quiets ≡ quiets_of Right log
  pub closes : driver.closes ≡ closes_of log

abbrev pub is_closing : {P : Type 0} → DriverTurn P → Bool
is_closing (admission event) = false
is_closing (receipt port message) = false
is_closing closing = true

-- the row of an expiry hasn't come out since its arrival was put
abbrev pub not_out : {P : Type 0} → Event P → List (DriverTurn P) → Option Why
not_out (Arrive at side row) log = None
not_out (Expire at side of) log = if came_out side of.0 log then None else Some (NotMarked of)
not_out (Quiet at side) log = None

-- Why an event may not be put behind a log, if so: the closes were put; or as many events are outstanding as may be; or it is
-- an expiry whose row hasn't come out.
abbrev pub cause_after : {P : Type 0} → ℕ → Event P → List (DriverTurn P) → Option Why
cause_after flight event log =
    if list_any is_closing log then Some Closed
    else (if length (outstanding log) == flight then Some (Flight (length (outstanding log))) else not_out event log)

-- The answer to a wish to close behind a log.
abbrev pub closing_after : {P : Type 0} → List (DriverTurn P) → Closing
closing_after log =
    if list_any is_closing log then Already
    else (if length (outstanding log) == 0 then Send else Wait (length (outstanding log)))
