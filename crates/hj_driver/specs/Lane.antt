-- The outstanding events of one side.
use Rattle.std.specs.Prelude.{◌≡◌, ℕ, ◌<◌, ◌==◌, Bool, true, false, not, ◌&&◌, List, [], ◌∷◌, length, None, Some, slice_index_or, if◌then◌else◌}
use Rattle.std.specs.declared.option.Option.{Option}
use Rattle.std.specs.List.{All, Contains}
use Rattle.hj_base.specs.declared.numbers.EventNo.{EventNo}
use Rattle.hj_driver.specs.declared.lane.Departure.{Departure}
use Rattle.hj_driver.specs.declared.lane.Departure.TheVariants.{Row, End}
use Rattle.hj_driver.specs.declared.lane.OutstandingArrival.{OutstandingArrival}

-- the arrivals and the expiries, each by the number of its row, and how many of each kind there is room for
pub record LaneState : Type 0 where
  pub arrivals : List OutstandingArrival
  pub expiries : List EventNo
  pub room : ℕ

-- each number is below those behind it
abbrev pub IsRising : List OutstandingArrival → Type 0
IsRising [] = Unit {0}
IsRising (arrival ∷ later) = All (λ other. arrival.no.0 < other.no.0) later × IsRising later

-- no number stands twice
abbrev pub AreDistinct : List EventNo → Type 0
AreDistinct [] = Unit {0}
AreDistinct (of ∷ later) = ¬ (Contains later of) × AreDistinct later

-- the two messages by which an arrival leaves
abbrev pub is_same : Departure → Departure → Bool
is_same Row Row = true
is_same End End = true
is_same departure other = false

-- Behind one of its messages an arrival has left where the other one was taken before.
abbrev pub with_departure : Departure → OutstandingArrival → Option Departure → Option OutstandingArrival
with_departure departure arrival None = Some (record { no = arrival.no; taken = Some departure })
with_departure departure arrival (Some before) = if is_same before departure then Some arrival else None

-- what becomes of each arrival where a message of the one of this number is taken
abbrev pub after_departure : ℕ → Departure → OutstandingArrival → Option OutstandingArrival
after_departure number departure arrival = if number == arrival.no.0 then with_departure departure arrival arrival.taken else Some arrival

-- whether a message of the arrival of this number is still to be taken
abbrev pub is_taken : Departure → Option Departure → Bool
is_taken departure None = false
is_taken departure (Some before) = is_same before departure

abbrev pub waits_for : ℕ → Departure → OutstandingArrival → Bool
waits_for number departure arrival = (number == arrival.no.0) && not (is_taken departure arrival.taken)

abbrev pub is_other : ℕ → EventNo → Bool
is_other number of = not (number == of.0)

-- the arrival of this number stands at this place
pub record IsAt (arrivals : List OutstandingArrival) (number at : ℕ) : Type 0 where
  pub in_range : at < length arrivals
  pub has_number : (default : OutstandingArrival) → (slice_index_or arrivals at default).no.0 ≡ number

-- no arrival has this number
abbrev pub IsAbsent : List OutstandingArrival → ℕ → Type 0
IsAbsent arrivals number = All (λ arrival. ¬ (arrival.no.0 ≡ number)) arrivals
