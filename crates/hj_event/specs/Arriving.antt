-- What taking the next arrival of two sides says of the arrivals to come, and of their roles.
use Rattle.std.specs.Prelude.{◌≡◌, ℕ, Bool, true, false, List, Ok, Err, None, Some, int_le, if◌then◌else◌}
use Rattle.std.specs.declared.option.Option.{Option}
use Rattle.std.specs.declared.result.Result.{Result}
use Rattle.hj_value.specs.declared.field.Field.{Field}
use Rattle.hj_value.specs.Row.{time_of}
use Rattle.hj_base.specs.declared.numbers.Side.{Side}
use Rattle.hj_base.specs.declared.numbers.Side.TheVariants.{Left, Right}
use Rattle.hj_base.specs.declared.outside.Role.{Role}
use Rattle.hj_base.specs.declared.outside.Role.TheVariants as role
use Rattle.hj_base.specs.Outside.{RoleState, ChangesOnlyStreams}
use Rattle.hj_record.specs.Pieces.{Stream}
use Rattle.hj_window.specs.LiveRows.{is_same_side}
use Rattle.hj_event.specs.declared.stop.SideStop.{SideStop}
use Rattle.hj_event.specs.declared.stop.SideStop.TheVariants as stop
use Rattle.hj_event.specs.declared.stop.MergeEnd.{MergeEnd}
use Rattle.hj_event.specs.declared.stop.MergeEnd.TheVariants as last
use Rattle.hj_event.specs.Arrivals.{Arrivals, then_arrivals, no_arrival, clean, bad, unread}
use Rattle.hj_event.specs.Sides.{Sides, in_front, Follows, arrivals_ahead}
use Rattle.hj_event.specs.Roles.{IsReadOn}
use Rattle.hj_event.specs.Taking.{IsReadAsNeeded, unseen}

-- how the merge ends where a side stops
abbrev pub last_of : Side → SideStop → MergeEnd
last_of side (stop.Bad at why) = last.Bad side at why
last_of side stop.Failed = last.Failed side
last_of side stop.Memory = last.Memory

-- Taking the next arrival. After an ending nothing is said of the arrivals behind it.
abbrev pub ArrivalLeads : Result (Side × List Field) MergeEnd → Arrivals → Arrivals → Type 0
ArrivalLeads (Ok arrival) ahead behind = ahead ≡ then_arrivals arrival.0 arrival.1 behind
ArrivalLeads (Err last.Done) ahead behind = ahead ≡ no_arrival clean
ArrivalLeads (Err (last.Bad side at why)) ahead behind = ahead ≡ no_arrival (bad side at why)
ArrivalLeads (Err (last.Failed side)) ahead behind = ahead ≡ no_arrival (unread side)
ArrivalLeads (Err last.TooMany) ahead behind = ⊥
ArrivalLeads (Err last.Memory) ahead behind = Unit {0}

-- a read of this side failed
abbrev pub fails_last : MergeEnd → Side → Bool
fails_last last.Done side = false
fails_last (last.Bad of at why) side = false
fails_last (last.Failed of) side = is_same_side of side
fails_last last.TooMany side = false
fails_last last.Memory side = false

abbrev pub fails : Result (Side × List Field) MergeEnd → Side → Bool
fails (Ok arrival) side = false
fails (Err why) side = fails_last why side

abbrev pub EndsBoth : Result (Side × List Field) MergeEnd → Bool → Bool → Type 0
EndsBoth (Err last.Done) left right = (left ≡ true) × (right ≡ true)
EndsBoth answer left right = Unit {0}

-- Of two heads the one that arrives first: the one with the lesser time, on a tie the left one.
abbrev pub first_side : Option (List Field) → Option (List Field) → Side
first_side None None = Left
first_side (Some left) None = Left
first_side None (Some right) = Right
first_side (Some left) (Some right) = if int_le (time_of left) (time_of right) then Left else Right

abbrev pub head_on : Side → Sides → Option (List Field)
head_on Left sides = sides.left.head
head_on Right sides = sides.right.head

abbrev pub without_head : Side → Sides → Sides
without_head Left sides = record sides { left = unseen sides.left }
without_head Right sides = record sides { right = unseen sides.right }

-- Of the heads of two sides the one that arrives first is taken; none where there are none.
abbrev pub TakesHead : Option (Side × List Field) → Sides → Sides → Type 0
TakesHead None old new = (old.left.head ≡ None) × (old.right.head ≡ None) × (new ≡ old)
TakesHead (Some arrival) old new =
    (first_side old.left.head old.right.head ≡ arrival.0) × (head_on arrival.0 old ≡ Some arrival.1) × (new ≡ without_head arrival.0 old)

pub record TakesArrival (answer : Result (Side × List Field) MergeEnd) (old new : Sides) (before now : Role → RoleState) : Type 0 where
  pub left_bytes : List ℕ
  pub right_bytes : List ℕ
  pub left : IsReadOn (fails answer Left) left_bytes old.left.reading.ended new.left.reading.ended (before role.Left) (now role.Left)
  pub right : IsReadOn (fails answer Right) right_bytes old.right.reading.ended new.right.reading.ended (before role.Right) (now role.Right)
  pub others : ChangesOnlyStreams before now
  pub leads : (l r : Stream) → Follows (fails answer Left) new.left.reading.ended l → Follows (fails answer Right) new.right.reading.ended r → ArrivalLeads answer (arrivals_ahead old (in_front left_bytes l) (in_front right_bytes r)) (arrivals_ahead new l r)
  pub ended : EndsBoth answer new.left.reading.ended new.right.reading.ended
  pub left_needed : IsReadAsNeeded old.left.head old.left left_bytes (before role.Left) (now role.Left)
  pub right_needed : IsReadAsNeeded old.right.head old.right right_bytes (before role.Right) (now role.Right)
