-- The events that are to come after others: each takes the next number, an expiry names a live row, and they are few enough.
use Rattle.std.specs.Prelude.{◌≡◌, ◌≤◌, ℕ, ◌+◌, ◌==◌, ◌&&◌, Bool, true, List, [], ◌∷◌, length, is_none}
use Rattle.std.specs.List.{list_any}
use Rattle.hj_value.specs.declared.field.Field.{Field}
use Rattle.hj_base.specs.declared.numbers.Side.TheVariants.{Left, Right}
use Rattle.hj_msg.specs.declared.event.Event.{Event}
use Rattle.hj_msg.specs.declared.event.Event.TheVariants.{Arrive, Expire, Quiet}
use Rattle.hj_msg.specs.Event.{number}
use Rattle.hj_msg.specs.Feed.{Numbering, numbering_after, numbering_of}
use Rattle.hj_record.specs.Pieces.{Stream}
use Rattle.hj_event.specs.Merger.{Merging, events_from}
use Rattle.hj_event.specs.Sides.{MayFollow}

abbrev pub has_number : ℕ → List ℕ → Bool
has_number of numbers = list_any (λ at. at == of) numbers

-- whether an expiry names a live row of its side
abbrev pub names_live : {P : Type 0} → Numbering → Event P → Bool
names_live numbering (Arrive at side row) = true
names_live numbering (Expire at Left of) = has_number of.0 numbering.live_left
names_live numbering (Expire at Right of) = has_number of.0 numbering.live_right
names_live numbering (Quiet at side) = true

-- whether these events may come one after another, after this numbering
abbrev pub may_come : {P : Type 0} → Numbering → List (Event P) → Bool
may_come numbering [] = true
may_come numbering (event ∷ events) =
    (number event == numbering.next && names_live numbering event) && may_come (numbering_after numbering event) events

-- These events may come after the others, and are no more with them than the limit.
pub record MayComeBehind {P : Type 0} (limit : ℕ) (given later : List (Event P)) : Type 0 where
  pub numbered : may_come (numbering_of given) later ≡ true
  pub few : length given + length later ≤ limit

-- A merger goes on that gave these events: whatever comes of the streams, what it gives then may come after them.
pub record IsGoingOn (limit : ℕ) (merger : Merging) (given : List (Event (List Field))) : Type 0 where
  pub going : is_none merger.over ≡ true
  pub ahead : (left right : Stream) → MayFollow merger.sides.left.reading.ended left → MayFollow merger.sides.right.reading.ended right
      → MayComeBehind limit given (events_from merger left right).events
