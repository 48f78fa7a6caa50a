-- What all calls of a merger together gave of the bytes that it read.
use Rattle.std.specs.Prelude.{◌≡◌, ℕ, List, ◌++◌}
use Rattle.hj_value.specs.declared.field.Field.{Field}
use Rattle.hj_msg.specs.declared.event.Event.{Event}
use Rattle.hj_query.specs.QueryParts.{QueryParts}
use Rattle.hj_record.specs.Pieces.{Stream}
use Rattle.hj_event.specs.declared.merger.Next.{Next}
use Rattle.hj_event.specs.declared.merger.Next.TheVariants as next
use Rattle.hj_event.specs.Arrivals.{clean, bad, unread, too_many}
use Rattle.hj_event.specs.Events.{NumberedEvents, events_of}
use Rattle.hj_event.specs.Merger.{Merging, events_from}
use Rattle.hj_event.specs.Numbering.{no_event}
use Rattle.hj_event.specs.Sides.{in_front, MayFollow}

-- these events in front of the others
abbrev pub then_events : List (Event (List Field)) → NumberedEvents → NumberedEvents
then_events events others = record { events = events ++ others.events; ending = others.ending }

-- After some calls: these bytes were read of each side and these events given, and whatever comes behind the bytes, the
-- events of both streams are those that were given, and then those that are to come.
abbrev pub HasGiven : QueryParts → ℕ → List ℕ → List ℕ → List (Event (List Field)) → Merging → Type 0
HasGiven query limit left right events now =
    (l r : Stream) → MayFollow now.sides.left.reading.ended l → MayFollow now.sides.right.reading.ended r
    → events_of query (in_front left l) (in_front right r) limit ≡ then_events events (events_from now l r)

-- Behind an answer that is no event, what the events of both streams are: those that were given, and this ending. Nothing is
-- said where memory ran out.
abbrev pub GivesAll : Next → List (Event (List Field)) → NumberedEvents → Type 0
GivesAll (next.Event event) events all = Unit {0}
GivesAll next.Done events all = all ≡ then_events events (no_event clean)
GivesAll (next.Bad side at why) events all = all ≡ then_events events (no_event (bad side at why))
GivesAll (next.Failed side) events all = all ≡ then_events events (no_event (unread side))
GivesAll next.TooMany events all = all ≡ then_events events (no_event too_many)
GivesAll next.Memory events all = Unit {0}
