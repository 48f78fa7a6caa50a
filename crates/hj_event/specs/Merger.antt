-- What contracts see of a merger: a state from which the events to come are a function of the bytes to come.
use Rattle.std.specs.Prelude.{◌≡◌, ℕ, Bool, true, false, List, [], None, Some, Ok, Err}
use Rattle.std.specs.declared.option.Option.{Option}
use Rattle.std.specs.declared.result.Result.{Result}
use Rattle.hj_value.specs.declared.field.Field.{Field}
use Rattle.hj_base.specs.declared.numbers.Side.{Side}
use Rattle.hj_base.specs.declared.numbers.Side.TheVariants.{Left, Right}
use Rattle.hj_base.specs.declared.outside.Role.{Role}
use Rattle.hj_base.specs.declared.outside.Role.TheVariants as role
use Rattle.hj_base.specs.Outside.{RoleState, ChangesOnlyStreams}
use Rattle.hj_msg.specs.declared.event.Event.{Event}
use Rattle.hj_query.specs.QueryParts.{QueryParts}
use Rattle.hj_record.specs.Pieces.{Stream}
use Rattle.hj_event.specs.declared.merger.Next.{Next}
use Rattle.hj_event.specs.declared.merger.Next.TheVariants as next
use Rattle.hj_event.specs.declared.stop.MergeEnd.{MergeEnd}
use Rattle.hj_event.specs.declared.stop.MergeEnd.TheVariants as last
use Rattle.hj_event.specs.Arrivals.{Arrivals, then_arrivals, clean, bad, unread, too_many}
use Rattle.hj_event.specs.Arriving.{TakesArrival, fails_last}
use Rattle.hj_event.specs.Events.{NumberedEvents, events_of}
use Rattle.hj_event.specs.Numbering.{NumberingState, numbered_ahead, has_due, no_event, then_event}
use Rattle.hj_event.specs.Roles.{IsReadOn, IsUnread}
use Rattle.hj_event.specs.Sides.{Sides, in_front, Follows, arrivals_ahead}
use Rattle.hj_event.specs.Taking.{IsReadAsNeeded}

pub record Merging : Type 0 where
  pub sides : Sides
  pub numbering : NumberingState
  -- the answer that every call gives from now on
  pub over : Option MergeEnd

-- The events to come, where these streams come.
abbrev pub events_from : Merging → Stream → Stream → NumberedEvents
events_from merging left right = numbered_ahead merging.numbering (arrivals_ahead merging.sides left right)

abbrev pub answer_of : MergeEnd → Next
answer_of last.Done = next.Done
answer_of (last.Bad side at why) = next.Bad side at why
answer_of (last.Failed side) = next.Failed side
answer_of last.TooMany = next.TooMany
answer_of last.Memory = next.Memory

-- the answer that stays behind this one
abbrev pub stays_by : Next → Option MergeEnd
stays_by (next.Event event) = None
stays_by next.Done = Some last.Done
stays_by (next.Bad side at why) = Some (last.Bad side at why)
stays_by (next.Failed side) = Some (last.Failed side)
stays_by next.TooMany = Some last.TooMany
stays_by next.Memory = Some last.Memory

-- a read of this side failed
abbrev pub fails_next : Next → Side → Bool
fails_next (next.Failed of) side = fails_last (last.Failed of) side
fails_next answer side = false

-- What an answer says of the events to come before it and after it.
abbrev pub NextLeads : Next → NumberedEvents → NumberedEvents → Type 0
NextLeads (next.Event event) ahead behind = ahead ≡ then_event event behind
NextLeads next.Done ahead behind = ahead ≡ no_event clean
NextLeads (next.Bad side at why) ahead behind = ahead ≡ no_event (bad side at why)
NextLeads (next.Failed side) ahead behind = ahead ≡ no_event (unread side)
NextLeads next.TooMany ahead behind = ahead ≡ no_event too_many
NextLeads next.Memory ahead behind = Unit {0}

-- Both roles have answered their ends where all is done.
abbrev pub IsAllRead : Next → Bool → Bool → Type 0
IsAllRead next.Done left right = (left ≡ true) × (right ≡ true)
IsAllRead answer left right = Unit {0}

-- A call of a merger that gave no last answer before: these bytes of the two roles were read, and whatever comes behind them,
-- the answer is what the events to come say.
pub record TakesNext (answer : Next) (old new : Merging) (before now : Role → RoleState) : Type 0 where
  pub left_bytes : List ℕ
  pub right_bytes : List ℕ
  pub left : IsReadOn (fails_next answer Left) left_bytes old.sides.left.reading.ended new.sides.left.reading.ended (before role.Left) (now role.Left)
  pub right : IsReadOn (fails_next answer Right) right_bytes old.sides.right.reading.ended new.sides.right.reading.ended (before role.Right) (now role.Right)
  pub others : ChangesOnlyStreams before now
  pub leads : (l r : Stream) → Follows (fails_next answer Left) new.sides.left.reading.ended l → Follows (fails_next answer Right) new.sides.right.reading.ended r → NextLeads answer (events_from old (in_front left_bytes l) (in_front right_bytes r)) (events_from new l r)
  pub ended : IsAllRead answer new.sides.left.reading.ended new.sides.right.reading.ended
  pub stays : new.over ≡ stays_by answer
  -- where an event is due, nothing is read
  pub due : has_due old.numbering.due ≡ true → IsUnread left_bytes (before role.Left) (now role.Left) × IsUnread right_bytes (before role.Right) (now role.Right)
  -- no role is read ahead
  pub left_needed : IsReadAsNeeded old.sides.left.head old.sides.left left_bytes (before role.Left) (now role.Left)
  pub right_needed : IsReadAsNeeded old.sides.right.head old.sides.right right_bytes (before role.Right) (now role.Right)

-- the answer to a step
abbrev pub next_of : Result (Event (List Field)) MergeEnd → Next
next_of (Ok event) = next.Event event
next_of (Err last) = answer_of last

-- A step of a merger is a call of it but for the answer that stays.
abbrev pub StepsToAnswer : Result (Event (List Field)) MergeEnd → Merging → Merging → (Role → RoleState) → (Role → RoleState) → Type 0
StepsToAnswer step old new before now = TakesNext (next_of step) old (record new { over = stays_by (next_of step) }) before now × (new.over ≡ old.over)

-- The next arrival is taken, whose events are due then.
pub record IsDue (old new : Merging) (before now : Role → RoleState) : Type 0 where
  pub arrival : Side × List Field
  pub takes : TakesArrival (Ok arrival) old.sides new.sides before now
  pub numbers : (arrivals : Arrivals) → numbered_ahead old.numbering (then_arrivals arrival.0 arrival.1 arrivals) ≡ numbered_ahead new.numbering arrivals
  pub due : has_due new.numbering.due ≡ true
  pub over : new.over ≡ old.over

-- The same, or the arrivals end.
abbrev pub LetsArrive : {T : Type 0} → Result T MergeEnd → Merging → Merging → (Role → RoleState) → (Role → RoleState) → Type 0
LetsArrive (Ok done) old new before now = IsDue old new before now
LetsArrive (Err why) old new before now = StepsToAnswer (Err why) old new before now

-- A last answer is given again, and nothing is read.
abbrev pub Repeats : MergeEnd → Next → Merging → Merging → (Role → RoleState) → (Role → RoleState) → Type 0
Repeats last answer old new before now = (answer ≡ answer_of last) × (new ≡ old) × ((of : Role) → now of ≡ before of)

abbrev pub AnswersFrom : Option MergeEnd → Next → Merging → Merging → (Role → RoleState) → (Role → RoleState) → Type 0
AnswersFrom None answer old new before now = TakesNext answer old new before now
AnswersFrom (Some last) answer old new before now = Repeats last answer old new before now

-- A call of `next`.
abbrev pub AnswersNext : Next → Merging → Merging → (Role → RoleState) → (Role → RoleState) → Type 0
AnswersNext answer old new before now = AnswersFrom old.over answer old new before now

-- By this call no bytes came.
abbrev pub TakesNoBytes : (over : Option MergeEnd) (answer : Next) (old new : Merging) (before now : Role → RoleState) → AnswersFrom over answer old new before now → Type 0
TakesNoBytes None answer old new before now takes = (takes.left_bytes ≡ []) × (takes.right_bytes ≡ [])
TakesNoBytes (Some last) answer old new before now repeats = Unit {0}

-- The next call reads nothing, whatever it answers: no bytes come, and each role stays as it was.
abbrev pub ReadsNothingNext : Merging → Type 0
ReadsNothingNext merging = (answer : Next) (new : Merging) (before now : Role → RoleState) (call : AnswersNext answer merging new before now)
    → TakesNoBytes merging.over answer merging new before now call × ((of : Role) → now of ≡ before of)

-- Nothing was read yet, and nothing given.
pub record IsNewMerger (query : QueryParts) (limit : ℕ) (merging : Merging) : Type 0 where
  pub left : merging.sides.left.reading.ended ≡ false
  pub right : merging.sides.right.reading.ended ≡ false
  pub over : merging.over ≡ None
  pub events : (left right : Stream) → events_from merging left right ≡ events_of query left right limit
