-- How two joins in a row end, and what they did to the streams and to the sink.
use Rattle.std.specs.Prelude.{◌≡◌, ◌≢◌, ℕ, Bool, true, false, List, []}
use Rattle.std.specs.Io.KnownBytes.{Appends}
use Rattle.std.specs.declared.option.Option.{Option}
use Rattle.hj_base.specs.declared.numbers.Side.TheVariants.{Left, Right}
use Rattle.hj_base.specs.declared.outside.Role.{Role}
use Rattle.hj_base.specs.declared.outside.Role.TheVariants as role
use Rattle.hj_base.specs.Outside.{RoleState}
use Rattle.hj_base.specs.Journals.{IsPrefix}
use Rattle.hj_query.specs.QueryParts.{QueryParts}
use Rattle.hj_record.specs.Pieces.{Stream}
use Rattle.hj_event.specs.Arrivals.{clean, bad, unread, too_many}
use Rattle.hj_event.specs.Roles.{IsReadOn}
use Rattle.hj_event.specs.Sides.{in_front, Follows}
use Rattle.hj_stream.specs.declared.outcome.Outcome.{Outcome}
use Rattle.hj_stream.specs.declared.outcome.Outcome.TheVariants as outcome
use Rattle.hj_stream.specs.JoinText.{JoinResult, join_result}
use Rattle.hj_stream.specs.Joining.{CountsSinkFault, FailsOn, WritesText}
use Rattle.hj_relay.specs.declared.ending.TwiceOutcome.{TwiceOutcome}
use Rattle.hj_relay.specs.declared.ending.TwiceOutcome.TheVariants as twice
use Rattle.hj_relay.specs.Relay.{relay, relay_result, whole}
use Rattle.hj_relay.specs.Rows.{IsTooLong}

-- How two joins ended, of which the first had so many events and the second ended so: a read that failed was one of the third stream.
abbrev pub twice_behind : ℕ → Outcome → TwiceOutcome
twice_behind first (outcome.Done events) = twice.Done first events
twice_behind first (outcome.SourceFault of) = twice.Second (outcome.SourceFault role.Third)
twice_behind first ended = twice.Second ended

-- Why a first join ended so that no second one was made: as its events end, or memory ran out.
abbrev pub EndsFirst : Outcome → JoinResult → Type 0
EndsFirst (outcome.Bad side at found) joined = joined.ending ≡ bad side at found
EndsFirst (outcome.SourceFault role.Left) joined = joined.ending ≡ unread Left
EndsFirst (outcome.SourceFault role.Right) joined = joined.ending ≡ unread Right
EndsFirst outcome.TooMany joined = joined.ending ≡ too_many
EndsFirst outcome.Memory joined = Unit {0}
EndsFirst ended joined = ⊥

-- What a second join wrote, by its outcome, where it wasn't done: the whole text of events that end so; a prefix of it where the sink
-- failed or memory ran out. Of the relay only a line or the whole is refused, as too long.
abbrev pub EndsSecond : Outcome → List ℕ → JoinResult → Type 0
EndsSecond (outcome.Bad Left at found) written joined = IsTooLong found × (written ≡ joined.text) × (joined.ending ≡ bad Left at found)
EndsSecond (outcome.Bad Right at found) written joined = (written ≡ joined.text) × (joined.ending ≡ bad Right at found)
EndsSecond (outcome.SourceFault role.Third) written joined = (written ≡ joined.text) × (joined.ending ≡ unread Right)
EndsSecond outcome.SinkFault written joined = IsPrefix written joined.text
EndsSecond outcome.TooMany written joined = (written ≡ joined.text) × (joined.ending ≡ too_many)
EndsSecond outcome.Memory written joined = IsPrefix written joined.text
EndsSecond ended written joined = ⊥

-- the join of a relay with a third stream
abbrev pub second_result : QueryParts → QueryParts → ℕ → Stream → Stream → Stream → JoinResult
second_result first second limit left right third = join_result second (whole (relay first left right limit)) third limit

-- What was written, by how the two joins of these streams ended.
abbrev pub WritesTwice : TwiceOutcome → List ℕ → QueryParts → QueryParts → ℕ → Stream → Stream → Stream → Type 0
WritesTwice (twice.Done events second_events) written first second limit left right third =
    WritesText (outcome.Done events) (relay first left right limit) (relay_result first left right limit)
    × WritesText (outcome.Done second_events) written (second_result first second limit left right third)
WritesTwice (twice.First ended) written first second limit left right third =
    (written ≡ []) × EndsFirst ended (relay_result first left right limit)
WritesTwice (twice.Second ended) written first second limit left right third =
    ((relay_result first left right limit).ending ≡ clean) × EndsSecond ended written (second_result first second limit left right third)

-- On which streams a read failed, the third one being that of a second join. A fault of the sink, or that memory ran out, may come
-- after a failed read, and stand for it.
abbrev pub FailsSecond : Outcome → Bool → Type 0
FailsSecond (outcome.SourceFault role.Third) third = third ≡ true
FailsSecond outcome.SinkFault third = Unit {0}
FailsSecond outcome.Memory third = Unit {0}
FailsSecond ended third = third ≡ false

abbrev pub FailsTwice : TwiceOutcome → Bool → Bool → Bool → Type 0
FailsTwice (twice.Done events second_events) left right third = (left ≡ false) × (right ≡ false) × (third ≡ false)
FailsTwice (twice.First ended) left right third = FailsOn ended left right × (third ≡ false)
FailsTwice (twice.Second ended) left right third = (left ≡ false) × (right ≡ false) × FailsSecond ended third

-- The first join's streams were read to their ends where a second one was made, the third one where that is done. Of the third one
-- nothing was read where no second join was made.
abbrev pub AreEnded : TwiceOutcome → Bool → Bool → Bool → (before now : RoleState) → Type 0
AreEnded (twice.Done events second_events) left right third before now = (left ≡ true) × (right ≡ true) × (third ≡ true)
AreEnded (twice.First ended) left right third before now = now ≡ before
AreEnded (twice.Second ended) left right third before now = (left ≡ true) × (right ≡ true)

-- Nothing changes but the roles of three streams.
abbrev pub ChangesThree : (Role → RoleState) → (Role → RoleState) → Type 0
ChangesThree before now = (of : Role) → of ≢ role.Left → of ≢ role.Right → of ≢ role.Third → now of ≡ before of

-- Two joins in a row: these bytes of three streams were read, this text was written, and whatever comes after the bytes, it is the text
-- that the ending says. Nothing comes after a read that answered the end, and after a failed one the stream is cut off.
pub record JoinsTwice (ended : TwiceOutcome) (first second : QueryParts) (limit : ℕ) (before now : Role → RoleState) (old new : Option (List ℕ)) : Type 0 where
  pub left_bytes : List ℕ
  pub right_bytes : List ℕ
  pub third_bytes : List ℕ
  pub left_failed : Bool
  pub right_failed : Bool
  pub third_failed : Bool
  pub left_ended : Bool
  pub right_ended : Bool
  pub third_ended : Bool
  pub left : IsReadOn left_failed left_bytes false left_ended (before role.Left) (now role.Left)
  pub right : IsReadOn right_failed right_bytes false right_ended (before role.Right) (now role.Right)
  pub third : IsReadOn third_failed third_bytes false third_ended (before role.Third) (now role.Third)
  pub failed : FailsTwice ended left_failed right_failed third_failed
  pub others : ChangesThree before now
  pub grown : List ℕ
  pub written : Appends old new grown
  pub text : (l r t : Stream) → Follows left_failed left_ended l → Follows right_failed right_ended r → Follows third_failed third_ended t
      → WritesTwice ended grown first second limit (in_front left_bytes l) (in_front right_bytes r) (in_front third_bytes t)
  pub ends : AreEnded ended left_ended right_ended third_ended (before role.Third) (now role.Third)

-- The sink's count of faults rose where the second join's outcome is its fault, and nowhere else.
abbrev pub CountsTwiceFault : TwiceOutcome → ℕ → ℕ → Type 0
CountsTwiceFault (twice.Done events second_events) old new = new ≡ old
CountsTwiceFault (twice.First ended) old new = new ≡ old
CountsTwiceFault (twice.Second ended) old new = CountsSinkFault ended old new
