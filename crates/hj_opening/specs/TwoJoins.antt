-- What a call of `twice` promises: the pairs of a first join, each behind the time at which it was joined, are the left stream of a
-- second one.
use Rattle.std.specs.Prelude.{◌≡◌, ◌≢◌, ◌⊎◌, ℕ, List, [], true}
use Rattle.std.specs.Io.KnownBytes.{Appends}
use Rattle.std.specs.declared.option.Option.{Option}
use Rattle.hj_base.specs.declared.numbers.Side.{Side}
use Rattle.hj_base.specs.declared.numbers.Side.TheVariants.{Left, Right}
use Rattle.hj_base.specs.declared.outside.Role.{Role}
use Rattle.hj_base.specs.declared.outside.Role.TheVariants as role
use Rattle.hj_base.specs.Journals.{IsPrefix}
use Rattle.hj_base.specs.Outside.{RoleState, IsOpen, role_of, unbegun}
use Rattle.hj_event.specs.declared.fault.RecordFault.{RecordFault}
use Rattle.hj_event.specs.Arrivals.{Ending, bad, clean, unread, too_many}
use Rattle.hj_event.specs.Events.{events_of}
use Rattle.hj_notes.specs.Notes.{events_note, query_note, record_note, refused_note, role_name, source_note, stream_note}
use Rattle.hj_notes.specs.TwiceText.{second_name, shape_note}
use Rattle.hj_query.specs.declared.fault.QueryFault.{QueryFault}
use Rattle.hj_query.specs.QueryParts.{QueryParts}
use Rattle.hj_record.specs.Pieces.{Stream}
use Rattle.hj_relay.specs.Fits.{Fits}
use Rattle.hj_relay.specs.Rows.{IsTooLong}
use Rattle.hj_relay.specs.Twice.{second_result}
use Rattle.hj_stream.specs.JoinText.{JoinResult}
use Rattle.hj_opening.specs.Calls.{Call}
use Rattle.hj_opening.specs.Keeping.{KeepsPromise, NothingFails, RefusesQuery, status_of_ending}
use Rattle.hj_opening.specs.Queries.{IsAccepted, IsRefused}
use Rattle.hj_opening.specs.Streams.{AreStreams, Fails, IsBegunUnder, IsReadToEnd, IsStream}
use Rattle.hj_opening.specs.Words.{TwiceNames}

-- ---- The roles.

abbrev pub IsTwiceRole : Role → Type 0
IsTwiceRole role.Query = Unit {0}
IsTwiceRole role.SecondQuery = Unit {0}
IsTwiceRole role.Left = Unit {0}
IsTwiceRole role.Right = Unit {0}
IsTwiceRole role.Third = Unit {0}
IsTwiceRole other = ⊥

-- all of them are open
abbrev pub AreAllOpen : (Role → RoleState) → Type 0
AreAllOpen now = (of : Role) → IsTwiceRole of → IsOpen (now of).phase

-- No role but those of the two queries is begun.
abbrev pub AreQueriesAlone : (Role → RoleState) → Type 0
AreQueriesAlone now = (of : Role) → of ≢ role.Query → of ≢ role.SecondQuery → (now of).phase ≡ unbegun

-- ---- The queries, by the bytes under their names and by what became of their roles.

abbrev pub AcceptsFirst : QueryParts → TwiceNames → (List ℕ → Option (List ℕ)) → (Role → RoleState) → (Role → RoleState) → Type 0
AcceptsFirst first names under before now = IsAccepted first names.query (under names.query) (before role.Query) (now role.Query)

abbrev pub AcceptsSecond : QueryParts → TwiceNames → (List ℕ → Option (List ℕ)) → (Role → RoleState) → (Role → RoleState) → Type 0
AcceptsSecond second names under before now =
    IsAccepted second names.second (under names.second) (before role.SecondQuery) (now role.SecondQuery)

-- Both queries are accepted, and the second one can read the pairs of the first join.
pub record AcceptsBoth (first second : QueryParts) (names : TwiceNames) (under : List ℕ → Option (List ℕ))
    (before now : Role → RoleState) : Type 0 where
  pub of_first : AcceptsFirst first names under before now
  pub of_second : AcceptsSecond second names under before now
  pub fits : Fits first second

-- The first query was accepted, and the second one refused. No role but theirs was begun, and nothing written.
pub record RefusesSecond (found : QueryFault) (names : TwiceNames) (call : Call) : Type 0 where
  pub first : QueryParts
  pub accepted : AcceptsFirst first names call.under call.before call.now
  pub refused : IsRefused found names.second (call.under names.second) (call.before role.SecondQuery) (call.now role.SecondQuery)
  pub alone : AreQueriesAlone call.now
  pub nothing : Appends call.old call.new []

-- Both queries were accepted, but the second one can't read the pairs of the first join. No role but theirs was begun, and nothing
-- written.
pub record RefusesShape (names : TwiceNames) (call : Call) : Type 0 where
  pub first : QueryParts
  pub second : QueryParts
  pub of_first : AcceptsFirst first names call.under call.before call.now
  pub of_second : AcceptsSecond second names call.under call.before call.now
  pub unfit : ¬ (Fits first second)
  pub alone : AreQueriesAlone call.now
  pub nothing : Appends call.old call.new []

-- ---- The joins.

-- Both queries of a call are accepted; these are the streams of its first join.
pub record FirstJoin (names : TwiceNames) (call : Call) : Type 0 where
  pub first : QueryParts
  pub second : QueryParts
  pub accepted : AcceptsBoth first second names call.under call.before call.now
  pub left : Stream
  pub right : Stream
  pub streams : AreStreams names.streams call.under call.before call.now left right

-- and this is the third stream
pub record BothJoins (names : TwiceNames) (call : Call) : Type 0 where
  pub of_first : FirstJoin names call
  pub third : Stream
  pub of_third : IsStream (call.under names.third) role.Third call.before call.now third

module _ {names : TwiceNames} {call : Call} where
  -- how the events of the first join end
  abbrev pub first_ending : FirstJoin names call → ℕ → Ending
  first_ending of limit = (events_of of.first of.left of.right limit).ending

  -- the second join
  abbrev pub second_join : BothJoins names call → ℕ → JoinResult
  second_join both limit =
      second_result both.of_first.first both.of_first.second limit both.of_first.left both.of_first.right both.third

-- The events of the first join end so, and nothing was written.
pub record EndsInFirst (ending : Ending) (names : TwiceNames) (limit : ℕ) (call : Call) : Type 0 where
  pub joins : FirstJoin names call
  pub ends : first_ending joins limit ≡ ending
  pub nothing : Appends call.old call.new []

-- The events of the first join end with both streams, those of the second one end so, and the whole text of the second one was written.
pub record WritesSecond (ending : Ending) (names : TwiceNames) (limit : ℕ) (call : Call) : Type 0 where
  pub joins : BothJoins names call
  pub first_ends : first_ending joins.of_first limit ≡ clean
  pub ends : (second_join joins limit).ending ≡ ending
  pub written : Appends call.old call.new (second_join joins limit).text

-- And all three streams were read to their ends.
pub record WritesAllThree (names : TwiceNames) (limit : ℕ) (call : Call) : Type 0 where
  pub writes : WritesSecond clean names limit call
  pub left_whole : writes.joins.of_first.left.whole ≡ true
  pub right_whole : writes.joins.of_first.right.whole ≡ true
  pub third_whole : writes.joins.third.whole ≡ true
  pub left_ended : IsReadToEnd names.streams.left (call.now role.Left)
  pub right_ended : IsReadToEnd names.streams.right (call.now role.Right)
  pub third_ended : IsReadToEnd names.third (call.now role.Third)

-- The bytes are a front of the text of the second join.
pub record BeginsSecond (grown : List ℕ) (names : TwiceNames) (limit : ℕ) (call : Call) : Type 0 where
  pub joins : BothJoins names call
  pub begins : IsPrefix grown (second_join joins limit).text

-- The events of a join end in the missing read of this role's stream: those of the first one, or those of the second one.
abbrev pub EndsUnread : Role → TwiceNames → ℕ → Call → Type 0
EndsUnread of names limit call =
    ((side : Side) × (of ≡ role_of side) × EndsInFirst (unread side) names limit call)
    ⊎ ((of ≡ role.Third) × WritesSecond (unread Right) names limit call)

-- This role failed. Where all are open, it is the one in whose missing read the events of a join end; else nothing was written.
pub record FailsJoins (of : Role) (names : TwiceNames) (limit : ℕ) (call : Call) : Type 0 where
  pub has : IsTwiceRole of
  pub fails : Fails of call.before call.now
  pub unopened : ¬ (AreAllOpen call.now) → Appends call.old call.new []
  pub opened : AreAllOpen call.now → EndsUnread of names limit call

-- ---- The command.

pub data EndsTwice (names : TwiceNames) (limit : ℕ) (call : Call) (status : ℕ) (note : List ℕ) : Type 0 where
  joined : status ≡ 0 → note ≡ [] → WritesAllThree names limit call → EndsTwice names limit call status note
  bad_query : (found : QueryFault) → status ≡ 2 → note ≡ query_note found
      → RefusesQuery found names.query call → EndsTwice names limit call status note
  bad_second : (found : QueryFault) → status ≡ 2 → note ≡ refused_note (role_name role.SecondQuery) found
      → RefusesSecond found names call → EndsTwice names limit call status note
  unfit : status ≡ 2 → note ≡ shape_note → RefusesShape names call → EndsTwice names limit call status note
  bad_record : (side : Side) (at : ℕ) (found : RecordFault) → status ≡ 3 → note ≡ record_note side at found
      → EndsInFirst (bad side at found) names limit call → EndsTwice names limit call status note
  -- A line of the relay is too long for a record, or the whole relay for a stream.
  bad_relay : (at : ℕ) (found : RecordFault) → status ≡ 3 → note ≡ stream_note (second_name Left) at found → IsTooLong found
      → WritesSecond (bad Left at found) names limit call → EndsTwice names limit call status note
  bad_third : (at : ℕ) (found : RecordFault) → status ≡ 3 → note ≡ stream_note (second_name Right) at found
      → WritesSecond (bad Right at found) names limit call → EndsTwice names limit call status note
  failed_source : (of : Role) → status ≡ 4 → note ≡ source_note of
      → FailsJoins of names limit call → EndsTwice names limit call status note
  events : status ≡ 7 → note ≡ events_note limit
      → EndsInFirst too_many names limit call ⊎ WritesSecond too_many names limit call → EndsTwice names limit call status note

-- Each role is begun under its own name: the second query only once the first one is accepted, the left stream only once both are
-- accepted and fit, and each further stream only once the one before it is open.
pub record BeginsTwice (names : TwiceNames) (under : List ℕ → Option (List ℕ)) (before now : Role → RoleState) : Type 0 where
  pub query : IsBegunUnder names.query (now role.Query).phase
  pub second : IsBegunUnder names.second (now role.SecondQuery).phase
  pub left : IsBegunUnder names.streams.left (now role.Left).phase
  pub right : IsBegunUnder names.streams.right (now role.Right).phase
  pub third : IsBegunUnder names.third (now role.Third).phase
  pub first_accepted : (now role.SecondQuery).phase ≢ unbegun → (first : QueryParts) × AcceptsFirst first names under before now
  pub both_accepted : (now role.Left).phase ≢ unbegun
      → (first : QueryParts) × ((second : QueryParts) × AcceptsBoth first second names under before now)
  pub left_open : (now role.Right).phase ≢ unbegun → IsOpen (now role.Left).phase
  pub right_open : (now role.Third).phase ≢ unbegun → IsOpen (now role.Right).phase

-- A query is refused, or the second one doesn't fit; or the events of the first join don't end with both streams, and their ending
-- decides; or that of the events of the second one does.
pub data IsTwiceDecided (names : TwiceNames) (limit : ℕ) (call : Call) (status : ℕ) : Type 0 where
  by_query : (found : QueryFault) → status ≡ 2 → RefusesQuery found names.query call → IsTwiceDecided names limit call status
  by_second_query : (found : QueryFault) → status ≡ 2 → RefusesSecond found names call → IsTwiceDecided names limit call status
  by_shape : status ≡ 2 → RefusesShape names call → IsTwiceDecided names limit call status
  by_first : (ending : Ending) → ending ≢ clean → status ≡ status_of_ending ending
      → EndsInFirst ending names limit call → IsTwiceDecided names limit call status
  by_second : (ending : Ending) → status ≡ status_of_ending ending
      → WritesSecond ending names limit call → IsTwiceDecided names limit call status

pub record ServesTwice (names : TwiceNames) (limit : ℕ) (status : ℕ) (note : List ℕ) (call : Call) : Type 0 where
  pub keeps : KeepsPromise (EndsTwice names limit call) (λ grown. BeginsSecond grown names limit call) IsTwiceRole status note call
  pub roles : BeginsTwice names call.under call.before call.now
  -- Where nothing fails, the queries and the endings of the events decide the status, or memory ran out.
  pub complete : NothingFails call → (status ≡ 6) ⊎ IsTwiceDecided names limit call status
