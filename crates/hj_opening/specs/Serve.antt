-- What a call of `serve` promises, by the status that it answers and the note that goes with it.
-- Each command has its endings, each with its status, its note and its cause, and a record of what it promises; what all
-- commands promise is said once, in `KeepsPromise` of Keeping.antt.
use Rattle.std.specs.Prelude.{◌≡◌, ◌≢◌, ◌≤◌, ◌⊎◌, ℕ, List, [], None, Some}
use Rattle.std.specs.Io.KnownBytes.{Appends}
use Rattle.std.specs.declared.option.Option.{Option}
use Rattle.hj_base.specs.declared.numbers.Side.{Side}
use Rattle.hj_base.specs.declared.outside.Role.{Role}
use Rattle.hj_base.specs.declared.outside.Role.TheVariants as role
use Rattle.hj_base.specs.Outside.{RoleState, Phase, unbegun, IsOpen, role_of}
use Rattle.hj_event.specs.declared.fault.RecordFault.{RecordFault}
use Rattle.hj_event.specs.Arrivals.{Ending, bad, unread, too_many}
use Rattle.hj_notes.specs.NoteWritten.{NoteWritten}
use Rattle.hj_notes.specs.Notes.{events_note, query_note, record_note, source_note, usage_note}
use Rattle.hj_query.specs.declared.fault.QueryFault.{QueryFault}
use Rattle.hj_query.specs.QueryParts.{QueryParts}
use Rattle.hj_record.specs.Pieces.{Stream}
use Rattle.hj_stream.specs.JoinText.{join_result}
use Rattle.hj_opening.specs.Calls.{Call}
use Rattle.hj_opening.specs.Check.{BeginsCanonical, WritesCanonical}
use Rattle.hj_opening.specs.Generating.{BeginsSummary, WritesSummary}
use Rattle.hj_opening.specs.Joining.{BeginsText, WritesAll, WritesWhole}
use Rattle.hj_opening.specs.Keeping.{KeepsPromise, NothingFails, RefusesQuery, status_of_ending}
use Rattle.hj_opening.specs.Queries.{IsQueryOf}
use Rattle.hj_opening.specs.Streams.{AreStreams, Fails, IsBegunUnder}
use Rattle.hj_opening.specs.TwoJoins.{ServesTwice}
use Rattle.hj_opening.specs.Verifying.{ServesVerify}
use Rattle.hj_opening.specs.Words.{Names, Order, Recipe, QuerySource, TextKind, check_query, check_trace, join_streams, join_twice, keyed, most_events, named, sum_up}

-- ---- Words that spell no order.

pub data EndsUsage (status : ℕ) (note : List ℕ) : Type 0 where
  usage : status ≡ 1 → note ≡ usage_note → EndsUsage status note

-- They have no text and no roles: nothing is written, and nothing begun.
pub record ServesNone (status : ℕ) (note : List ℕ) (call : Call) : Type 0 where
  pub keeps : KeepsPromise EndsUsage (λ grown. ⊥) (λ of. ⊥) status note call
  pub no_order : (status ≡ 1) ⊎ (status ≡ 6)

-- ---- `join` and `equi`: a join of streams under a query.

-- the query by which a call joins
abbrev pub AcceptsQuery : QuerySource → QueryParts → Call → Type 0
AcceptsQuery source query call = IsQueryOf source query call.under (call.before role.Query) (call.now role.Query)

-- The query is read under a name.
abbrev pub IsNamedQuery : QuerySource → Type 0
IsNamedQuery (keyed rows) = ⊥
IsNamedQuery (named name) = Unit {0}

-- The roles of its streams, and of a query that is read under a name.
abbrev pub IsJoinRole : QuerySource → Role → Type 0
IsJoinRole source role.Query = IsNamedQuery source
IsJoinRole source role.Left = Unit {0}
IsJoinRole source role.Right = Unit {0}
IsJoinRole source other = ⊥

-- both streams are open
abbrev pub AreOpen : (Role → RoleState) → Type 0
AreOpen now = IsOpen (now role.Left).phase × IsOpen (now role.Right).phase

-- It was made under the accepted query, of streams whose events end so; the whole text was written.
abbrev pub JoinsAll : TextKind → (Ending → Type 0) → QuerySource → Names → ℕ → Call → Type 0
JoinsAll kind EndsSo source names limit call =
    (query : QueryParts) × AcceptsQuery source query call × WritesAll kind EndsSo query limit names call

-- And both streams were read to their ends.
abbrev pub JoinsWhole : TextKind → QuerySource → Names → ℕ → Call → Type 0
JoinsWhole kind source names limit call = (query : QueryParts) × AcceptsQuery source query call × WritesWhole kind query limit names call

-- The bytes are a front of its text.
abbrev pub IsJoinFront : TextKind → QuerySource → Names → ℕ → Call → List ℕ → Type 0
IsJoinFront kind source names limit call grown =
    (query : QueryParts) × AcceptsQuery source query call × BeginsText kind grown query limit names call

-- The query that is read under a name was refused.
pub record RefusesNamed (found : QueryFault) (source : QuerySource) (call : Call) : Type 0 where
  pub name : List ℕ
  pub named_so : source ≡ named name
  pub refuses : RefusesQuery found name call

-- This role failed. Where both streams are open, it is the one in whose missing read the events end, and the whole text of
-- these events was written; else nothing was written.
pub record FailsJoin (kind : TextKind) (of : Role) (source : QuerySource) (names : Names) (limit : ℕ) (call : Call) : Type 0 where
  pub has : IsJoinRole source of
  pub fails : Fails of call.before call.now
  pub unopened : ¬ (AreOpen call.now) → Appends call.old call.new []
  pub opened : AreOpen call.now
      → (side : Side) × (of ≡ role_of side) × JoinsAll kind (λ ending. ending ≡ unread side) source names limit call

pub data EndsJoin (kind : TextKind) (source : QuerySource) (names : Names) (limit : ℕ) (call : Call) (status : ℕ)
    (note : List ℕ) : Type 0 where
  joined : status ≡ 0 → note ≡ [] → JoinsWhole kind source names limit call → EndsJoin kind source names limit call status note
  bad_query : (found : QueryFault) → status ≡ 2 → note ≡ query_note found
      → RefusesNamed found source call → EndsJoin kind source names limit call status note
  bad_record : (side : Side) (at : ℕ) (found : RecordFault) → status ≡ 3 → note ≡ record_note side at found
      → JoinsAll kind (λ ending. ending ≡ bad side at found) source names limit call → EndsJoin kind source names limit call status note
  failed_source : (of : Role) → status ≡ 4 → note ≡ source_note of
      → FailsJoin kind of source names limit call → EndsJoin kind source names limit call status note
  events : status ≡ 7 → note ≡ events_note limit
      → JoinsAll kind (λ ending. ending ≡ too_many) source names limit call → EndsJoin kind source names limit call status note

abbrev pub BeginsSource : QuerySource → Phase → Type 0
BeginsSource (keyed rows) phase = phase ≡ unbegun
BeginsSource (named name) phase = IsBegunUnder name phase

-- Each role is begun under its own name: the query first, the left stream only once the query is accepted, and the right
-- one only once the left one is open.
pub record BeginsInOrder (source : QuerySource) (names : Names) (call : Call) : Type 0 where
  pub query : BeginsSource source (call.now role.Query).phase
  pub left : IsBegunUnder names.left (call.now role.Left).phase
  pub right : IsBegunUnder names.right (call.now role.Right).phase
  pub query_first : (call.now role.Left).phase ≢ unbegun → (query : QueryParts) × AcceptsQuery source query call
  pub left_first : (call.now role.Right).phase ≢ unbegun → IsOpen (call.now role.Left).phase

-- The status is the one of the ending of the events of the streams.
pub record EndsBy (status : ℕ) (source : QuerySource) (names : Names) (limit : ℕ) (call : Call) : Type 0 where
  pub query : QueryParts
  pub accepted : AcceptsQuery source query call
  pub left : Stream
  pub right : Stream
  pub streams : AreStreams names call.under call.before call.now left right
  pub ending : status ≡ status_of_ending (join_result query left right limit).ending

-- The query is refused, or accepted; and then the ending of the events decides.
abbrev pub IsJoinDecided : ℕ → QuerySource → Names → ℕ → Call → Type 0
IsJoinDecided status source names limit call =
    ((status ≡ 2) × ((found : QueryFault) × RefusesNamed found source call)) ⊎ EndsBy status source names limit call

pub record ServesJoin (kind : TextKind) (source : QuerySource) (names : Names) (limit : ℕ) (status : ℕ) (note : List ℕ) (call : Call) : Type 0 where
  pub keeps : KeepsPromise (EndsJoin kind source names limit call) (IsJoinFront kind source names limit call) (IsJoinRole source) status note call
  pub roles : BeginsInOrder source names call
  -- Where nothing fails, the query and the ending of the events decide the status, or memory ran out.
  pub complete : NothingFails call → (status ≡ 6) ⊎ IsJoinDecided status source names limit call

-- ---- `check`: the canonical text of a query.

pub data EndsCheck (name : List ℕ) (call : Call) (status : ℕ) (note : List ℕ) : Type 0 where
  checked : status ≡ 0 → note ≡ [] → WritesCanonical name call → EndsCheck name call status note
  refused : (found : QueryFault) → status ≡ 2 → note ≡ query_note found → RefusesQuery found name call → EndsCheck name call status note
  failed_query : status ≡ 4 → note ≡ source_note role.Query
      → Fails role.Query call.before call.now → Appends call.old call.new [] → EndsCheck name call status note

pub record ServesCheck (name : List ℕ) (status : ℕ) (note : List ℕ) (call : Call) : Type 0 where
  pub keeps : KeepsPromise (EndsCheck name call) (λ grown. BeginsCanonical grown name call) (λ of. of ≡ role.Query) status note call
  -- The query is begun under its own name.
  pub query : IsBegunUnder name (call.now role.Query).phase
  -- Where nothing fails, the query decides the status, or memory ran out.
  pub complete : NothingFails call
      → (status ≡ 6) ⊎ (((status ≡ 2) × ((found : QueryFault) × RefusesQuery found name call)) ⊎ ((status ≡ 0) × WritesCanonical name call))

-- ---- `gen`: the line that sums up the join of two streams that it makes.

pub data EndsGen (recipe : Recipe) (call : Call) (status : ℕ) (note : List ℕ) : Type 0 where
  summed : status ≡ 0 → note ≡ [] → WritesSummary recipe most_events call → EndsGen recipe call status note

pub record ServesGen (recipe : Recipe) (status : ℕ) (note : List ℕ) (call : Call) : Type 0 where
  pub keeps : KeepsPromise (EndsGen recipe call) (λ grown. BeginsSummary grown recipe most_events) (λ of. ⊥) status note call
  -- Every role stays as it is.
  pub untouched : (of : Role) → call.now of ≡ call.before of
  -- Where nothing fails, the line is written, or memory ran out: the streams end well.
  pub complete : NothingFails call → (status ≡ 6) ⊎ ((status ≡ 0) × WritesSummary recipe most_events call)

-- ---- Whatever the words order.

abbrev pub ServesOrder : Option Order → ℕ → List ℕ → Call → Type 0
ServesOrder None status note call = ServesNone status note call
ServesOrder (Some (join_streams kind source names limit)) status note call = ServesJoin kind source names limit status note call
ServesOrder (Some (check_trace chain name names limit)) status note call = ServesVerify chain name names limit status note call
ServesOrder (Some (check_query name)) status note call = ServesCheck name status note call
ServesOrder (Some (sum_up recipe)) status note call = ServesGen recipe status note call
ServesOrder (Some (join_twice names limit)) status note call = ServesTwice names limit status note call

-- What a call does for an order, or for words that spell none: what its command promises, with a note of which a front stands
-- among the notes, and all of it unless a write of it was refused.
pub record Serves (status : ℕ) (order : Option Order) (call : Call) (notes_before notes_now : Option (List ℕ))
    (refused_before refused_now : ℕ) : Type 0 where
  pub note : List ℕ
  pub serves : ServesOrder order status note call
  pub noted : NoteWritten note notes_before notes_now refused_before refused_now
  pub statuses : status ≤ 8
