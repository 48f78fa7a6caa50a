-- What `verify` promises: a trace and an output of a join are checked, and nothing is written but a note.
use Rattle.std.specs.Prelude.{◌≡◌, ◌≢◌, ◌⊎◌, ℕ, List, []}
use Rattle.hj_base.specs.declared.numbers.Side.{Side}
use Rattle.hj_base.specs.declared.outside.Role.{Role}
use Rattle.hj_base.specs.declared.outside.Role.TheVariants as role
use Rattle.hj_base.specs.Outside.{unbegun, IsOpen}
use Rattle.hj_eval.specs.Holds.{holds}
use Rattle.hj_event.specs.declared.fault.RecordFault.{RecordFault}
use Rattle.hj_event.specs.Arrivals.{Ending, bad, clean, too_many}
use Rattle.hj_event.specs.Events.{NumberedEvents, events_of}
use Rattle.hj_notes.specs.Notes.{events_note, query_note, record_note, source_note}
use Rattle.hj_notes.specs.VerifyText.{refusal_note}
use Rattle.hj_query.specs.declared.fault.QueryFault.{QueryFault}
use Rattle.hj_query.specs.QueryParts.{QueryParts}
use Rattle.hj_record.specs.Pieces.{Stream}
use Rattle.hj_stream.specs.JoinText.{text_of}
use Rattle.hj_trace.specs.declared.fault.TraceFault.{TraceFault}
use Rattle.hj_trace.specs.Checking.{IsRight, Stands}
use Rattle.hj_opening.specs.Calls.{Call}
use Rattle.hj_opening.specs.Queries.{IsAccepted}
use Rattle.hj_opening.specs.Keeping.{KeepsPromise, NothingFails, RefusesQuery, status_of_ending}
use Rattle.hj_opening.specs.Streams.{AreStreams, Fails, IsBegunUnder, IsStream}
use Rattle.hj_opening.specs.Words.{ChainShape, CheckedNames}

-- The roles of the query, of both streams, of the trace and of the output.
abbrev pub IsCheckRole : Role → Type 0
IsCheckRole role.Query = Unit {0}
IsCheckRole role.SecondQuery = ⊥
IsCheckRole role.Left = Unit {0}
IsCheckRole role.Right = Unit {0}
IsCheckRole role.Third = ⊥
IsCheckRole role.Trace = Unit {0}
IsCheckRole role.Output = Unit {0}

-- The query was accepted; these are the streams of the call, its trace and its output.
pub record Checked (name : List ℕ) (names : CheckedNames) (call : Call) : Type 0 where
  pub query : QueryParts
  pub left : Stream
  pub right : Stream
  pub trace : Stream
  pub output : Stream
  pub accepted : IsAccepted query name (call.under name) (call.before role.Query) (call.now role.Query)
  pub of_streams : AreStreams names.streams call.under call.before call.now left right
  pub of_trace : IsStream (call.under names.trace) role.Trace call.before call.now trace
  pub of_output : IsStream (call.under names.output) role.Output call.before call.now output

-- the events of its streams
abbrev pub events_in : {name : List ℕ} {names : CheckedNames} {call : Call} → Checked name names call → ℕ → NumberedEvents
events_in checked limit = events_of checked.query checked.left checked.right limit

-- This is wrong with a trace or an output of the join of these events.
abbrev pub IsWrong : TraceFault → ChainShape → QueryParts → NumberedEvents → (trace output : List ℕ) → Type 0
IsWrong found chain query all trace output =
    Stands (holds query) found chain.cores chain.flight all.events trace output (text_of query all.events)

-- The trace spells a whole run over these events, the output is the text of their join, and nothing is wrong with either.
pub record AreRight (chain : ChainShape) (query : QueryParts) (all : NumberedEvents) (trace output : List ℕ) : Type 0 where
  pub right : IsRight (holds query) chain.cores chain.flight all.events trace output (text_of query all.events)
  pub none : (found : TraceFault) → ¬ (IsWrong found chain query all trace output)

-- The trace has this fault, or the output has, over the events of the streams.
pub record FindsFault (found : TraceFault) (chain : ChainShape) (name : List ℕ) (names : CheckedNames) (limit : ℕ)
    (call : Call) : Type 0 where
  pub checked : Checked name names call
  pub stands : IsWrong found chain checked.query (events_in checked limit) checked.trace.bytes checked.output.bytes

-- The events of the streams end so; the trace and the output are right.
pub record FindsNone (EndsSo : Ending → Type 0) (chain : ChainShape) (name : List ℕ) (names : CheckedNames) (limit : ℕ) (call : Call)
    : Type 0 where
  pub checked : Checked name names call
  pub ending : EndsSo (events_in checked limit).ending
  pub are_right : AreRight chain checked.query (events_in checked limit) checked.trace.bytes checked.output.bytes

pub data EndsVerify (chain : ChainShape) (name : List ℕ) (names : CheckedNames) (limit : ℕ) (call : Call)
    (status : ℕ) (note : List ℕ) : Type 0 where
  accepted : status ≡ 0 → note ≡ [] → FindsNone (λ ending. ending ≡ clean) chain name names limit call
      → EndsVerify chain name names limit call status note
  bad_query : (found : QueryFault) → status ≡ 2 → note ≡ query_note found → RefusesQuery found name call
      → EndsVerify chain name names limit call status note
  bad_record : (side : Side) (at : ℕ) (found : RecordFault) → status ≡ 3 → note ≡ record_note side at found
      → FindsNone (λ ending. ending ≡ bad side at found) chain name names limit call → EndsVerify chain name names limit call status note
  failed_source : (of : Role) → status ≡ 4 → note ≡ source_note of → IsCheckRole of → Fails of call.before call.now
      → EndsVerify chain name names limit call status note
  events : status ≡ 7 → note ≡ events_note limit → FindsNone (λ ending. ending ≡ too_many) chain name names limit call
      → EndsVerify chain name names limit call status note
  refused : (found : TraceFault) → status ≡ 8 → note ≡ refusal_note found → FindsFault found chain name names limit call
      → EndsVerify chain name names limit call status note

-- Each role is begun under its own name: the query first, the left stream only once the query is accepted, and every other one
-- only where the one before it is open.
pub record BeginsCheck (name : List ℕ) (names : CheckedNames) (call : Call) : Type 0 where
  pub query : IsBegunUnder name (call.now role.Query).phase
  pub left : IsBegunUnder names.streams.left (call.now role.Left).phase
  pub right : IsBegunUnder names.streams.right (call.now role.Right).phase
  pub trace : IsBegunUnder names.trace (call.now role.Trace).phase
  pub output : IsBegunUnder names.output (call.now role.Output).phase
  pub query_first : (call.now role.Left).phase ≢ unbegun
      → (query : QueryParts) × IsAccepted query name (call.under name) (call.before role.Query) (call.now role.Query)
  pub left_first : (call.now role.Right).phase ≢ unbegun → IsOpen (call.now role.Left).phase
  pub right_first : (call.now role.Trace).phase ≢ unbegun → IsOpen (call.now role.Right).phase
  pub trace_first : (call.now role.Output).phase ≢ unbegun → IsOpen (call.now role.Trace).phase

-- The query is refused; or it is accepted, and the trace or the output has a fault; or neither has, and the ending of the events
-- decides.
abbrev pub IsCheckDecided : ℕ → ChainShape → List ℕ → CheckedNames → ℕ → Call → Type 0
IsCheckDecided status chain name names limit call =
    ((status ≡ 2) × ((found : QueryFault) × RefusesQuery found name call))
    ⊎ (((status ≡ 8) × ((found : TraceFault) × FindsFault found chain name names limit call))
    ⊎ FindsNone (λ ending. status ≡ status_of_ending ending) chain name names limit call)

pub record ServesVerify (chain : ChainShape) (name : List ℕ) (names : CheckedNames) (limit : ℕ)
    (status : ℕ) (note : List ℕ) (call : Call) : Type 0 where
  -- Nothing is written.
  pub keeps : KeepsPromise (EndsVerify chain name names limit call) (λ grown. ⊥) IsCheckRole status note call
  -- So the output can't fail.
  pub no_sink : status ≢ 5
  pub roles : BeginsCheck name names call
  -- Where the count of a role is another one, a role failed, or memory ran out.
  pub failing : (of : Role) → (call.now of).faults ≢ (call.before of).faults → (status ≡ 4) ⊎ (status ≡ 6)
  -- Where nothing fails, the query, the trace, the output and the ending of the events decide the status, or memory ran out.
  pub complete : NothingFails call → (status ≡ 6) ⊎ IsCheckDecided status chain name names limit call
