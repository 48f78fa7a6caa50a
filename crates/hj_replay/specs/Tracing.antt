-- What the trace of a join's run says, and what was read for it.
use Rattle.std.specs.Prelude.{◌≡◌, ℕ, Bool, false, List, length}
use Rattle.std.specs.Io.KnownBytes.{Appends}
use Rattle.std.specs.declared.option.Option.{Option}
use Rattle.hj_base.specs.declared.numbers.Side.TheVariants.{Left, Right}
use Rattle.hj_base.specs.declared.outside.Role.{Role}
use Rattle.hj_base.specs.declared.outside.Role.TheVariants as role
use Rattle.hj_base.specs.Outside.{RoleState, ChangesOnlyStreams}
use Rattle.hj_record.specs.Pieces.{Stream}
use Rattle.hj_chain.specs.declared.serial.Chooser.{Chooser}
use Rattle.hj_query.specs.QueryParts.{QueryParts}
use Rattle.hj_eval.specs.Holds.{holds}
use Rattle.hj_event.specs.Arrivals.{clean, bad, unread, too_many}
use Rattle.hj_event.specs.Events.{NumberedEvents, events_of}
use Rattle.hj_event.specs.Roles.{IsReadOn}
use Rattle.hj_event.specs.Sides.{in_front, Follows}
use Rattle.hj_stream.specs.declared.outcome.Outcome.{Outcome}
use Rattle.hj_stream.specs.declared.outcome.Outcome.TheVariants as outcome
use Rattle.hj_stream.specs.Joining.{AreEnded, FailsOn}
use Rattle.hj_trace.specs.Play.{BeginsTrace, IsTrace}

-- These bytes were read of a role of which nothing had been read; a read failed, or answered the end.
pub record ReadOf (before now : RoleState) : Type 0 where
  pub bytes : List ℕ
  pub failed : Bool
  pub ended : Bool
  pub read : IsReadOn failed bytes false ended before now

-- What was written, by the outcome: the trace of the whole run over events that end so; or, where the sink failed or memory ran out,
-- what begins a trace of it.
abbrev pub WritesSteps : Outcome → QueryParts → (cores flight : ℕ) → Chooser → List ℕ → NumberedEvents → Type 0
WritesSteps (outcome.Done events) query cores flight rule text all = (all.ending ≡ clean) × (length all.events ≡ events) × IsTrace (holds query) rule cores flight all.events text
WritesSteps (outcome.Bad side at found) query cores flight rule text all = (all.ending ≡ bad side at found) × IsTrace (holds query) rule cores flight all.events text
WritesSteps (outcome.SourceFault role.Query) query cores flight rule text all = ⊥
WritesSteps (outcome.SourceFault role.SecondQuery) query cores flight rule text all = ⊥
WritesSteps (outcome.SourceFault role.Left) query cores flight rule text all = (all.ending ≡ unread Left) × IsTrace (holds query) rule cores flight all.events text
WritesSteps (outcome.SourceFault role.Right) query cores flight rule text all = (all.ending ≡ unread Right) × IsTrace (holds query) rule cores flight all.events text
WritesSteps (outcome.SourceFault role.Third) query cores flight rule text all = ⊥
WritesSteps (outcome.SourceFault role.Trace) query cores flight rule text all = ⊥
WritesSteps (outcome.SourceFault role.Output) query cores flight rule text all = ⊥
WritesSteps outcome.SinkFault query cores flight rule text all = BeginsTrace (holds query) rule cores flight all.events text
WritesSteps outcome.TooMany query cores flight rule text all = (all.ending ≡ too_many) × IsTrace (holds query) rule cores flight all.events text
WritesSteps outcome.Memory query cores flight rule text all = BeginsTrace (holds query) rule cores flight all.events text

-- A trace was written, on a chain of so many cores with at most so many events outstanding: these bytes of both streams were read,
-- this text was written, and whatever comes after the bytes, it is what the outcome says of the streams' events.
pub record WritesTrace (ended : Outcome) (query : QueryParts) (cores flight : ℕ) (rule : Chooser) (limit : ℕ)
    (before now : Role → RoleState)
    (old new : Option (List ℕ)) : Type 0 where
  pub left : ReadOf (before role.Left) (now role.Left)
  pub right : ReadOf (before role.Right) (now role.Right)
  pub failed : FailsOn ended left.failed right.failed
  pub ends : AreEnded ended left.ended right.ended
  pub others : ChangesOnlyStreams before now
  pub grown : List ℕ
  pub written : Appends old new grown
  pub text : (l r : Stream) → Follows left.failed left.ended l → Follows right.failed right.ended r
      → WritesSteps ended query cores flight rule grown (events_of query (in_front left.bytes l) (in_front right.bytes r) limit)
