-- The verdict on a trace and an output, and what was read for it.
use Rattle.std.specs.Prelude.{◌≡◌, ◌↔◌, ℕ, true, List, [], ◌++◌, length}
use Rattle.hj_base.specs.declared.outside.Role.{Role}
use Rattle.hj_base.specs.declared.outside.Role.TheVariants as role
use Rattle.hj_base.specs.Outside.{RoleState}
use Rattle.hj_record.specs.Pieces.{Stream}
use Rattle.hj_query.specs.QueryParts.{QueryParts}
use Rattle.hj_eval.specs.Holds.{holds}
use Rattle.hj_event.specs.Arrivals.{clean, bad, too_many}
use Rattle.hj_event.specs.Events.{NumberedEvents, events_of}
use Rattle.hj_event.specs.Sides.{in_front, Follows}
use Rattle.hj_stream.specs.declared.outcome.Outcome.TheVariants as outcome
use Rattle.hj_stream.specs.JoinText.{text_of}
use Rattle.hj_trace.specs.declared.fault.TraceFault.{TraceFault}
use Rattle.hj_trace.specs.Checking.{IsRight, Stands}
use Rattle.hj_replay.specs.Tracing.{ReadOf}
use Rattle.hj_verify.specs.declared.verdict.Verdict.{Verdict}
use Rattle.hj_verify.specs.declared.verdict.Verdict.TheVariants as verdict
use Rattle.hj_verify.specs.Checked.{ChangesOnlyChecked, IsChecked}
use Rattle.hj_verify.specs.Reading.{fault_of}

-- This is wrong with a trace and an output of a query's join of these events, on a chain of so many cores with at most so many events
-- outstanding.
abbrev pub IsWrong : TraceFault → QueryParts → (cores flight : ℕ) → NumberedEvents → (trace output : List ℕ) → Type 0
IsWrong fault query cores flight all trace output =
    Stands (holds query) fault cores flight all.events trace output (text_of query all.events)

-- The trace spells a whole run over these events, the output is the text of their join, and nothing is wrong.
pub record AreRight (query : QueryParts) (cores flight : ℕ) (all : NumberedEvents) (trace output : List ℕ) : Type 0 where
  pub right : IsRight (holds query) cores flight all.events trace output (text_of query all.events)
  pub nothing : (fault : TraceFault) → IsWrong fault query cores flight all trace output → ⊥

-- What a verdict says of a trace and an output, over these events.
abbrev pub Judges : Verdict → QueryParts → (cores flight : ℕ) → NumberedEvents → (trace output : List ℕ) → Type 0
Judges (verdict.Accepted events) query cores flight all trace output =
    (all.ending ≡ clean) × (length all.events ≡ events) × AreRight query cores flight all trace output
Judges (verdict.Refused fault) query cores flight all trace output = IsWrong fault query cores flight all trace output
Judges (verdict.Ended (outcome.Done events)) query cores flight all trace output = ⊥
Judges (verdict.Ended (outcome.Bad side at found)) query cores flight all trace output =
    (all.ending ≡ bad side at found) × AreRight query cores flight all trace output
Judges (verdict.Ended (outcome.SourceFault of)) query cores flight all trace output = IsChecked of
Judges (verdict.Ended outcome.SinkFault) query cores flight all trace output = ⊥
Judges (verdict.Ended outcome.TooMany) query cores flight all trace output =
    (all.ending ≡ too_many) × AreRight query cores flight all trace output
Judges (verdict.Ended outcome.Memory) query cores flight all trace output = Unit {0}

-- A trace and an output were checked: these bytes were read of the four roles, and whatever comes after them, the verdict is right. A
-- read of a role failed exactly where the verdict says so.
pub record Verifies (judged : Verdict) (query : QueryParts) (cores flight limit : ℕ) (before now : Role → RoleState) : Type 0 where
  pub left : ReadOf (before role.Left) (now role.Left)
  pub right : ReadOf (before role.Right) (now role.Right)
  pub trace : ReadOf (before role.Trace) (now role.Trace)
  pub output : ReadOf (before role.Output) (now role.Output)
  pub left_failed : (left.failed ≡ true) ↔ (judged ≡ fault_of role.Left)
  pub right_failed : (right.failed ≡ true) ↔ (judged ≡ fault_of role.Right)
  pub trace_failed : (trace.failed ≡ true) ↔ (judged ≡ fault_of role.Trace)
  pub output_failed : (output.failed ≡ true) ↔ (judged ≡ fault_of role.Output)
  pub others : ChangesOnlyChecked before now
  pub judges : (l r : Stream) (t o : List ℕ) → Follows left.failed left.ended l → Follows right.failed right.ended r
      → (trace.ended ≡ true → t ≡ []) → (output.ended ≡ true → o ≡ [])
      → Judges judged query cores flight (events_of query (in_front left.bytes l) (in_front right.bytes r) limit) (trace.bytes ++ t)
      (output.bytes ++ o)
