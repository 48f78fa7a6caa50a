-- How far a stream was read that is checked, from its start on.
use Rattle.std.specs.Prelude.{◌≡◌, ℕ, true, false, List}
use Rattle.hj_base.specs.declared.outside.Role.{Role}
use Rattle.hj_base.specs.Outside.{RoleState}
use Rattle.hj_stream.specs.declared.outcome.Outcome.TheVariants as outcome
use Rattle.hj_trace.specs.Stream.{IsUsedUp, TextStreamState, Uses}
use Rattle.hj_verify.specs.declared.verdict.Verdict.{Verdict}
use Rattle.hj_verify.specs.declared.verdict.Verdict.TheVariants as verdict

-- the verdict that a read of this role failed
abbrev pub fault_of : Role → Verdict
fault_of of = verdict.Ended (outcome.SourceFault of)

-- the verdict that memory ran out
abbrev pub no_memory : Verdict
no_memory = verdict.Ended outcome.Memory

-- The stream of a role was used as far as it could be: then a read of it failed, or memory ran out.
abbrev pub GivesUp : Verdict → Role → TextStreamState → RoleState → TextStreamState → RoleState → Type 0
GivesUp (verdict.Accepted events) of old before new now = ⊥
GivesUp (verdict.Refused fault) of old before new now = ⊥
GivesUp (verdict.Ended (outcome.Done events)) of old before new now = ⊥
GivesUp (verdict.Ended (outcome.Bad side at found)) of old before new now = ⊥
GivesUp (verdict.Ended (outcome.SourceFault found)) of old before new now =
    (found ≡ of) × (bytes : List ℕ) × Uses true bytes old before new now
GivesUp (verdict.Ended outcome.SinkFault) of old before new now = ⊥
GivesUp (verdict.Ended outcome.TooMany) of old before new now = ⊥
GivesUp (verdict.Ended outcome.Memory) of old before new now = (bytes : List ℕ) × Uses false bytes old before new now

-- All of a stream was used, and it is these bytes.
pub record IsUsedWhole (bytes : List ℕ) (start : TextStreamState) (before : RoleState) (stream : TextStreamState)
    (now : RoleState) : Type 0 where
  pub uses : Uses false bytes start before stream now
  pub used_up : IsUsedUp stream
