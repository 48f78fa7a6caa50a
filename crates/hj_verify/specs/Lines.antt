-- How the lines of a trace are read, from the start of its stream on. Where something is wrong, it is so whatever follows the bytes
-- that wait: nothing does where the end was answered.
use Rattle.std.specs.Prelude.{◌≡◌, ◌≢◌, ℕ, true, false, List, [], ◌∷◌, ◌++◌, Ok, Err}
use Rattle.std.specs.declared.result.Result.{Result}
use Rattle.hj_base.specs.declared.outside.Role.TheVariants as role
use Rattle.hj_base.specs.Journals.{IsPrefix}
use Rattle.hj_base.specs.Outside.{RoleState}
use Rattle.hj_chain.specs.declared.actor.Actor.{Actor}
use Rattle.hj_trace.specs.declared.fault.TraceFault.TheVariants as fault
use Rattle.hj_trace.specs.Actors.{IsNumbered, actor_text}
use Rattle.hj_trace.specs.Stream.{BeginsWithNoActor, TextStreamState, Uses}
use Rattle.hj_verify.specs.declared.verdict.Verdict.{Verdict}
use Rattle.hj_verify.specs.declared.verdict.Verdict.TheVariants as verdict
use Rattle.hj_verify.specs.Reading.{GivesUp, IsUsedWhole}

-- Behind this text something else stands than an actor's text and a comma.
pub record BeginsWrong (text : List ℕ) (start : TextStreamState) (before : RoleState) (trace : TextStreamState)
    (now : RoleState) : Type 0 where
  pub bytes : List ℕ
  pub uses : Uses false (text ++ bytes) start before trace now
  pub some : bytes ++ trace.unused ≢ []
  pub wrong : (later : List ℕ) → (trace.ended ≡ true → later ≡ []) → BeginsWithNoActor (bytes ++ (trace.unused ++ later))

-- Behind this text something else stands than these bytes.
pub record GoesOnWrong (expected text : List ℕ) (start : TextStreamState) (before : RoleState) (trace : TextStreamState)
    (now : RoleState) : Type 0 where
  pub bytes : List ℕ
  pub uses : Uses false (text ++ bytes) start before trace now
  pub wrong : (later : List ℕ) → (trace.ended ≡ true → later ≡ []) → IsPrefix expected (bytes ++ (trace.unused ++ later)) → ⊥

-- Behind this text something stands.
pub record TextGoesOn (text : List ℕ) (start : TextStreamState) (before : RoleState) (trace : TextStreamState)
    (now : RoleState) : Type 0 where
  pub uses : Uses false text start before trace now
  pub more : trace.unused ≢ []

-- Where the line of this number begins behind this text, its actor and the comma are read.
abbrev pub ReadsMaker : Result Actor Verdict → ℕ → List ℕ → TextStreamState → RoleState → TextStreamState → RoleState → Type 0
ReadsMaker (Ok actor) number text start before trace now =
    IsNumbered actor × Uses false (text ++ (actor_text actor ++ 44 ∷ [])) start before trace now
ReadsMaker (Err (verdict.Refused (fault.Form line))) number text start before trace now =
    (line ≡ number) × BeginsWrong text start before trace now
ReadsMaker (Err (verdict.Refused (fault.Early line))) number text start before trace now =
    (line ≡ number) × IsUsedWhole text start before trace now
ReadsMaker (Err judged) number text start before trace now = GivesUp judged role.Trace start before trace now

-- These bytes of the line of this number are read behind this text.
abbrev pub ReadsRest : Result (Unit {0}) Verdict → List ℕ → ℕ → List ℕ → TextStreamState → RoleState → TextStreamState → RoleState → Type 0
ReadsRest (Ok went) expected number text start before trace now = Uses false (text ++ expected) start before trace now
ReadsRest (Err (verdict.Refused (fault.Text line))) expected number text start before trace now =
    (line ≡ number) × GoesOnWrong expected text start before trace now
ReadsRest (Err judged) expected number text start before trace now = GivesUp judged role.Trace start before trace now

-- The trace ends behind this text, where the line of this number would begin.
abbrev pub EndsTrace : Result (Unit {0}) Verdict → ℕ → List ℕ → TextStreamState → RoleState → TextStreamState → RoleState → Type 0
EndsTrace (Ok went) number text start before trace now = IsUsedWhole text start before trace now
EndsTrace (Err (verdict.Refused (fault.Late line))) number text start before trace now =
    (line ≡ number) × TextGoesOn text start before trace now
EndsTrace (Err judged) number text start before trace now = GivesUp judged role.Trace start before trace now
