-- A stream that is read in portions and used byte by byte, and what is told of it.
use Rattle.std.specs.Prelude.{◌≡◌, ◌≢◌, ◌≤◌, ℕ, Bool, true, false, List, [], ◌∷◌, ◌++◌, length, slice_get, Some, MatchBool}
use Rattle.std.specs.Io.KnownBytes.{Consumes, IsAtEnd}
use Rattle.hj_base.specs.declared.outside.Role.{Role}
use Rattle.hj_base.specs.Counts.{Rose}
use Rattle.hj_base.specs.Outside.{RoleState, opened}
use Rattle.hj_trace.specs.declared.stream.NextByte.{NextByte}
use Rattle.hj_trace.specs.declared.stream.NextByte.TheVariants as next
use Rattle.hj_trace.specs.declared.stream.Compared.{Compared}
use Rattle.hj_trace.specs.declared.stream.Compared.TheVariants as compared
use Rattle.hj_chain.specs.declared.actor.Actor.{Actor}
use Rattle.hj_trace.specs.declared.stream.ActorFound.{ActorFound}
use Rattle.hj_trace.specs.declared.stream.ActorFound.TheVariants as found
use Rattle.hj_trace.specs.Actors.{IsNumbered, actor_text}

pub record TextStreamState : Type 0 where
  pub role : Role
  -- the bytes that came and weren't used
  pub unused : List ℕ
  -- a read answered the end
  pub ended : Bool

-- A stream goes with its role: that is open, and has answered its end where the stream knows it; then nothing is left.
pub record GoesWithRole (stream : TextStreamState) (role : RoleState) : Type 0 where
  pub name : List ℕ
  pub phase : role.phase ≡ opened name stream.ended
  pub nothing_left : stream.ended ≡ true → IsAtEnd role.left

-- A count of faults rises where a read failed, and else stays.
abbrev pub CountsFaults : Bool → ℕ → ℕ → Type 0
CountsFaults failed before now = MatchBool failed ((before ≤ now) × Rose before now) (now ≡ before)

-- These bytes of a stream are used. Others may come on the way; they wait to be used behind them.
pub record Uses (failed : Bool) (bytes : List ℕ) (old : TextStreamState) (before : RoleState) (new : TextStreamState) (now : RoleState) : Type 0 where
  pub role : new.role ≡ old.role
  pub came : List ℕ
  pub read : Consumes before.left now.left came
  pub used : old.unused ++ came ≡ bytes ++ new.unused
  pub name : (name : List ℕ) → before.phase ≡ opened name old.ended → now.phase ≡ opened name new.ended
  pub nothing_left : new.ended ≡ true → IsAtEnd now.left
  pub faults : CountsFaults failed before.faults now.faults
  -- where a read failed, the end wasn't answered
  pub unended : failed ≡ true → new.ended ≡ false

-- Nothing is left: no byte waits, and the end was answered.
pub record IsUsedUp (stream : TextStreamState) : Type 0 where
  pub none_waits : stream.unused ≡ []
  pub ended : stream.ended ≡ true

abbrev pub look_failed : NextByte → Bool
look_failed (next.Byte byte) = false
look_failed next.End = false
look_failed next.Failed = true

-- What stands next in a stream.
abbrev pub StandsNext : NextByte → TextStreamState → Type 0
StandsNext (next.Byte byte) stream = slice_get stream.unused 0 ≡ Some byte
StandsNext next.End stream = IsUsedUp stream
StandsNext next.Failed stream = Unit {0}

abbrev pub compare_failed : Compared → Bool
compare_failed compared.Same = false
compare_failed (compared.Differs at) = false
compare_failed compared.Failed = true

-- A stream goes on with another byte than the next one of these, or nothing is left of it.
abbrev pub PartsFrom : List ℕ → TextStreamState → Type 0
PartsFrom [] stream = ⊥
PartsFrom (byte ∷ later) stream = (slice_get stream.unused 0 ≢ Some byte) × (stream.unused ≡ [] → stream.ended ≡ true)

-- How a comparison ends, once these bytes are the same and those are missing.
abbrev pub EndsWith : Compared → List ℕ → List ℕ → TextStreamState → Type 0
EndsWith compared.Same same missing stream = missing ≡ []
EndsWith (compared.Differs at) same missing stream = (at ≡ length same) × PartsFrom missing stream
EndsWith compared.Failed same missing stream = Unit {0}

-- Bytes are compared with those of a stream, up to the first that differs. Those that are the same are used.
pub record Compares (answer : Compared) (expected : List ℕ) (old : TextStreamState) (before : RoleState) (new : TextStreamState) (now : RoleState) : Type 0 where
  pub same : List ℕ
  pub missing : List ℕ
  pub expects : expected ≡ same ++ missing
  pub uses : Uses (compare_failed answer) same old before new now
  pub ends : EndsWith answer same missing new

-- The bytes don't begin with an actor's text and a comma.
abbrev pub BeginsWithNoActor : List ℕ → Type 0
BeginsWithNoActor bytes = (actor : Actor) (rest : List ℕ) → IsNumbered actor → bytes ≢ actor_text actor ++ 44 ∷ rest

abbrev pub actor_failed : ActorFound → Bool
actor_failed (found.Actor actor) = false
actor_failed found.Other = false
actor_failed found.Failed = true

-- The bytes that were used are an actor's text and a comma; or they begin with none, whatever follows those that wait: behind the
-- end nothing does.
abbrev pub FindsActor : ActorFound → List ℕ → TextStreamState → Type 0
FindsActor (found.Actor actor) used stream = IsNumbered actor × (used ≡ actor_text actor ++ 44 ∷ [])
FindsActor found.Other used stream = (later : List ℕ) → (stream.ended ≡ true → later ≡ []) → BeginsWithNoActor (used ++ (stream.unused ++ later))
FindsActor found.Failed used stream = Unit {0}

-- An actor's text and a comma are read.
pub record ReadsActor (answer : ActorFound) (old : TextStreamState) (before : RoleState) (new : TextStreamState)
    (now : RoleState) : Type 0 where
  pub bytes : List ℕ
  pub uses : Uses (actor_failed answer) bytes old before new now
  pub finds : FindsActor answer bytes new

-- a text is that of an actor, or of none
abbrev pub IsActorOf : ActorFound → List ℕ → Type 0
IsActorOf (found.Actor actor) text = IsNumbered actor × (text ≡ actor_text actor)
IsActorOf found.Other text = (actor : Actor) → IsNumbered actor → text ≢ actor_text actor
IsActorOf found.Failed text = ⊥
