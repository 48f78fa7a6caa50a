-- What stands of a role that reads a stream.
use Rattle.std.specs.Prelude.{◌≡◌, ◌↔◌, ℕ, List, None, Some, IsSome, IfSome, option_and_then, string_bytes}
use Rattle.std.specs.Io.KnownBytes.{ReadConsumes}
use Rattle.std.specs.declared.option.Option.{Option}
use Rattle.hj_base.specs.declared.outside.Got.{Got}
use Rattle.hj_base.specs.declared.outside.Got.TheVariants as got
use Rattle.hj_base.specs.declared.outside.Opened.{Opened}
use Rattle.hj_base.specs.declared.outside.Opened.TheVariants as start
use Rattle.hj_base.specs.Counts.{one_more}
use Rattle.hj_base.specs.Outside.{Phase, RoleState, Reads, Starts, unbegun, opened, refused}
use Rattle.hj_net.specs.Answers.{as_read}
use Rattle.hj_net.specs.declared.role_stream.RoleStream.{RoleStream}
use Rattle.hj_net.specs.declared.role_stream.RoleStage.{RoleStage}
use Rattle.hj_net.specs.declared.role_stream.RoleStage.TheVariants as stage

abbrev pub phase_of : {S : Type 0} → RoleStage S → Phase
phase_of stage.Unbegun = unbegun
phase_of (stage.Opened name ended stream) = opened (string_bytes name) ended
phase_of (stage.Refused name) = refused (string_bytes name)

-- The role tells no bytes, since a file tells none.
abbrev pub role_of : {S : Type 0} → RoleStream S → RoleState
role_of role = record { phase = phase_of role.stage; faults = role.faults; left = None }

abbrev stream_in : {S : Type 0} → RoleStage S → Option S
stream_in stage.Unbegun = None
stream_in (stage.Opened name ended stream) = Some stream
stream_in (stage.Refused name) = None

-- the stream of an open role
abbrev pub stream_of : {S : Type 0} → RoleStream S → Option S
stream_of role = stream_in role.stage

-- the bytes that the stream of an open role has left, where the stream tells them
abbrev pub remaining : {S : Type 0} → (S → Option (List ℕ)) → RoleStream S → Option (List ℕ)
remaining left role = option_and_then left (stream_of role)

module _ {S : Type 0} where
  -- The role begins under a name, with the stream that was opened for it, if one was.
  pub record Begins (answer : Opened) (name : List ℕ) (given : Option S) (old new : RoleStream S) : Type 0 where
    pub starts : Starts answer name None (role_of old) (role_of new)
    pub ready : (answer ≡ start.Ready) ↔ IsSome given
    pub fault : answer ≡ start.Failed → (role_of new).faults ≡ one_more (role_of old).faults
    pub stream : IfSome given (λ stream. stream_of new ≡ Some stream)

  -- The next bytes of the stream are read, and the buffer holds these afterwards.
  pub record ReadsOn (left : S → Option (List ℕ)) (answer : Got) (buf : List ℕ) (old new : RoleStream S) : Type 0 where
    pub reads : Reads answer buf (role_of old) (role_of new)
    pub bytes : ReadConsumes (remaining left old) (remaining left new) (as_read answer) buf
    pub fault : answer ≡ got.Failed → (role_of new).faults ≡ one_more (role_of old).faults
