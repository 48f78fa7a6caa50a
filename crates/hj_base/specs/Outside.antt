-- What stands of the streams that are read, one for each role, and what a start and a read do to it.
use Rattle.std.specs.Prelude.{◌≡◌, ◌≢◌, ℕ, ◌≤◌, Bool, true, false, List, None, length, take}
use Rattle.std.specs.Io.KnownBytes.{Consumes, IsAtEnd}
use Rattle.std.specs.declared.option.Option.{Option}
use Rattle.hj_base.specs.declared.numbers.Side.{Side}
use Rattle.hj_base.specs.declared.numbers.Side.TheVariants as side
use Rattle.hj_base.specs.declared.outside.Role.{Role}
use Rattle.hj_base.specs.declared.outside.Role.TheVariants as role
use Rattle.hj_base.specs.declared.outside.Opened.{Opened}
use Rattle.hj_base.specs.declared.outside.Opened.TheVariants as start
use Rattle.hj_base.specs.declared.outside.Got.{Got}
use Rattle.hj_base.specs.declared.outside.Got.TheVariants as read
use Rattle.hj_base.specs.Counts.{Rose}

-- the role of a side's stream
abbrev pub role_of : Side → Role
role_of side.Left = role.Left
role_of side.Right = role.Right

-- A role begins once, under a name. Then it is open, and has answered the end of its bytes or has not; or its start failed.
pub data Phase : Type 0 where
  unbegun : Phase
  opened : (name : List ℕ) (ended : Bool) → Phase
  refused : (name : List ℕ) → Phase

pub record RoleState : Type 0 where
  pub phase : Phase
  -- how often this role failed
  pub faults : ℕ
  -- the bytes that it has left, where they are told
  pub left : Option (List ℕ)

-- a role that is not begun, and of which no bytes are told
abbrev pub new_role : RoleState
new_role = record { phase = unbegun; faults = 0; left = None }

abbrev pub IsOpen : Phase → Type 0
IsOpen unbegun = ⊥
IsOpen (opened name ended) = Unit {0}
IsOpen (refused name) = ⊥

-- the phase once a read answered the end
abbrev pub at_end : Phase → Phase
at_end unbegun = unbegun
at_end (opened name ended) = opened name true
at_end (refused name) = refused name

-- Starting a role under a name, with the bytes that are told to stand under that name.
abbrev pub Starts : Opened → List ℕ → Option (List ℕ) → RoleState → RoleState → Type 0
Starts start.Ready name told old new = (new.phase ≡ opened name false) × (new.left ≡ told) × (new.faults ≡ old.faults)
Starts start.Failed name told old new = (new.phase ≡ refused name) × (old.faults ≤ new.faults) × Rose old.faults new.faults
Starts start.Memory name told old new = new ≡ old

-- Reading into a buffer, which holds `buf` afterwards.
abbrev pub Reads : Got → List ℕ → RoleState → RoleState → Type 0
Reads (read.Bytes m) buf old new = (1 ≤ m) × (m ≤ length buf) × Consumes old.left new.left (take m buf) × (new.phase ≡ old.phase) × (new.faults ≡ old.faults)
Reads read.End buf old new = IsAtEnd old.left × (new.left ≡ old.left) × (new.phase ≡ at_end old.phase) × (new.faults ≡ old.faults)
Reads read.Failed buf old new = (new.left ≡ old.left) × (new.phase ≡ old.phase) × (old.faults ≤ new.faults) × Rose old.faults new.faults

-- Nothing changes but one role.
abbrev pub ChangesOnly : Role → (Role → RoleState) → (Role → RoleState) → Type 0
ChangesOnly role old new = (other : Role) → other ≢ role → new other ≡ old other

-- Nothing changes but the roles of the two streams of a join.
abbrev pub ChangesOnlyStreams : (Role → RoleState) → (Role → RoleState) → Type 0
ChangesOnlyStreams old new = (other : Role) → other ≢ role.Left → other ≢ role.Right → new other ≡ old other

-- No role has begun.
abbrev pub NoneBegun : (Role → RoleState) → Type 0
NoneBegun state = (of : Role) → (state of).phase ≡ unbegun

-- Under each name stands what stood there.
abbrev pub NamesStay : (List ℕ → Option (List ℕ)) → (List ℕ → Option (List ℕ)) → Type 0
NamesStay before now = (name : List ℕ) → now name ≡ before name
