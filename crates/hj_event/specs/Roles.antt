-- What reading a side on does to its role.
use Rattle.std.specs.Prelude.{◌≡◌, ℕ, ◌≤◌, Bool, true, false, List, []}
use Rattle.std.specs.Io.KnownBytes.{Consumes, IsAtEnd}
use Rattle.hj_base.specs.Counts.{Rose}
use Rattle.hj_base.specs.Outside.{Phase, unbegun, opened, refused, RoleState}

-- the name that a role was begun under
abbrev pub name_of : Phase → List ℕ
name_of unbegun = []
name_of (opened name ended) = name
name_of (refused name) = name

-- A role is open. It has answered its end, and then nothing is left of it, or it has not.
pub record IsInStep (ended : Bool) (role : RoleState) : Type 0 where
  pub phase : role.phase ≡ opened (name_of role.phase) ended
  pub at_end : ended ≡ true → IsAtEnd role.left

-- A count rises where a read failed, and else stays.
abbrev pub CountsFailure : Bool → ℕ → ℕ → Type 0
CountsFailure true before now = (before ≤ now) × Rose before now
CountsFailure false before now = now ≡ before

-- Nothing was read of a role.
abbrev pub IsUnread : List ℕ → RoleState → RoleState → Type 0
IsUnread bytes before now = (bytes ≡ []) × (now ≡ before)

-- These bytes came, and perhaps the end, or a read failed; behind the end nothing is read.
pub record IsReadOn (failed : Bool) (bytes : List ℕ) (was ended : Bool) (before now : RoleState) : Type 0 where
  pub came : Consumes before.left now.left bytes
  pub name : name_of now.phase ≡ name_of before.phase
  pub in_step : IsInStep ended now
  pub no_more : was ≡ true → (ended ≡ true) × (bytes ≡ []) × (failed ≡ false)
  pub unended : failed ≡ true → ended ≡ false
  pub faults : CountsFailure failed before.faults now.faults
