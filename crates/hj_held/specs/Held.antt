-- Streams and a text that stand in memory.
use Rattle.std.specs.Prelude.{ℕ, Bool, List, [], Some}
use Rattle.hj_base.specs.declared.outside.Role.{Role}
use Rattle.hj_base.specs.declared.outside.Role.TheVariants as role
use Rattle.hj_base.specs.Outside.{RoleState, new_role, opened}

-- A stream that is open: the bytes that weren't read yet, and whether a read has answered their end.
pub record HeldState : Type 0 where
  pub rest : List ℕ
  pub ended : Bool

pub record TwoHeld : Type 0 where
  pub left : HeldState
  pub right : HeldState

-- a role that never fails
abbrev pub open_role : HeldState → RoleState
open_role stream = record { phase = opened [] stream.ended; faults = 0; left = Some stream.rest }

-- No other role is ever begun.
abbrev pub held_role : TwoHeld → Role → RoleState
held_role held role.Left = open_role held.left
held_role held role.Right = open_role held.right
held_role held other = new_role

-- a text that was taken, and how often a write was refused for memory
pub record KeptState : Type 0 where
  pub text : List ℕ
  pub refusals : ℕ
