-- The streams of a second join: its left one is the relay, its right one the third stream of another outside.
use Rattle.std.specs.Prelude.{ℕ, zero, suc, true, false, List, [], ◌∷◌, Some}
use Rattle.std.specs.declared.option.Option.{Option}
use Rattle.hj_base.specs.declared.outside.Role.{Role}
use Rattle.hj_base.specs.declared.outside.Role.TheVariants as role
use Rattle.hj_base.specs.Outside.{Phase, unbegun, opened, refused, RoleState, new_role}
use Rattle.hj_held.specs.Held.{HeldState, open_role}

abbrev pub relayed_role : HeldState → (Role → RoleState) → Role → RoleState
relayed_role relay others role.Left = open_role relay
relayed_role relay others role.Right = others role.Third
relayed_role relay others other = new_role

-- the roles but the third stream's, by numbers
abbrev pub role_numbered : ℕ → Role
role_numbered zero = role.Query
role_numbered (suc zero) = role.SecondQuery
role_numbered (suc (suc zero)) = role.Left
role_numbered (suc (suc (suc zero))) = role.Right
role_numbered (suc (suc (suc (suc zero)))) = role.Trace
role_numbered (suc (suc (suc (suc (suc n))))) = role.Output

abbrev pub phase_told : Phase → List ℕ
phase_told unbegun = []
phase_told (opened name false) = 0 ∷ name
phase_told (opened name true) = 1 ∷ name
phase_told (refused name) = 2 ∷ name

-- the state of a role, told as bytes under names
abbrev pub role_told : RoleState → List ℕ → Option (List ℕ)
role_told state [] = state.left
role_told state (zero ∷ name) = Some (state.faults ∷ [])
role_told state (suc n ∷ name) = Some (phase_told state.phase)

-- What a second join leaves as it is, told as bytes under names: which outside is referred to, what this tells under each name, and the
-- state of each of its roles but that of the third stream.
abbrev pub kept_told : ℕ → (List ℕ → Option (List ℕ)) → (Role → RoleState) → List ℕ → Option (List ℕ)
kept_told reference under roles [] = Some (reference ∷ [])
kept_told reference under roles (zero ∷ name) = under name
kept_told reference under roles (suc n ∷ name) = role_told (roles (role_numbered n)) name
