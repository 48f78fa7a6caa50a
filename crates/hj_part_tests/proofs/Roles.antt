-- A call on one role leaves the others as they were.
use Rattle.std.proofs.Common.{◌≡◌, ◌≢◌, ap, sym, subst, ◌∙◌}
use Rattle.hj_base.specs.Outside.{Phase, RoleState, IsOpen}
use Rattle.hj_base.specs.declared.outside.Role.TheVariants as role

pub left_is_other : role.Left ≢ role.Right
left_is_other e = cc

pub right_is_other : role.Right ≢ role.Left
right_is_other e = cc

pub same_phase : (old new : RoleState) (phase : Phase) → new ≡ old → old.phase ≡ phase → new.phase ≡ phase
same_phase old new phase e is = ap (λ (state : RoleState). state.phase) e ∙ is

pub stays_open : (old new : RoleState) → new ≡ old → IsOpen old.phase → IsOpen new.phase
stays_open old new e is = subst (λ (state : RoleState). IsOpen state.phase) (sym e) is
