-- What a caller keeps of a merger from call to call: its roles are as it left them.
use Rattle.std.proofs.Common.{Option, Some, None, sym, subst}
use Rattle.hj_base.specs.declared.outside.Role.{Role}
use Rattle.hj_base.specs.declared.outside.Role.TheVariants as role
use Rattle.hj_base.specs.Outside.{RoleState}
use Rattle.hj_event.specs.declared.merger.Next.{Next}
use Rattle.hj_event.specs.declared.stop.MergeEnd.{MergeEnd}
use Rattle.hj_event.specs.Merger.{Merging, AnswersNext, AnswersFrom}
use Rattle.hj_event.specs.Roles.{IsInStep}

abbrev pub InStep : Merging → (Role → RoleState) → Type 0
InStep merging roles = IsInStep merging.sides.left.reading.ended (roles role.Left) × IsInStep merging.sides.right.reading.ended (roles role.Right)

in_step-from : (over : Option MergeEnd) (answer : Next) (old new : Merging) (before now : Role → RoleState) → AnswersFrom over answer old new before now → InStep old before → InStep new now
in_step-from None answer old new before now takes step = (takes.left.in_step, takes.right.in_step)
in_step-from (Some last) answer old new before now repeats step =
    subst (λ (m : Merging). InStep m now) (sym repeats.1)
    (subst (λ (s : RoleState). IsInStep old.sides.left.reading.ended s) (sym (repeats.2 role.Left)) step.0, subst (λ (s : RoleState). IsInStep old.sides.right.reading.ended s) (sym (repeats.2 role.Right)) step.1)

pub in_step-behind : (answer : Next) (old new : Merging) (before now : Role → RoleState) → AnswersNext answer old new before now → InStep old before → InStep new now
in_step-behind answer old new before now answers step = in_step-from old.over answer old new before now answers step
