-- Streams that were opened, of which nothing was read.
use Rattle.std.proofs.Common.{List, ℕ, false, sym, ◌∙◌, ap}
use Rattle.std.specs.declared.option.Option.{Option}
use Rattle.hj_base.specs.Outside.{RoleState, opened}
use Rattle.hj_event.specs.Roles.{IsInStep, name_of}
use Rattle.hj_opening.specs.Opening.{IsOpened}

-- a role that was opened has not answered its end
pub in_step : (name : List ℕ) (told : Option (List ℕ)) (before now : RoleState) → IsOpened name told before now → IsInStep false now
in_step name told before now ready = record { phase = ready.phase ∙ ap (λ (n : List ℕ). opened n false) (sym (ap name_of ready.phase)); at_end = λ e. absurd cc }
