-- The streams of the four roles stay open while one of them is read.
use Rattle.std.proofs.Common.{◌≡◌, ◌≢◌, Bool, sym, ap, subst, ◌∙◌}
use Rattle.hj_base.specs.declared.outside.Role.{Role}
use Rattle.hj_base.specs.declared.outside.Role.TheVariants as role
use Rattle.hj_base.specs.Outside.{RoleState, ChangesOnly}
use Rattle.hj_event.specs.Roles.{IsInStep}
use Rattle.hj_trace.specs.Stream.{GoesWithRole, TextStreamState}
use Rattle.hj_verify.specs.Checked.{AreOpen, IsStreamRole}
use Rattle.hj_verify.proofs.Stopping.{output_isnt_trace, trace_isnt_output}

module _ (before now : Role → RoleState) where
  goes_still : (stream : TextStreamState) → now stream.role ≡ before stream.role → GoesWithRole stream (before stream.role) → GoesWithRole stream (now stream.role)
  goes_still stream same goes = subst (λ (s : RoleState). GoesWithRole stream s) (sym same) goes

  -- the trace was read
  pub open_trace : (trace used output : TextStreamState) → AreOpen before trace output → ChangesOnly trace.role before now → used.role ≡ trace.role → GoesWithRole used (now used.role) → AreOpen now used output
  open_trace trace used output are_open changes same goes = record {
    trace_role = same ∙ are_open.trace_role;
    output_role = are_open.output_role;
    trace_open = goes;
    output_open = goes_still output (changes output.role (λ e. output_isnt_trace (sym are_open.output_role ∙ (e ∙ are_open.trace_role)))) are_open.output_open;
  }

  -- the output was read
  pub open_output : (trace output used : TextStreamState) → AreOpen before trace output → ChangesOnly output.role before now → used.role ≡ output.role → GoesWithRole used (now used.role) → AreOpen now trace used
  open_output trace output used are_open changes same goes = record {
    trace_role = are_open.trace_role;
    output_role = same ∙ are_open.output_role;
    trace_open = goes_still trace (changes trace.role (λ e. trace_isnt_output (sym are_open.trace_role ∙ (e ∙ are_open.output_role)))) are_open.trace_open;
    output_open = goes;
  }

  -- the two streams of the events were read
  pub open_events : (trace output : TextStreamState) → AreOpen before trace output → now role.Trace ≡ before role.Trace → now role.Output ≡ before role.Output → AreOpen now trace output
  open_events trace output are_open same also = record {
    trace_role = are_open.trace_role;
    output_role = are_open.output_role;
    trace_open = goes_still trace (ap now are_open.trace_role ∙ (same ∙ sym (ap before are_open.trace_role))) are_open.trace_open;
    output_open = goes_still output (ap now are_open.output_role ∙ (also ∙ sym (ap before are_open.output_role))) are_open.output_open;
  }

  -- another role was read
  module _ (read of : Role) (changes : ChangesOnly read before now) (is : read ≡ of) where
    pub others_stay : ChangesOnly of before now
    others_stay = subst (λ (r : Role). ChangesOnly r before now) is changes

    -- a stream of the events stays in step
    pub in_step_beside : (ended : Bool) (stream : Role) → (IsStreamRole of → ⊥) → IsStreamRole stream → IsInStep ended (before stream) → IsInStep ended (now stream)
    in_step_beside ended stream isnt stands step = subst (λ (s : RoleState). IsInStep ended s) (sym (others_stay stream (λ e. isnt (subst IsStreamRole e stands)))) step

-- the output stays open while the trace is read
pub goes_apart : (of : Role) (output : TextStreamState) (before now : Role → RoleState) → ChangesOnly of before now → output.role ≡ role.Output → of ≢ role.Output → GoesWithRole output (before output.role) → GoesWithRole output (now output.role)
goes_apart of output before now changes is apart goes = goes_still before now output (changes output.role (λ e. apart (sym e ∙ is))) goes
