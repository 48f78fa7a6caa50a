-- A stream that is used from its start on, one part behind the other.
use Rattle.std.proofs.Common.{Bool, false, List, ◌++◌, ℕ, sym, subst}
use Rattle.hj_base.specs.declared.outside.Role.{Role}
use Rattle.hj_base.specs.Outside.{RoleState}
use Rattle.hj_trace.specs.Stream.{GoesWithRole, TextStreamState, Uses}
use Rattle.hj_trace.proofs.Streams.{uses_both}

module _ (a b : TextStreamState) (mid now : Role → RoleState) where
  -- these bytes more are used
  pub further : (failed : Bool) (xs ys : List ℕ) (start : TextStreamState) (before : RoleState) → Uses false xs start before a (mid a.role) → Uses failed ys a (mid a.role) b (now a.role) → Uses failed (xs ++ ys) start before b (now b.role)
  further failed xs ys start before first second =
      subst (λ (role : Role). Uses failed (xs ++ ys) start before b (now role)) (sym second.role) (uses_both failed xs ys start a b before (mid a.role) (now a.role) first second)

  -- the stream still goes with its role
  pub still_goes : (failed : Bool) (ys : List ℕ) → GoesWithRole a (mid a.role) → Uses failed ys a (mid a.role) b (now a.role) → GoesWithRole b (now b.role)
  still_goes failed ys goes uses =
      let still : GoesWithRole b (now a.role) = record { name = goes.name; phase = uses.name goes.name goes.phase; nothing_left = uses.nothing_left } in
      subst (λ (role : Role). GoesWithRole b (now role)) (sym uses.role) still
