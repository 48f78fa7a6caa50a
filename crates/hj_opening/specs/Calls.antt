-- What a call of `serve` did to the streams and to the output that it was handed.
use Rattle.std.specs.Prelude.{ℕ, List}
use Rattle.std.specs.declared.option.Option.{Option}
use Rattle.hj_base.specs.declared.outside.Role.{Role}
use Rattle.hj_base.specs.Outside.{RoleState}

pub record Call : Type 0 where
  -- the bytes under a name, where they are told
  pub under : List ℕ → Option (List ℕ)
  -- the roles at the start of the call, and at its end
  pub before : Role → RoleState
  pub now : Role → RoleState
  -- the output at the start of the call, and at its end, where it is told
  pub old : Option (List ℕ)
  pub new : Option (List ℕ)
  -- how many writes to the output had failed at the start of the call, and at its end
  pub faults_before : ℕ
  pub faults_now : ℕ

abbrev pub call : (List ℕ → Option (List ℕ)) → (Role → RoleState) → (Role → RoleState)
    → Option (List ℕ) → Option (List ℕ) → ℕ → ℕ → Call
call under before now old new faults_before faults_now =
    record { under = under; before = before; now = now; old = old; new = new; faults_before = faults_before; faults_now = faults_now }
