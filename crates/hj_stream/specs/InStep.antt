-- That a role is in step is a fact with one proof.
use Rattle.std.proofs.Common.{ℕ, Bool, List, Some, None}
use Rattle.std.specs.declared.option.Option.{Option}
use Rattle.std.specs.Io.KnownBytes.{IsAtEnd}
use Rattle.std.proofs.Props.{props}
use Rattle.hj_base.specs.Outside.{RoleState}
use Rattle.hj_event.specs.Roles.{IsInStep}

IsAtEnd-prop : (left : Option (List ℕ)) → IsProp (IsAtEnd left)
IsAtEnd-prop None = hlevel props
IsAtEnd-prop (Some bytes) = hlevel props

pub IsInStep-prop : (ended : Bool) (role : RoleState) → IsProp (IsInStep ended role)
IsInStep-prop ended role = hlevel (props, IsAtEnd-prop)
