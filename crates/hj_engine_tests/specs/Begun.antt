-- Streams of which none was begun.
use Rattle.std.specs.Prelude.{◌≡◌}
use Rattle.hj_base.specs.declared.outside.Role.{Role}
use Rattle.hj_base.specs.declared.outside.Role.TheVariants as role
use Rattle.hj_base.specs.Outside.{RoleState, unbegun}

-- The streams of two joins in a row can be begun.
pub record AreUnbegun (state : Role → RoleState) : Type 0 where
  pub left : (state role.Left).phase ≡ unbegun
  pub right : (state role.Right).phase ≡ unbegun
  pub third : (state role.Third).phase ≡ unbegun
