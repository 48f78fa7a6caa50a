-- What is left of a stream that is open.
use Rattle.std.specs.Prelude.{ℕ, Bool, List}

pub record OpenState : Type 0 where
  pub name : List ℕ
  -- a read answered the end
  pub ended : Bool
  pub left : List ℕ
