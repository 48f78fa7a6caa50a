-- Outstanding events that leave by one message each.
use Rattle.std.specs.Prelude.{ℕ, List}
use Rattle.hj_base.specs.declared.numbers.EventNo.{EventNo}

-- their numbers, and how many there is room for
pub record LeavingState : Type 0 where
  pub numbers : List EventNo
  pub room : ℕ
