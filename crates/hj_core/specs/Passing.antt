-- Messages that a core handles and passes on without a report.
use Rattle.std.specs.Prelude.{Bool, true, false, None, Some}
use Rattle.std.specs.declared.option.Option.{Option}
use Rattle.hj_msg.specs.declared.message.Msg.{Msg}
use Rattle.hj_msg.specs.declared.message.Msg.TheVariants.{R, S, EndR, EndS, ExpR, ExpS, AckS}
use Rattle.hj_core.specs.declared.way.Way.{Way}
use Rattle.hj_core.specs.declared.way.Way.TheVariants.{Left, Right, Nowhere}

module _ {P : Type 0} where
  abbrev pub is_row : Msg P → Bool
  is_row (R at row) = true
  is_row (S at row) = true
  is_row message = false

  -- the way that such a message goes on; None for any other one
  abbrev pub way_of : Msg P → Option Way
  way_of (EndR at) = Some Left
  way_of (EndS at) = Some Right
  way_of (ExpR at) = Some Left
  way_of (ExpS at) = Some Right
  way_of (AckS at) = Some Nowhere
  way_of message = None
