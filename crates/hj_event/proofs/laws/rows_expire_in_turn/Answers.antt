use Rattle.hj_event.proofs.Whole.{expire_in_turn}
use Rattle.hj_event.proofs.laws.rows_expire_in_turn.Goals as goal

pub returns : goal.returns
returns c = expire_in_turn
