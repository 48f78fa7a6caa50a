use Rattle.hj_msg.proofs.CrossingLemmas.{keeps_order, handles_once}
use Rattle.hj_msg.proofs.crossing.rows_cross_in_one_order.Goals as goal

pub returns-clause-once : goal.returns-clause-once
returns-clause-once g c = λ run is. handles_once run is

pub returns-clause-order : goal.returns-clause-order
returns-clause-order g c = λ run is. keeps_order run is
