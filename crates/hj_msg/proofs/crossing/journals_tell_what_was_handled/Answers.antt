use Rattle.hj_msg.proofs.CoreTurns.{handle_the_same}
use Rattle.hj_msg.proofs.crossing.journals_tell_what_was_handled.Goals as goal

pub returns : goal.returns
returns g c = λ run one other. handle_the_same run one other
