use Rattle.hj_msg.proofs.Joined.{join_of_well_formed}
use Rattle.hj_msg.proofs.laws.join_lists_each_match_once.Goals as goal

pub returns : goal.returns
returns g c = join_of_well_formed
