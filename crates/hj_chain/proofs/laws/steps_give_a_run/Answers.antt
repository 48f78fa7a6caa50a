use Rattle.hj_chain.proofs.Projection.{all_collected, is_run}
use Rattle.hj_chain.proofs.Room.{has_room}
use Rattle.hj_chain.proofs.laws.steps_give_a_run.Goals as goal

pub returns-clause-run : goal.returns-clause-run
returns-clause-run g c = λ matches n flight schedule events chain reached well. is_run matches n flight reached well

pub returns-clause-collected : goal.returns-clause-collected
returns-clause-collected g c = λ matches n flight schedule events chain reached well. all_collected matches n flight reached well

pub returns-clause-room : goal.returns-clause-room
returns-clause-room g c = λ matches n flight schedule events chain reached well. has_room matches n flight reached well
