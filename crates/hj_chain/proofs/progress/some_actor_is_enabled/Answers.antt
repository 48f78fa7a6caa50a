use Rattle.hj_chain.proofs.Stuck.{done_or_enabled, stuck_is_done, done_is_stuck}
use Rattle.hj_chain.proofs.progress.some_actor_is_enabled.Goals as goal

pub returns-clause-goes_on : goal.returns-clause-goes_on
returns-clause-goes_on g c = λ matches n flight schedule events chain reached some. done_or_enabled matches n flight reached some

pub returns-clause-stuck : goal.returns-clause-stuck
returns-clause-stuck g c = λ matches n flight schedule events chain reached some none. stuck_is_done matches n flight reached some none

pub returns-clause-done : goal.returns-clause-done
returns-clause-done g c = λ matches n flight schedule events chain reached done. done_is_stuck matches n flight reached done
