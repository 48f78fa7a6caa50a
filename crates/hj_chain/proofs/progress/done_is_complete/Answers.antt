use Rattle.hj_chain.proofs.Complete.{done_is_complete}
use Rattle.hj_chain.proofs.CompleteDone.{complete_is_done}
use Rattle.hj_chain.proofs.progress.done_is_complete.Goals as goal

pub returns-clause-complete : goal.returns-clause-complete
returns-clause-complete g c = λ matches n flight schedule events chain reached well done. done_is_complete matches n flight reached well done

pub returns-clause-done : goal.returns-clause-done
returns-clause-done g c = λ matches n flight schedule events chain reached is complete. complete_is_done matches n flight reached is complete
