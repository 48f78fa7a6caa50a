use Rattle.hj_chain.proofs.FewSteps.{few_steps}
use Rattle.hj_chain.proofs.progress.steps_are_few.Goals as goal

pub returns : goal.returns
returns g c = record { few = λ matches n flight schedule events chain reached. few_steps matches n flight reached }
