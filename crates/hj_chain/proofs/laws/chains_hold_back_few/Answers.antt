use Rattle.hj_chain.proofs.Waiting.{gave_all_but_last}
use Rattle.hj_chain.proofs.laws.chains_hold_back_few.Goals as goal

pub returns : goal.returns
returns g c = λ predicate chain schedule events given stands most well quiet going waits none. gave_all_but_last predicate chain schedule events given stands well most quiet going waits none
