use Rattle.hj_chain.proofs.Finishing.{all_given, given_in_order}
use Rattle.hj_chain.proofs.laws.chains_give_the_join.Goals as goal

pub returns-clause-in_order : goal.returns-clause-in_order
returns-clause-in_order g c = λ predicate chain schedule events given stands well. given_in_order predicate chain schedule events given stands well

pub returns-clause-whole : goal.returns-clause-whole
returns-clause-whole g c = λ predicate chain schedule events given stands well going done none. all_given predicate chain schedule events given stands well going done none
