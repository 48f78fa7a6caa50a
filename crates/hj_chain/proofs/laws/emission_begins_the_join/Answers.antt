use Rattle.hj_chain.proofs.Finishing.{emission_begins, emission_whole}
use Rattle.hj_chain.proofs.laws.emission_begins_the_join.Goals as goal

pub returns-clause-begins : goal.returns-clause-begins
returns-clause-begins g c = λ predicate chain schedule events given stands well. emission_begins predicate chain schedule events given stands well

pub returns-clause-whole : goal.returns-clause-whole
returns-clause-whole g c = λ predicate chain schedule events given stands well done. emission_whole predicate chain schedule events given stands well done
