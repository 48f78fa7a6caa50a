use Rattle.hj_query.proofs.TextOutcomes.{has_one_query_or_fault, has_query_or_fault}
use Rattle.hj_query.proofs.laws.text_is_query_or_fault.Goals as goal

pub returns-clause-some : goal.returns-clause-some
returns-clause-some c = has_query_or_fault

pub returns-clause-one : goal.returns-clause-one
returns-clause-one c = has_one_query_or_fault
