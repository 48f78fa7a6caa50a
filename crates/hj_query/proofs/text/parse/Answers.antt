use Rattle.hj_query.proofs.TextOutcomes.{gives_fault, gives_query}
use Rattle.hj_query.proofs.text.parse.Goals as goal

pub returns-clause-query : goal.returns-clause-query
returns-clause-query c = gives_query c.args.text.now c.query.result c.query.ensures

pub returns-clause-fault : goal.returns-clause-fault
returns-clause-fault c = gives_fault c.args.text.now c.query.result c.query.ensures
