use Rattle.hj_opening.specs.Words.{most_events, pair_lines}
use Rattle.hj_serve.proofs.plan.equi_plan.Goals as goal

pub returns-clause-asked : goal.returns-clause-asked
unfolding most_events
returns-clause-asked c = c.join_of-join.ensures pair_lines
