use Rattle.hj_serve.specs.OrderPlan.{crew_seen}
use Rattle.hj_opening.specs.Words.{most_events}
use Rattle.hj_serve.proofs.MadeJoin.{held_joins}
use Rattle.hj_serve.proofs.generate.join_held.Goals as goal

pub returns : goal.returns
unfolding most_events
returns g c =
    held_joins c.args.query.now 4294967295 c.args.made.left c.args.made.right (crew_seen c.args.plan.now.size) c.new-held.result c.join_threads-outcome.new.outside c.new-text.result c.join_threads-outcome.new.out c.new-held.ensures c.new-text.ensures
    c.join_threads-outcome.result.0 c.join_threads-outcome.result.1 c.join_threads-outcome.ensures.joins c.join_threads-outcome.ensures.no_run c.join_threads-outcome.ensures.faults
