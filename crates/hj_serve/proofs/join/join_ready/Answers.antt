use Rattle.hj_serve.specs.OrderPlan.{crew_seen}
use Rattle.hj_serve.proofs.AsAsked.{as_met, in_order}
use Rattle.hj_serve.proofs.RawJoined.{untouched_out}
use Rattle.hj_serve.proofs.join.join_ready.Goals as goal

pub returns-in-InOrder-clause-joins : goal.returns-in-InOrder-clause-joins
returns-in-InOrder-clause-joins g c =
    let made = c.join_threads.ensures.joins in
    (in_order c.args.writing (crew_seen c.args.plan.now.size) c.in-InOrder.is made.0 c.join_threads.result.1 made.1).0

pub returns-in-InOrder-clause-shows : goal.returns-in-InOrder-clause-shows
returns-in-InOrder-clause-shows g c =
    let made = c.join_threads.ensures.joins in
    (in_order c.args.writing (crew_seen c.args.plan.now.size) c.in-InOrder.is made.0 c.join_threads.result.1 made.1).1

pub returns-in-AsMet-clause-joins : goal.returns-in-AsMet-clause-joins
returns-in-AsMet-clause-joins g c =
    let made = c.join_raw.ensures in
    let ran = c.join_raw.result.1 in
    (as_met c.args.writing (crew_seen c.args.plan.now.size) c.in-AsMet.is made.joins.0 ran made.joins.1 made.no_run
    (untouched_out _ _ ran made.untouched)).0

pub returns-in-AsMet-clause-shows : goal.returns-in-AsMet-clause-shows
returns-in-AsMet-clause-shows g c =
    let made = c.join_raw.ensures in
    let ran = c.join_raw.result.1 in
    (as_met c.args.writing (crew_seen c.args.plan.now.size) c.in-AsMet.is made.joins.0 ran made.joins.1 made.no_run
    (untouched_out _ _ ran made.untouched)).1
