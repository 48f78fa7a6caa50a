use Rattle.hj_desk.specs.declared.in_order.OrderedOutlet.{OrderedOutlet}
use Rattle.hj_crew.proofs.InOrder.{ran-in_order}
use Rattle.hj_crew.proofs.Refusing.{refused-within}
use Rattle.hj_crew.proofs.plan.CrewPlan.run_threads.Goals as goal

pub returns-clause-runs : goal.returns-clause-runs
returns-clause-runs g c =
    let chain = c.args.self.now.size.chain in
    let made = c.run_between-ran.result in
    ran-in_order g.F.Feed.gives g.F.Feed.state g.D.Drain.takes (g.J.Join.predicate c.args.input.join.now) chain.cores chain.flight c.args.input.feed made.1 c.new-outlet.result made.2 c.args.drain c.new-outlet.ensures.drain made.0
    (c.new-outlet.ensures.unused chain.cores) c.run_between-ran.ensures.runs

pub returns-clause-memory : goal.returns-clause-memory
returns-clause-memory g c =
    let made = c.run_between-ran.result in
    refused-within made.0 (λ (o : OrderedOutlet g.row.P.Denot g.row.D.Denot). o.drain) c.args.input.feed made.1 c.new-outlet.result made.2 c.args.drain c.new-outlet.ensures.drain c.run_between-ran.ensures.memory
