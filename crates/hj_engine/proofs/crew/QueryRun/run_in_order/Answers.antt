use Rattle.std.proofs.Common.{List}
use Rattle.hj_value.specs.declared.field.Field.{Field}
use Rattle.hj_eval.specs.Holds.{holds}
use Rattle.hj_desk.specs.declared.in_order.OrderedOutlet.{OrderedOutlet}
use Rattle.hj_crew.proofs.InOrder.{ran-in_order}
use Rattle.hj_crew.proofs.Refusing.{refused-within}
use Rattle.hj_engine.proofs.crew.QueryRun.run_in_order.Goals as goal

pub returns-clause-runs : goal.returns-clause-runs
returns-clause-runs g c =
    let chain = c.args.self.now.plan.now.size.chain in
    let made = c.run_between-ran.result in
    ran-in_order g.F.Feed.gives g.F.Feed.state g.D.Drain.takes (holds c.args.self.now.query.now) chain.cores chain.flight c.args.feed made.1 c.new-outlet.result made.2 c.args.drain c.new-outlet.ensures.drain made.0
    (c.new-outlet.ensures.unused chain.cores) c.run_between-ran.ensures.runs

pub returns-clause-refused : goal.returns-clause-refused
returns-clause-refused g c =
    let made = c.run_between-ran.result in
    refused-within made.0 (λ (o : OrderedOutlet (List Field) g.row.D.Denot). o.drain) c.args.feed made.1 c.new-outlet.result made.2 c.args.drain c.new-outlet.ensures.drain c.run_between-ran.ensures.refused
