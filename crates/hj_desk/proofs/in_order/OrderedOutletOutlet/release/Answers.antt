use Rattle.hj_desk.proofs.Ordering.{gives-due}
use Rattle.hj_desk.proofs.in_order.OrderedOutletOutlet.release.Goals as goal

pub returns-clause-due : goal.returns-clause-due
returns-clause-due g c = gives-due g.D.Drain.takes c.args.collector.now c.args.self.now c.give_due.result c.give_due.new.self c.give_due.new.drain c.give_due.ensures.gives
