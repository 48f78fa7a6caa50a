use Rattle.hj_desk.proofs.Ordering.{in_order-unused}
use Rattle.hj_desk.proofs.in_order.OrderedOutlet.new.Goals as goal

pub returns-clause-unused : goal.returns-clause-unused
returns-clause-unused g c = λ cores. in_order-unused g.D.Drain.takes (record { kept = c.new.result; drain = c.args.drain }) c.new.ensures cores
