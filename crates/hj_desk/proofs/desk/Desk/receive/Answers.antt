use Rattle.std.proofs.Common.{◌+◌, refl}
use Rattle.hj_desk.proofs.Driving.{looks, receives}
use Rattle.hj_desk.proofs.desk.Desk.receive.Goals as goal

pub returns-in_default : goal.returns-in_default
returns-in_default g c = (looks c.args.self.now c.take.new.self c.take.ensures.links c.in_default.ensures.quiet, c.in_default.ensures.empty)

pub returns : goal.returns
returns g c = receives c.args.self.now (c.args.self.now.turns + 1) refl c.took.new.self c.took.ensures.flight c.take.new.self c.args.port c.in-Some.message c.take.ensures.links c.in-Some.ensures.taken c.took.ensures.turn
