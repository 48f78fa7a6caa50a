use Rattle.std.proofs.Common.{refl}
use Rattle.hj_chain.proofs.Sending.{on_left, on_no_side, on_right}
use Rattle.hj_chain.proofs.links.Links.carry.Goals as goal

pub returns-in-Left : goal.returns-in-Left
returns-in-Left g c = on_left c.args.place c.args.msg c.args.self.now c.put_left.new.self c.args.way c.in-Left.is c.put_left.ensures

pub returns-in-Right : goal.returns-in-Right
returns-in-Right g c = on_right c.args.place c.args.msg c.args.self.now c.put_right.new.self c.args.way c.in-Right.is c.put_right.ensures

pub returns-in-Nowhere : goal.returns-in-Nowhere
returns-in-Nowhere g c = on_no_side c.args.place c.args.msg c.args.self.now c.args.self.now c.args.way c.in-Nowhere.is refl
