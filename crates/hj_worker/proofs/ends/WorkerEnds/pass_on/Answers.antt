use Rattle.hj_worker.proofs.Handling.{left-kept, right-kept}
use Rattle.hj_worker.proofs.ends.WorkerEnds.pass_on.Goals as goal

pub returns-in-Err-clause-puts : goal.returns-in-Err-clause-puts
returns-in-Err-clause-puts g c =
    left-kept c.args.turn c.args.self.now c.put.new.self c.args.way c.args.message c.in-Err.field-0.0 c.keep_for_left.new.hand c.in-Left.is c.in-Err.ensures.back c.in-Err.ensures.same c.in-Err.ensures.full.2 c.keep_for_left.ensures

pub returns-in-Err-put-clause-puts : goal.returns-in-Err-put-clause-puts
returns-in-Err-put-clause-puts g c =
    right-kept c.args.turn c.args.self.now c.put-in-Right.new.self c.args.way c.args.message c.in-Err-put.field-0.0 c.keep_for_right.new.hand c.in-Right.is c.in-Err-put.ensures.back c.in-Err-put.ensures.same c.in-Err-put.ensures.full.2
    c.keep_for_right.ensures
