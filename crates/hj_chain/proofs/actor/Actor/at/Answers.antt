use Rattle.std.proofs.Common.{◌-◌, ◌*◌, ◌/◌, arith}
use Rattle.hj_chain.proofs.ActorOrder.{length-actors, at-left, at-right, at-collection}
use Rattle.hj_chain.proofs.actor.Actor.at.Goals as goal

pub overflow_cast-result : goal.overflow_cast-result
overflow_cast-result c = omega (arith, length-actors c.args.cores)

pub returns-then-place-eq1-clause-actor : goal.returns-then-place-eq1-clause-actor
returns-then-place-eq1-clause-actor c = at-left c.args.cores ((c.args.place - 3) / 2) c.args.place (omega arith) (omega arith)

pub returns-else-place-eq1-clause-actor : goal.returns-else-place-eq1-clause-actor
returns-else-place-eq1-clause-actor c = at-right c.args.cores ((c.args.place - 3) / 2) c.args.place (omega arith) (omega arith)

pub returns-in_default-2-clause-actor : goal.returns-in_default-2-clause-actor
returns-in_default-2-clause-actor c = at-collection c.args.cores (c.args.place - 3 - 2 * c.args.cores) c.args.place (omega (arith, length-actors c.args.cores)) (omega arith)
