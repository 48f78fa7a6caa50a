use Rattle.std.proofs.Common.{sym}
use Rattle.hj_chain.proofs.ActorOrder.{length-actors}
use Rattle.hj_chain.proofs.actor.Actor.count.Goals as goal

pub returns : goal.returns
returns c = sym (length-actors c.args.cores)
