use Rattle.std.proofs.Common.{refl}
use Rattle.hj_crew.proofs.Teaming.{appends-one}
use Rattle.hj_crew.proofs.levels.keep_refused.Goals as goal

pub returns-in-Ok-clause-given : goal.returns-in-Ok-clause-given
returns-in-Ok-clause-given g c = λ team started refused. (rw c.in-Ok.is at started, refl)

pub returns-in-Err-clause-given : goal.returns-in-Err-clause-given
returns-in-Err-clause-given g c = λ team started refused. appends-one team c.in-Err.team c.args.own.now.items c.push_reserved.new.self.items (rw c.in-Err.is at refused) c.push_reserved.ensures.items
