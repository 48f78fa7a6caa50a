use Rattle.std.proofs.Common.{refl}
use Rattle.hj_trace.proofs.Ports.{no_port}
use Rattle.hj_trace.proofs.actors.read_actor.Goals as goal

pub returns-in-None-clause-none : goal.returns-in-None-clause-none
returns-in-None-clause-none c = λ _ actor numbered e. no_port c.args.text.now _ c.in-80.is refl (c.in-None.ensures.none refl) actor e
