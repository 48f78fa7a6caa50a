use Rattle.hj_trace.proofs.Streams.{waiting_actor}
use Rattle.hj_trace.proofs.stream.TextStream.actor.Goals as goal

pub returns-in-Some-clause-reads : goal.returns-in-Some-clause-reads
returns-in-Some-clause-reads g c =
    waiting_actor c.in-Some.actor c.args.self.now c.use_waiting_actor.new.self (g.O.Outside.state c.args.outside.now c.args.self.now.role) c.requires.nothing_left c.in-Some.ensures.found
    c.use_waiting_actor.ensures.role c.use_waiting_actor.ensures.ended
