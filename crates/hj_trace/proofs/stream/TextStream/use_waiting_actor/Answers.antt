use Rattle.std.proofs.Common.{ap}
use Rattle.hj_trace.specs.Stream.{TextStreamState}
use Rattle.hj_trace.proofs.Streams.{waiting_text}
use Rattle.hj_trace.proofs.stream.TextStream.use_waiting_actor.Goals as goal

pub returns-clause-found : goal.returns-clause-found
returns-clause-found c = (
  c.in_ok-actor.ensures.numbered,
  waiting_text c.self.inside.portion c.self.inside.used c.self.inside.filled c.in_ok-length.length _ _ c.self.invariant.0
      (ap (λ (stream : TextStreamState). stream.unused) c.self.view_is) c.in_ok-length.ensures c.in_ok-actor.ensures.spells,
)
