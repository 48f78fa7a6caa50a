use Rattle.std.proofs.Common.{ap, sym, ◌∙◌}
use Rattle.std.specs.List.{slice_get}
use Rattle.hj_trace.specs.Stream.{TextStreamState}
use Rattle.hj_trace.proofs.Streams.{stands_next}
use Rattle.hj_trace.proofs.stream.TextStream.look.Goals as goal

pub returns-then-self-clause-next : goal.returns-then-self-clause-next
returns-then-self-clause-next g c =
    ap (λ (stream : TextStreamState). slice_get stream.unused 0) (sym c.self.view_is) ∙ stands_next c.self.inside.portion c.self.inside.used c.self.inside.filled c.if-self.true c.self.invariant.1
