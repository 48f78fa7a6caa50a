use Rattle.hj_trace.proofs.Streams.{compare_same}
use Rattle.hj_trace.proofs.stream.TextStream.compare.Goals as goal

pub returns-then-use_waiting-clause-compares : goal.returns-then-use_waiting-clause-compares
returns-then-use_waiting-clause-compares g c =
    compare_same c.args.expected.now c.args.self.now c.use_waiting.new.self (g.O.Outside.state c.args.outside.now c.args.self.now.role) c.requires.nothing_left
    (c.use_waiting.ensures.waits c.if-use_waiting.true) (c.use_waiting.ensures.used c.if-use_waiting.true)
