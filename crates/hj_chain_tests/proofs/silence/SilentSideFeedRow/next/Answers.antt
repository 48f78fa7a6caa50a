use Rattle.std.proofs.Common.{arith}
use Rattle.hj_chain_tests.proofs.SilentSide.{gives-event}
use Rattle.hj_chain_tests.proofs.silence.SilentSideFeedRow.next.Goals as goal

pub returns-clause-answers : goal.returns-clause-answers
returns-clause-answers c =
    gives-event _ c.event.result c.args.self.now.given c.args.self.now.stopped (omega (arith, c.args.self.now.few, c.if-self-eq7.false)) c.if-self.false c.event.ensures
