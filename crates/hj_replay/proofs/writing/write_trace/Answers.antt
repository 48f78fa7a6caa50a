use Rattle.hj_replay.proofs.Traced.{traces_none}
use Rattle.hj_replay.proofs.writing.write_trace.Goals as goal

pub returns-in_default-clause-writes : goal.returns-in_default-clause-writes
returns-in_default-clause-writes g c =
    traces_none c.args.query.now c.args.plan.chooser c.args.plan.size.cores c.args.plan.size.flight c.args.limit (g.O.Outside.state c.args.outside.now) (g.K.Sink.told c.args.out.now) c.requires.left c.requires.right
