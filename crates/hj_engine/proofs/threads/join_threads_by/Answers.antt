use Rattle.hj_stream.proofs.Joining.{joins_none}
use Rattle.hj_engine.proofs.threads.join_threads_by.Goals as goal

pub returns-in_default-clause-joins : goal.returns-in_default-clause-joins
returns-in_default-clause-joins g c = (joins_none (g.L.PairLine.line c.args.join.now.lines.now) c.args.join.now.query.now c.args.join.now.limit (g.O.Outside.state c.args.outside.now) (g.K.Sink.told c.args.out.now) c.requires.left c.requires.right, tt)
