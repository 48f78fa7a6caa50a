use Rattle.hj_stream.proofs.RawBetween.{raw_joins_none}
use Rattle.hj_engine.proofs.raw.join_raw.Goals as goal

pub returns-in_default-clause-joins : goal.returns-in_default-clause-joins
returns-in_default-clause-joins g c = (raw_joins_none c.args.query.now c.args.limit (g.O.Outside.state c.args.outside.now) (g.K.Sink.told c.args.out.now) c.requires.left c.requires.right, tt)
