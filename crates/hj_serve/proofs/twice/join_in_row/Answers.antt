use Rattle.std.proofs.lemmas.Result.{err_from_is_err_and}
use Rattle.hj_opening.specs.RunTwice.{twice_names}
use Rattle.hj_opening.proofs.TwiceJoined.{joins_twice}
use Rattle.hj_serve.proofs.twice.join_in_row.Goals as goal

pub returns-in_err-queries : goal.returns-in_err-queries
returns-in_err-queries g c =
    let p = err_from_is_err_and c.from_residual.result c.from_residual.ensures.1 in
    rw (p.1, p.2) (c.in_err-queries.ensures.ready (g.K.Sink.told c.args.out.now) (g.K.Sink.faults c.args.out.now))

pub returns : goal.returns
returns g c =
    joins_twice c.in_ok-queries.queries (twice_names c.args.joins) c.args.joins.limit (g.O.Outside.under c.args.outside.now) (g.O.Outside.state c.args.outside.now) (g.O.Outside.state c.make_twice_ready.new.outside) (g.O.Outside.state c.join_twice-ended.new.outside)
    (g.K.Sink.told c.args.out.now) (g.K.Sink.told c.join_twice-ended.new.out) (g.K.Sink.faults c.args.out.now) (g.K.Sink.faults c.join_twice-ended.new.out)
    c.in_ok-queries.ensures.ready c.join_twice-ended.result c.join_twice-ended.ensures.joins c.end_of_twice.result c.end_of_twice.ensures c.join_twice-ended.ensures.faults
