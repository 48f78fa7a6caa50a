use Rattle.std.proofs.lemmas.Result.{err_from_is_err_and}
use Rattle.hj_opening.proofs.RunningOrders.{check_refused, check_sent}
use Rattle.hj_opening.proofs.checking.check.Goals as goal

pub returns-in_err-query : goal.returns-in_err-query
returns-in_err-query g c =
    let p = err_from_is_err_and c.from_residual.result c.from_residual.ensures.1 in
    rw (p.1, p.2) (check_refused (g.O.Outside.under c.args.outside.now) (g.O.Outside.state c.args.outside.now) (g.O.Outside.state c.read_query.new.outside) (g.K.Sink.told c.args.out.now) (g.K.Sink.faults c.args.out.now) c.requires c.args.name.now c.in_err-query.field-0.0 c.in_err-query.ensures.gets)

pub returns : goal.returns
returns g c =
    check_sent c.args.name.now (g.O.Outside.under c.args.outside.now) (g.O.Outside.state c.args.outside.now) (g.O.Outside.state c.read_query.new.outside) c.requires c.in_ok-query.query c.in_ok-query.ensures.gets
    (g.K.Sink.told c.args.out.now) (g.K.Sink.told c.write_canonical.new.out) (g.K.Sink.faults c.args.out.now) (g.K.Sink.faults c.write_canonical.new.out) c.write_canonical.result c.write_canonical.ensures
