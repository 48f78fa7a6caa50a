use Rattle.std.proofs.lemmas.Result.{err_from_is_err_and}
use Rattle.hj_opening.specs.Orders.{chain_seen, checked_names_seen}
use Rattle.hj_serve.proofs.Judged.{verified}
use Rattle.hj_serve.proofs.trace.check_trace.Goals as goal

pub returns-in_err-query : goal.returns-in_err-query
returns-in_err-query g c = λ told faults.
    let p = err_from_is_err_and c.from_residual.result c.from_residual.ensures.1 in
    rw (p.1, p.2) (c.in_err-query.ensures.ready told faults)

pub returns : goal.returns
returns g c = λ told faults.
    verified (chain_seen c.args.check.size) c.args.check.query.now (checked_names_seen c.args.check) c.args.check.limit (g.O.Outside.under c.args.outside.now) (g.O.Outside.state c.args.outside.now)
    (g.O.Outside.state c.make_ready_to_check.new.outside) (g.O.Outside.state c.verify-verdict.new.outside) told faults c.in_ok-query.query c.in_ok-query.ensures.ready c.verify-verdict.result c.verify-verdict.ensures.verifies
    c.end_of_verdict.result c.end_of_verdict.ensures
