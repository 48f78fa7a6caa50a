use Rattle.std.proofs.lemmas.Result.{err_from_is_err_and}
use Rattle.hj_opening.specs.Orders.{names_seen, source_seen}
use Rattle.hj_opening.specs.Words.{pair_lines}
use Rattle.hj_opening.proofs.Joined.{joins_lines, joins_so}
use Rattle.hj_serve.proofs.Opened.{in_step}
use Rattle.hj_serve.proofs.join.join_alone.Goals as goal

pub returns-in_err-query : goal.returns-in_err-query
returns-in_err-query g c =
    let p = err_from_is_err_and c.from_residual.result c.from_residual.ensures.1 in
    rw (p.1, p.2) ((c.in_err-query.ensures.ready pair_lines).runs (g.K.Sink.told c.args.out.now) (g.K.Sink.faults c.args.out.now))

pub join_serial-outcome-requires-clause-left : goal.join_serial-outcome-requires-clause-left
join_serial-outcome-requires-clause-left g c = in_step _ _ _ _ (c.in_ok-query.ensures.ready pair_lines).opened.of_left

pub join_serial-outcome-requires-clause-right : goal.join_serial-outcome-requires-clause-right
join_serial-outcome-requires-clause-right g c = in_step _ _ _ _ (c.in_ok-query.ensures.ready pair_lines).opened.of_right

pub returns : goal.returns
returns g c =
    joins_so pair_lines c.in_ok-query.query c.args.join.limit (names_seen c.args.join) (g.O.Outside.under c.args.outside.now) (g.O.Outside.state c.args.outside.now) (g.O.Outside.state c.make_ready.new.outside) (g.O.Outside.state c.join_serial-outcome.new.outside) (g.K.Sink.told c.args.out.now) (g.K.Sink.told c.join_serial-outcome.new.out) (g.K.Sink.faults c.args.out.now) (g.K.Sink.faults c.join_serial-outcome.new.out)
    (source_seen c.args.join.source) (c.in_ok-query.ensures.ready pair_lines) c.end_of.result c.join_serial-outcome.result c.end_of.ensures (joins_lines c.join_serial-outcome.ensures.joins) c.join_serial-outcome.ensures.faults
