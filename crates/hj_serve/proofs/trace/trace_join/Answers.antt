use Rattle.std.proofs.lemmas.Result.{err_from_is_err_and}
use Rattle.hj_opening.specs.Orders.{chain_seen, names_seen, source_seen}
use Rattle.hj_opening.specs.Words.{pair_lines, step_lines}
use Rattle.hj_opening.proofs.Joined.{joins_so}
use Rattle.hj_serve.proofs.Opened.{in_step}
use Rattle.hj_serve.proofs.TraceJoined.{joins_steps}
use Rattle.hj_serve.proofs.trace.trace_join.Goals as goal

pub returns-in_err-query : goal.returns-in_err-query
returns-in_err-query g c =
    let p = err_from_is_err_and c.from_residual.result c.from_residual.ensures.1 in
    rw (p.1, p.2) ((c.in_err-query.ensures.ready (step_lines (chain_seen c.args.plan.size) c.args.plan.chooser)).runs (g.K.Sink.told c.args.out.now) (g.K.Sink.faults c.args.out.now))

pub write_trace-outcome-requires-clause-left : goal.write_trace-outcome-requires-clause-left
write_trace-outcome-requires-clause-left g c = in_step _ _ _ _ (c.in_ok-query.ensures.ready pair_lines).opened.of_left

pub write_trace-outcome-requires-clause-right : goal.write_trace-outcome-requires-clause-right
write_trace-outcome-requires-clause-right g c = in_step _ _ _ _ (c.in_ok-query.ensures.ready pair_lines).opened.of_right

pub returns : goal.returns
returns g c =
    let chain = chain_seen c.args.plan.size in
    let rule = c.args.plan.chooser in
    joins_so (step_lines chain rule) c.in_ok-query.query c.args.join.limit (names_seen c.args.join) (g.O.Outside.under c.args.outside.now) (g.O.Outside.state c.args.outside.now) (g.O.Outside.state c.make_ready.new.outside) (g.O.Outside.state c.write_trace-outcome.new.outside) (g.K.Sink.told c.args.out.now) (g.K.Sink.told c.write_trace-outcome.new.out) (g.K.Sink.faults c.args.out.now) (g.K.Sink.faults c.write_trace-outcome.new.out)
    (source_seen c.args.join.source) (c.in_ok-query.ensures.ready (step_lines chain rule)) c.end_of.result c.write_trace-outcome.result c.end_of.ensures (joins_steps c.in_ok-query.query chain rule c.args.join.limit c.write_trace-outcome.ensures.writes) c.write_trace-outcome.ensures.faults
