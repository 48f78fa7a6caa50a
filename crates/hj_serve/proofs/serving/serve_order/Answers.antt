use Rattle.std.proofs.Common.{Some, subst}
use Rattle.hj_opening.specs.Calls.{call}
use Rattle.hj_opening.specs.Serve.{Serves}
use Rattle.hj_opening.specs.Orders.{chain_seen, check_seen, join_seen}
use Rattle.hj_opening.specs.RunTwice.{twice_names}
use Rattle.hj_opening.specs.Words.{Order, step_lines}
use Rattle.hj_opening.proofs.Serving.{serves_check, serves_order, serves_twice}
use Rattle.hj_serve.specs.OrderPlan.{asked_threads}
use Rattle.hj_serve.proofs.serving.serve_order.Goals as goal

pub returns-in-Threads-clause-serves : goal.returns-in-Threads-clause-serves
returns-in-Threads-clause-serves g c =
    subst (λ (order : Order). Serves c.report.result (Some order) (call (g.O.Outside.under c.args.outside.now) (g.O.Outside.state c.args.outside.now) (g.O.Outside.state c.run_on_threads-ended.new.outside) (g.K.Sink.told c.args.out.now) (g.K.Sink.told c.run_on_threads-ended.new.out) (g.K.Sink.faults c.args.out.now) (g.K.Sink.faults c.run_on_threads-ended.new.out))
    (g.N.Sink.told c.args.notes.now) (g.N.Sink.told c.report.new.notes) (g.N.Sink.refusals c.args.notes.now) (g.N.Sink.refusals c.report.new.notes)) c.in-Threads.ensures.asked
    (serves_order (call (g.O.Outside.under c.args.outside.now) (g.O.Outside.state c.args.outside.now) (g.O.Outside.state c.run_on_threads-ended.new.outside) (g.K.Sink.told c.args.out.now) (g.K.Sink.told c.run_on_threads-ended.new.out) (g.K.Sink.faults c.args.out.now) (g.K.Sink.faults c.run_on_threads-ended.new.out))
    c.report.result c.run_on_threads-ended.result.end (asked_threads c.in-Threads.asked) (g.N.Sink.told c.args.notes.now) (g.N.Sink.told c.report.new.notes) (g.N.Sink.refusals c.args.notes.now) (g.N.Sink.refusals c.report.new.notes)
    c.report.ensures.status c.run_on_threads-ended.ensures.runs c.report.ensures.note)

pub returns-in-Trace-clause-serves : goal.returns-in-Trace-clause-serves
returns-in-Trace-clause-serves g c =
    let seen = call (g.O.Outside.under c.args.outside.now) (g.O.Outside.state c.args.outside.now) (g.O.Outside.state c.trace_join.new.outside) (g.K.Sink.told c.args.out.now) (g.K.Sink.told c.trace_join.new.out) (g.K.Sink.faults c.args.out.now) (g.K.Sink.faults c.trace_join.new.out) in
    subst (λ (order : Order). Serves c.report-in-Trace.result (Some order) seen (g.N.Sink.told c.args.notes.now) (g.N.Sink.told c.report-in-Trace.new.notes) (g.N.Sink.refusals c.args.notes.now) (g.N.Sink.refusals c.report-in-Trace.new.notes)) c.in-Trace.ensures.asked
    (serves_order seen c.report-in-Trace.result c.trace_join.result (join_seen (step_lines (chain_seen c.in-Trace.plan.size) c.in-Trace.plan.chooser) c.in-Trace.join)
    (g.N.Sink.told c.args.notes.now) (g.N.Sink.told c.report-in-Trace.new.notes) (g.N.Sink.refusals c.args.notes.now) (g.N.Sink.refusals c.report-in-Trace.new.notes)
    c.report-in-Trace.ensures.status c.trace_join.ensures c.report-in-Trace.ensures.note)

pub returns-in-Verify-clause-serves : goal.returns-in-Verify-clause-serves
returns-in-Verify-clause-serves g c =
    let told = g.K.Sink.told c.args.out.now in
    let faults = g.K.Sink.faults c.args.out.now in
    let seen = call (g.O.Outside.under c.args.outside.now) (g.O.Outside.state c.args.outside.now) (g.O.Outside.state c.check_trace.new.outside) told told faults faults in
    subst (λ (order : Order). Serves c.report-in-Verify.result (Some order) seen (g.N.Sink.told c.args.notes.now) (g.N.Sink.told c.report-in-Verify.new.notes) (g.N.Sink.refusals c.args.notes.now) (g.N.Sink.refusals c.report-in-Verify.new.notes)) c.in-Verify.ensures.asked
    (serves_check seen c.report-in-Verify.result c.check_trace.result (check_seen c.in-Verify.check)
    (g.N.Sink.told c.args.notes.now) (g.N.Sink.told c.report-in-Verify.new.notes) (g.N.Sink.refusals c.args.notes.now) (g.N.Sink.refusals c.report-in-Verify.new.notes)
    c.report-in-Verify.ensures.status (c.check_trace.ensures told faults) c.report-in-Verify.ensures.note)

pub returns-in-Twice-clause-serves : goal.returns-in-Twice-clause-serves
returns-in-Twice-clause-serves g c =
    let seen = call (g.O.Outside.under c.args.outside.now) (g.O.Outside.state c.args.outside.now) (g.O.Outside.state c.join_in_row.new.outside) (g.K.Sink.told c.args.out.now) (g.K.Sink.told c.join_in_row.new.out) (g.K.Sink.faults c.args.out.now) (g.K.Sink.faults c.join_in_row.new.out) in
    subst (λ (order : Order). Serves c.report-in-Twice.result (Some order) seen (g.N.Sink.told c.args.notes.now) (g.N.Sink.told c.report-in-Twice.new.notes) (g.N.Sink.refusals c.args.notes.now) (g.N.Sink.refusals c.report-in-Twice.new.notes)) c.in-Twice.ensures.asked
    (serves_twice seen c.report-in-Twice.result c.join_in_row.result (twice_names c.in-Twice.joins) c.in-Twice.joins.limit (g.N.Sink.told c.args.notes.now) (g.N.Sink.told c.report-in-Twice.new.notes) (g.N.Sink.refusals c.args.notes.now) (g.N.Sink.refusals c.report-in-Twice.new.notes)
    c.report-in-Twice.ensures.status c.join_in_row.ensures c.report-in-Twice.ensures.note)
