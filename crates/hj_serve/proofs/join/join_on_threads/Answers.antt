use Rattle.std.proofs.Common.{sym, subst}
use Rattle.hj_opening.specs.Calls.{call}
use Rattle.hj_serve.specs.declared.ended.OrderEnd.{OrderEnd}
use Rattle.hj_serve.specs.OnCrew.{RunsOnCrew}
use Rattle.hj_opening.specs.Orders.{join_seen, names_seen, source_seen}
use Rattle.hj_opening.proofs.Joined.{joins_so}
use Rattle.hj_serve.specs.OrderPlan.{crew_seen, kind_of}
use Rattle.hj_serve.proofs.Crewed.{runs_early, runs_joined, shows_streams}
use Rattle.hj_serve.proofs.Opened.{in_step}
use Rattle.hj_serve.proofs.join.join_on_threads.Goals as goal

pub returns-in-Err : goal.returns-in-Err
returns-in-Err g c =
    let under = g.O.Outside.under c.args.outside.now in
    let out = g.K.Sink.told c.args.out.now in
    let faults = g.K.Sink.faults c.args.out.now in
    let crew = crew_seen c.args.plan.now.size in
    let kind = kind_of c.args.writing in
    let before = g.O.Outside.state c.args.outside.now in
    let now = g.O.Outside.state c.make_ready.new.outside in
    subst (λ (ended : OrderEnd). RunsOnCrew crew ended (join_seen kind c.args.join) (call under before now out out faults faults)) (sym c.early.ensures)
    (runs_early crew c.in-Err.note (join_seen kind c.args.join) under before now out faults (c.in-Err.ensures.ready kind))

pub join_ready-outcome-requires-clause-left : goal.join_ready-outcome-requires-clause-left
join_ready-outcome-requires-clause-left g c κs within = in_step _ _ _ _ (c.in-Ok.ensures.ready (kind_of c.args.writing)).opened.of_left

pub join_ready-outcome-requires-clause-right : goal.join_ready-outcome-requires-clause-right
join_ready-outcome-requires-clause-right g c κs within = in_step _ _ _ _ (c.in-Ok.ensures.ready (kind_of c.args.writing)).opened.of_right

pub returns : goal.returns
returns g c =
    let under = g.O.Outside.under c.args.outside.now in
    let before = g.O.Outside.state c.args.outside.now in
    let ready = g.O.Outside.state c.make_ready.new.outside in
    let now = g.O.Outside.state c.join_ready-outcome.new.outside in
    let old = g.K.Sink.told c.args.out.now in
    let new = g.K.Sink.told c.join_ready-outcome.new.out in
    let faults = g.K.Sink.faults c.args.out.now in
    let faults' = g.K.Sink.faults c.join_ready-outcome.new.out in
    let crew = crew_seen c.args.plan.now.size in
    let kind = kind_of c.args.writing in
    let source = source_seen c.args.join.source in
    let names = names_seen c.args.join in
    let limit = c.args.join.limit in
    let query = c.in-Ok.query in
    let ended = c.join_ready-outcome.result.0 in
    let ran = c.join_ready-outcome.result.1 in
    let made = c.join_ready-outcome.ensures in
    let is_ready = c.in-Ok.ensures.ready kind in
    runs_joined crew kind source names limit under before ready now old new query is_ready ended made.joins faults faults' c.end_of.result ran c.end_of.ensures
    (joins_so kind query limit names under before ready now old new faults faults' source is_ready c.end_of.result ended c.end_of.ensures made.joins made.faults)
    (shows_streams crew kind source names limit under before ready now old new query is_ready ended made.joins faults faults' ran made.shows) made.no_run
