use Rattle.std.proofs.Common.{◌∙◌, sym, subst, ap, not}
use Rattle.std.specs.List.{list_any}
use Rattle.hj_driver.specs.declared.lane.Departure.TheVariants.{Row}
use Rattle.hj_driver.specs.declared.lane.OutstandingArrival.{OutstandingArrival}
use Rattle.hj_driver.specs.Lane.{LaneState, IsAt, waits_for, is_taken}
use Rattle.hj_driver.proofs.Arrivals.{waits-at, waits-absent}
use Rattle.hj_driver.proofs.lane.Lane.waits_for_row.Goals as goal

pub returns-in-Ok : goal.returns-in-Ok
returns-in-Ok c =
    let l = c.self.inside.arrivals.items in
    let x = c.index.result.now in
    let is : IsAt l c.args.no.0 c.in-Ok.at = subst (λ (s : LaneState). IsAt s.arrivals c.args.no.0 c.in-Ok.at) (sym c.self.view_is) c.in-Ok.ensures.found in
    c.is_before_its_row.ensures ∙ ap (λ (a : OutstandingArrival). not (is_taken Row a.taken)) c.index.ensures ∙ sym (waits-at l c.self.invariant.rising c.args.no.0 c.in-Ok.at is Row x)
    ∙ ap (λ (s : LaneState). list_any (waits_for c.args.no.0 Row) s.arrivals) c.self.view_is

pub returns-in-Err : goal.returns-in-Err
returns-in-Err c = sym (waits-absent c.args.self.now.arrivals c.args.no.0 Row c.in-Err.ensures.absent)
